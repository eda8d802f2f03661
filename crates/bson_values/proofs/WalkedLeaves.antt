-- Lengths, texts, names and other values without parts: reading and walking agree.
use Rattle.std.proofs.Common.{◌≡◌, ℕ, zero, suc, ◌+◌, ◌-◌, ◌<◌, Bool, true, false, cond, ltb, leb, eqb, List, [], ◌∷◌, length, get_or, take, drop, Option, Some, None, Result, Ok, Err, refl, sym, ap, subst, ◌∙◌, arith, length-append}
use Rattle.std.specs.Prelude.{◌||◌}
use Rattle.std.specs.Int.{w32, from_le_bytes}
use Rattle.std.specs.Option.{option_map}
use Rattle.std.specs.Str.{is_utf8}
use Rattle.std.proofs.lemmas.Bool.{ltb-false, lt-ltb, le-ltb, eqb-true}
use Rattle.std.proofs.lemmas.Bool.Decides.{nat_tests}
use Rattle.std.proofs.lemmas.List.{length-drop}
use Rattle.bson_model.specs.Limits.{length_limit}
use Rattle.bson_model.specs.Faults.{Holder, last, Step, goes_on, faulty, length_fault, string_fault, depth_fault, trailing_fault, Form, before_zero, short, fixed_step, boolean_step, stated_step, length_step, string_step, binary_step, value_step, named_step}
use Rattle.bson_values.specs.declared.fault.BsonFault.{BsonFault}
use Rattle.bson_values.specs.declared.fault.BsonFault.TheVariants.{Short, BadLength, BadText}
use Rattle.bson_values.specs.ReadFaults.{◌>>=◌}
use Rattle.bson_values.specs.Readers.{length_within, length_at, fixed_at, utf8_at, text_at, content_at, boolean_at, deep_unless, deep_at, name_from, room_at, index_at, name_at}
use Rattle.bson_values.proofs.Leaves.{TakesName, name_takes}
use Rattle.bson_values.proofs.ReaderWalks.{Leads, stop, Goes, same_leads, goes_bind, split, lt_same, Stands, stands_at, byte_at, byte_here}

-- the walk goes on after the bytes that were read
abbrev pub on_behind : {A : Type 0} → List ℕ → Holder → List Holder → A × List ℕ → Step
on_behind all h outer x = goes_on (length all - length x.1) (h ∷ outer)

pub fixed_goes : (all : List ℕ) (n offset room : ℕ) (h : Holder) (outer : List Holder) (bytes : List ℕ) → offset + length bytes ≡ length all → offset + room ≡ h.end → 0 < room
    → Goes all (fixed_step all n offset h outer) (fixed_at (length all) n room bytes) (on_behind all h outer)
unfolding fixed_at
fixed_goes all n offset room h outer bytes at within some =
    split all (ltb h.end (offset + n)) (ltb room n) _ _ _ _ (on_behind all h outer) (lt_same _ _ _ _ (λ l. omega arith) (λ l. omega arith))
    (λ t. split all (ltb (length all) h.end) (ltb (length bytes) room) _ _ _ _ (on_behind all h outer) (lt_same _ _ _ _ (λ l. omega arith) (λ l. omega arith)) (λ u. same_leads all _ _ refl) (λ u. same_leads all _ _ (ap (λ (p : ℕ). faulty trailing_fault p) (omega arith))))
    (λ t. split all (ltb (length all) (offset + n)) (ltb (length bytes) n) _ _ _ _ (on_behind all h outer) (lt_same _ _ _ _ (λ l. omega arith) (λ l. omega arith)) (λ u. same_leads all _ _ refl) (λ u. same_leads all _ _ (ap (λ (p : ℕ). goes_on p (h ∷ outer)) (let long = ltb-false _ _ u in omega (arith, length-drop n bytes)))))

-- ---- lengths

stated_goes : (all : List ℕ) (least beside end offset room n : ℕ) (further : ℕ → Step) (rest : List ℕ) → offset + room ≡ end → Goes all (stated_step all least beside end offset n further) (length_within least beside room offset n rest) (λ x. further x.0)
unfolding length_within
stated_goes all least beside end offset room n further rest within =
    split all (ltb n least) (ltb n least) _ _ _ _ (λ x. further x.0) refl (λ t. same_leads all _ _ refl)
    (λ t. split all (leb length_limit n) (leb length_limit n) _ _ _ _ (λ x. further x.0) refl (λ u. same_leads all _ _ refl)
    (λ u. split all (ltb end (offset + (n + beside))) (ltb room (n + beside)) _ _ _ _ (λ x. further x.0) (lt_same _ _ _ _ (λ l. omega arith) (λ l. omega arith)) (λ v. same_leads all _ _ refl) (λ v. same_leads all _ _ refl)))

pub length_goes : (all : List ℕ) (least beside end offset room : ℕ) (further : ℕ → Step) (bytes : List ℕ) → Stands all bytes → offset + length bytes ≡ length all → offset + room ≡ end
    → Goes all (length_step all least beside end offset (short all) further) (length_at (length all) least beside room bytes) (λ x. further x.0)
unfolding length_at
length_goes all least beside end offset room further bytes stands at within =
    let here : length all - length bytes ≡ offset = omega arith in
    let there : drop offset all ≡ bytes = stands_at all bytes offset stands at in
    rw (here, there)
    (split all (leb (length all) offset) (eqb (length bytes) 0) _ _ _ _ (λ x. further x.0) (grind (arith, nat_tests)) (λ t. same_leads all _ _ refl)
    (λ t. split all (ltb end (offset + 5)) (ltb room 5) _ _ _ _ (λ x. further x.0) (lt_same _ _ _ _ (λ l. omega arith) (λ l. omega arith)) (λ u. same_leads all _ _ refl)
    (λ u. split all (ltb (length all) (offset + 4)) (ltb (length bytes) 4) _ _ _ _ (λ x. further x.0) (lt_same _ _ _ _ (λ l. omega arith) (λ l. omega arith)) (λ v. same_leads all _ _ refl)
    (λ v. stated_goes all least beside end offset room (from_le_bytes w32 (take 4 bytes)) further (drop 4 bytes) within))))

-- ---- a document or an array at level 101

deep_split : (all bytes : List ℕ) (t u : Bool) (s s' : Step) (r r' : Result (ℕ × List ℕ) BsonFault) → t ≡ u → (u ≡ true → Leads all s (stop (deep_unless (length all) bytes r))) → (u ≡ false → Leads all s' (stop (deep_unless (length all) bytes r')))
    → Leads all (cond t s s') (stop (deep_unless (length all) bytes (cond u r r')))
deep_split all bytes true true s s' r r' e then other = then refl
deep_split all bytes false false s s' r r' e then other = other refl
deep_split all bytes true false s s' r r' e then other = absurd cc
deep_split all bytes false true s s' r r' e then other = absurd cc

-- the length has no fault
deep_here : (all bytes : List ℕ) (offset : ℕ) (r : Result (ℕ × List ℕ) BsonFault) → offset + length bytes ≡ length all → 0 < length bytes → stop (deep_unless (length all) bytes r) ≡ stop (deep_unless (length all) bytes (Err (Short (length all)))) → faulty depth_fault offset ≡ stop (deep_unless (length all) bytes r)
unfolding deep_unless
deep_here all bytes offset r at some e =
    let t : eqb (length bytes) 0 ≡ false = grind (arith, nat_tests) in
    let here : length all - length bytes ≡ offset = omega arith in
    rw e (rw (t, here) refl)

deep_cut : (all bytes : List ℕ) → length bytes ≡ 0 → short all ≡ stop (deep_unless (length all) bytes (Err (Short (length all))))
unfolding deep_unless
deep_cut all bytes none = let t : eqb (length bytes) 0 ≡ true = grind (arith, nat_tests) in rw t refl

deep_bad : (all bytes : List ℕ) (offset : ℕ) → faulty length_fault offset ≡ stop (deep_unless (length all) bytes (Err (BadLength offset)))
unfolding deep_unless
deep_bad all bytes offset = refl

deep_read : (all bytes : List ℕ) (x : ℕ × List ℕ) → stop (deep_unless (length all) bytes (Ok x)) ≡ stop (deep_unless (length all) bytes (Err (Short (length all))))
unfolding deep_unless
deep_read all bytes x = refl

deep_stated : (all : List ℕ) (least beside end offset room n : ℕ) (bytes rest : List ℕ) → offset + room ≡ end → offset + length bytes ≡ length all → 0 < length bytes
    → Leads all (stated_step all least beside end offset n (λ m. faulty depth_fault offset)) (stop (deep_unless (length all) bytes (length_within least beside room offset n rest)))
unfolding length_within
deep_stated all least beside end offset room n bytes rest within at some =
    deep_split all bytes (ltb n least) (ltb n least) _ _ _ _ refl (λ t. same_leads all _ _ (deep_bad all bytes offset))
    (λ t. deep_split all bytes (leb length_limit n) (leb length_limit n) _ _ _ _ refl (λ u. same_leads all _ _ (deep_bad all bytes offset))
    (λ u. deep_split all bytes (ltb end (offset + (n + beside))) (ltb room (n + beside)) _ _ _ _ (lt_same _ _ _ _ (λ l. omega arith) (λ l. omega arith)) (λ v. same_leads all _ _ (deep_bad all bytes offset)) (λ v. same_leads all _ _ (deep_here all bytes offset (Ok (n, rest)) at some (deep_read all bytes (n, rest))))))

pub deep_leads : (all : List ℕ) (end offset room : ℕ) (bytes : List ℕ) → Stands all bytes → offset + length bytes ≡ length all → offset + room ≡ end
    → Leads all (length_step all 5 0 end offset (faulty depth_fault offset) (λ n. faulty depth_fault offset)) (stop (deep_at (length all) room bytes))
unfolding deep_at length_at
deep_leads all end offset room bytes stands at within =
    let here : length all - length bytes ≡ offset = omega arith in
    let there : drop offset all ≡ bytes = stands_at all bytes offset stands at in
    rw (here, there)
    (deep_split all bytes (leb (length all) offset) (eqb (length bytes) 0) _ _ _ _ (grind (arith, nat_tests)) (λ t. same_leads all _ _ (deep_cut all bytes (eqb-true _ _ t)))
    (λ t. let some : 0 < length bytes = grind (arith, nat_tests) in
    deep_split all bytes (ltb end (offset + 5)) (ltb room 5) _ _ _ _ (lt_same _ _ _ _ (λ l. omega arith) (λ l. omega arith)) (λ u. same_leads all _ _ (deep_bad all bytes offset))
    (λ u. deep_split all bytes (ltb (length all) (offset + 4)) (ltb (length bytes) 4) _ _ _ _ (lt_same _ _ _ _ (λ l. omega arith) (λ l. omega arith)) (λ v. same_leads all _ _ (deep_here all bytes offset (Err (Short (length all))) at some refl))
    (λ v. deep_stated all 5 0 end offset room (from_le_bytes w32 (take 4 bytes)) bytes (drop 4 bytes) within at some))))

-- ---- booleans, texts and binaries

pub boolean_goes : (all : List ℕ) (offset : ℕ) (h : Holder) (outer : List Holder) (bytes : List ℕ) → Stands all bytes → offset + length bytes ≡ length all
    → Goes all (boolean_step all offset h outer) (boolean_at (length all) bytes) (on_behind all h outer)
unfolding boolean_at
boolean_goes all offset h outer [] stands at = let none : leb (length all) offset ≡ true = grind (arith, nat_tests) in same_leads all _ _ (rw none refl)
boolean_goes all offset h outer (zero ∷ bytes) stands at =
    let some : leb (length all) offset ≡ false = grind (arith, nat_tests) in
    let byte : get_or all offset 0 ≡ 0 = byte_here all (0 ∷ bytes) offset stands at in
    let behind : length all - length bytes ≡ offset + 1 = omega arith in
    same_leads all _ _ (rw (some, byte, behind) refl)
boolean_goes all offset h outer (suc zero ∷ bytes) stands at =
    let some : leb (length all) offset ≡ false = grind (arith, nat_tests) in
    let byte : get_or all offset 0 ≡ 1 = byte_here all (1 ∷ bytes) offset stands at in
    let behind : length all - length bytes ≡ offset + 1 = omega arith in
    same_leads all _ _ (rw (some, byte, behind) refl)
boolean_goes all offset h outer (suc (suc b) ∷ bytes) stands at =
    let some : leb (length all) offset ≡ false = grind (arith, nat_tests) in
    let byte : get_or all offset 0 ≡ suc (suc b) = byte_here all (suc (suc b) ∷ bytes) offset stands at in
    let here : length all - (length bytes + 1) ≡ offset = omega arith in
    let high : ltb (suc (suc b)) 2 ≡ false = le-ltb _ _ (omega arith) in
    same_leads all _ _ (rw (some, byte, here, high) refl)

-- a text that passes a test
utf8_by : {A : Type 0} (all : List ℕ) (offset : ℕ) (text : List ℕ) (s : Step) (f : List ℕ → Result A BsonFault) (next : A → Step) (b : Bool) → Goes all s (f text) next
    → Goes all (cond b s (faulty string_fault offset)) (cond b (Ok text) (Err (BadText offset)) >>= f) next
utf8_by all offset text s f next true goes = goes
utf8_by all offset text s f next false goes = same_leads all _ _ refl

utf8_goes : {A : Type 0} (all : List ℕ) (offset : ℕ) (text : List ℕ) (s : Step) (f : List ℕ → Result A BsonFault) (next : A → Step) → Goes all s (f text) next
    → Goes all (cond (is_utf8 text) s (faulty string_fault offset)) (utf8_at offset text >>= f) next
unfolding utf8_at
utf8_goes all offset text s f next goes = utf8_by all offset text s f next (is_utf8 text) goes

pub text_goes : (all : List ℕ) (n offset : ℕ) (h : Holder) (outer : List Holder) (bytes : List ℕ) → Stands all bytes → offset + length bytes ≡ length all → 0 < n
    → Goes all (string_step all n offset h outer) (text_at (length all) n bytes) (on_behind all h outer)
unfolding text_at
text_goes all n offset h outer bytes stands at some =
    let here : length all - length bytes ≡ offset = omega arith in
    let there : drop offset all ≡ bytes = stands_at all bytes offset stands at in
    let k : offset + n - 1 ≡ offset + (n - 1) = omega arith in
    rw (here, there, k, byte_at all bytes offset (n - 1) stands at)
    (split all (ltb (length all) (offset + n)) (ltb (length bytes) n) _ _ _ _ (on_behind all h outer) (lt_same _ _ _ _ (λ l. omega arith) (λ l. omega arith)) (λ t. same_leads all _ _ refl)
    (λ t. split all (eqb (get_or bytes (n - 1) 0) 0) (eqb (get_or bytes (n - 1) 0) 0) _ _ _ _ (on_behind all h outer) refl
    (λ u. utf8_goes all offset (take (n - 1) bytes) _ _ (on_behind all h outer) (same_leads all _ _ (ap (λ (p : ℕ). goes_on p (h ∷ outer)) (let long = ltb-false _ _ t in omega (arith, length-drop n bytes)))))
    (λ u. same_leads all _ _ refl)))

pub content_goes : (all : List ℕ) (n offset : ℕ) (h : Holder) (outer : List Holder) (bytes : List ℕ) → offset + length bytes ≡ length all
    → Goes all (binary_step all n offset h outer) (content_at (length all) n bytes) (on_behind all h outer)
unfolding content_at
content_goes all n offset h outer [] at = let none : ltb (length all) (offset + (n + 1)) ≡ true = lt-ltb _ _ (omega arith) in same_leads all _ _ (rw none refl)
content_goes all n offset h outer (subtype ∷ bytes) at =
    split all (ltb (length all) (offset + (n + 1))) (ltb (length bytes) n) _ _ _ _ (on_behind all h outer) (lt_same _ _ _ _ (λ l. omega arith) (λ l. omega arith)) (λ t. same_leads all _ _ refl)
    (λ t. same_leads all _ _ (ap (λ (p : ℕ). goes_on p (h ∷ outer)) (let long = ltb-false _ _ t in omega (arith, length-drop n bytes))))

-- ---- names

-- how a name is found
abbrev named : ℕ → ℕ → ℕ → List ℕ → Option (List ℕ) → Result (List ℕ × List ℕ) BsonFault
named total offset room bytes None = cond (ltb (length bytes) room) (Err (Short total)) (Err (BadText offset))
named total offset room bytes (Some name) = Ok (name, drop (suc (length name)) bytes)

fails_on : {A B : Type 0} (t : Bool) (d e : BsonFault) (f : A → Result B BsonFault) → cond t (Err d) (Err e) ≡ (cond t (Err d) (Err e) >>= f)
fails_on true d e f = refl
fails_on false d e f = refl

one_more : (total offset room b : ℕ) (bytes : List ℕ) (o : Option (List ℕ)) → named total offset (suc room) (b ∷ bytes) (option_map (λ name. b ∷ name) o) ≡ (named total offset room bytes o >>= λ x. Ok (b ∷ x.0, x.1))
one_more total offset room b bytes (Some name) = refl
one_more total offset room b bytes None =
    let e : ltb (length (b ∷ bytes)) (suc room) ≡ ltb (length bytes) room = lt_same _ _ _ _ (λ l. omega arith) (λ l. omega arith) in
    rw e (fails_on (ltb (length bytes) room) (Short total) (BadText offset) (λ x. Ok (b ∷ x.0, x.1)))

named_by : (total offset room b : ℕ) (bytes : List ℕ) (t : Bool) → named total offset room bytes (before_zero (take room bytes)) ≡ name_from total offset room bytes
    → named total offset (suc room) (b ∷ bytes) (cond t (Some []) (option_map (λ name. b ∷ name) (before_zero (take room bytes)))) ≡ cond t (Ok ([], bytes)) (name_from total offset room bytes >>= λ x. Ok (b ∷ x.0, x.1))
named_by total offset room b bytes true e = refl
named_by total offset room b bytes false e = one_more total offset room b bytes (before_zero (take room bytes)) ∙ ap (λ (r : Result (List ℕ × List ℕ) BsonFault). r >>= λ x. Ok (b ∷ x.0, x.1)) e

pub named_is : (total offset room : ℕ) (bytes : List ℕ) → named total offset room bytes (before_zero (take room bytes)) ≡ name_from total offset room bytes
unfolding name_from
named_is total offset zero bytes = let t : ltb (length bytes) 0 ≡ false = le-ltb _ _ (omega arith) in rw t refl
named_is total offset (suc room) [] = let t : ltb 0 (suc room) ≡ true = lt-ltb _ _ (omega arith) in rw t refl
named_is total offset (suc room) (b ∷ bytes) = named_by total offset room b bytes (eqb b 0) (named_is total offset room bytes)

-- the room after a name
pub room_goes : (all : List ℕ) (offset room : ℕ) (h : Holder) (rest : List ℕ) (further : Step) → offset + 1 + length rest ≡ length all → offset + 1 + room ≡ h.end
    → Goes all (cond (eqb offset (last h)) (faulty trailing_fault (last h)) further) (room_at (length all) room rest) (λ left. further)
unfolding room_at
room_goes all offset zero h rest further at within =
    let here : eqb offset (last h) ≡ true = grind (arith, nat_tests) in
    let e : last h ≡ length all - (length rest + 1) = omega arith in
    same_leads all _ _ (rw here (ap (λ (p : ℕ). faulty trailing_fault p) e))
room_goes all offset (suc room) h rest further at within =
    let before : eqb offset (last h) ≡ false = grind (arith, nat_tests) in
    same_leads all _ _ (rw before refl)

cut_by : {A : Type 0} (all : List ℕ) (t u : Bool) (s s' : Step) (d e : BsonFault) (f : List ℕ × List ℕ → Result A BsonFault) (next : A → Step) → t ≡ u → s ≡ stop d → s' ≡ stop e → Goes all (cond t s s') (cond u (Err d) (Err e) >>= f) next
cut_by all true true s s' d e f next same first second = same_leads all _ _ first
cut_by all false false s s' d e f next same first second = same_leads all _ _ second
cut_by all true false s s' d e f next same first second = absurd cc
cut_by all false true s s' d e f next same first second = absurd cc

by_option : {A : Type 0} (all : List ℕ) (form : Form) (offset room : ℕ) (h : Holder) (outer : List Holder) (bytes : List ℕ) (f : List ℕ × List ℕ → Result A BsonFault) (next : A → Step) (o : Option (List ℕ))
    → offset + length bytes ≡ length all → offset + room ≡ h.end
    → ((name : List ℕ) → o ≡ Some name → Goes all (named_step all form offset h outer (Some name)) (f (name, drop (suc (length name)) bytes)) next)
    → Goes all (named_step all form offset h outer o) (named (length all) offset room bytes o >>= f) next
by_option all form offset room h outer bytes f next (Some name) at within found = found name refl
by_option all form offset room h outer bytes f next None at within found =
    cut_by all (ltb (length all) h.end) (ltb (length bytes) room) _ _ (Short (length all)) (BadText offset) f next (lt_same _ _ _ _ (λ l. omega arith) (λ l. omega arith)) refl refl

-- a name, and what is read after it
by_name : {A : Type 0} (all : List ℕ) (form : Form) (offset room : ℕ) (h : Holder) (outer : List Holder) (bytes : List ℕ) (f : List ℕ × List ℕ → Result A BsonFault) (next : A → Step)
    → offset + length bytes ≡ length all → offset + room ≡ h.end
    → ((name : List ℕ) → TakesName bytes room name (drop (suc (length name)) bytes) → Goes all (named_step all form offset h outer (Some name)) (f (name, drop (suc (length name)) bytes)) next)
    → Goes all (named_step all form offset h outer (before_zero (take room bytes))) (name_from (length all) offset room bytes >>= f) next
by_name all form offset room h outer bytes f next at within found =
    let is = named_is (length all) offset room bytes in
    subst (λ (r : Result (List ℕ × List ℕ) BsonFault). Goes all (named_step all form offset h outer (before_zero (take room bytes))) (r >>= f) next) is
    (by_option all form offset room h outer bytes f next (before_zero (take room bytes)) at within
    (λ name e. found name (name_takes (length all) offset room bytes (name, drop (suc (length name)) bytes) (sym is ∙ ap (λ (o : Option (List ℕ)). named (length all) offset room bytes o) e))))

-- after a name there is room for a value
behind_name : {A : Type 0} (all : List ℕ) (form : Form) (offset room : ℕ) (h : Holder) (outer : List Holder) (bytes name rest : List ℕ) (made : ℕ → A) (next : A → Step) → ((left : ℕ) → next (made left) ≡ value_step all form (length all - length rest) h outer)
    → offset + length bytes ≡ length all → offset + room ≡ h.end → TakesName bytes room name rest
    → Goes all (cond (eqb (offset + length name) (last h)) (faulty trailing_fault (last h)) (value_step all form (offset + (length name + 1)) h outer)) (room_at (length all) (room - (length bytes - length rest)) rest >>= λ left. Ok (made left)) next
behind_name all form offset room h outer bytes name rest made next is at within t =
    let len : length bytes ≡ length name + (length rest + 1) = ap (λ (s : List ℕ). length s) t.parts ∙ length-append name (0 ∷ rest) ∙ omega arith in
    let fits : length name < room = t.fits in
    let value : Step = value_step all form (length all - length rest) h outer in
    let behind : offset + (length name + 1) ≡ length all - length rest = omega arith in
    rw behind
    (goes_bind all _ (room_at (length all) (room - (length bytes - length rest)) rest) (λ left. Ok (made left)) (λ left. value) next
    (room_goes all (offset + length name) (room - (length bytes - length rest)) h rest value (omega arith) (omega arith))
    (λ left e. same_leads all _ _ (sym (is left))))

-- the text of a name is checked in a document, but not in an array
tested : {A : Type 0} (all : List ℕ) (b u : Bool) (s s' : Step) (r : Result A BsonFault) (next : A → Step) → b ≡ false → Goes all (cond u s s') r next → Goes all (cond (b || u) s s') r next
tested all false u s s' r next e goes = goes
tested all true u s s' r next e goes = absurd cc

untested : {A : Type 0} (all : List ℕ) (b u : Bool) (s s' : Step) (r : Result A BsonFault) (next : A → Step) → b ≡ true → Goes all s r next → Goes all (cond (b || u) s s') r next
untested all true u s s' r next e goes = goes
untested all false u s s' r next e goes = absurd cc

-- a name in a document
pub named_goes : (all : List ℕ) (form : Form) (offset room : ℕ) (h : Holder) (outer : List Holder) (bytes : List ℕ) → h.is_array ≡ false → offset + length bytes ≡ length all → offset + room ≡ h.end
    → Goes all (named_step all form offset h outer (before_zero (take room bytes))) (name_at (length all) room bytes) (λ x. value_step all form (length all - length x.2) h outer)
unfolding name_at
named_goes all form offset room h outer bytes no_array at within =
    let here : length all - length bytes ≡ offset = omega arith in
    rw here
    (by_name all form offset room h outer bytes _ _ at within
    (λ name t. tested all h.is_array (is_utf8 name) _ _ _ _ no_array
    (utf8_goes all offset name _ _ _ (behind_name all form offset room h outer bytes name (drop (suc (length name)) bytes) (λ left. (name, left, drop (suc (length name)) bytes)) _ (λ left. refl) at within t))))

-- a name in an array
pub index_goes : (all : List ℕ) (form : Form) (offset room : ℕ) (h : Holder) (outer : List Holder) (bytes : List ℕ) → h.is_array ≡ true → offset + length bytes ≡ length all → offset + room ≡ h.end
    → Goes all (named_step all form offset h outer (before_zero (take room bytes))) (index_at (length all) room bytes) (λ x. value_step all form (length all - length x.1) h outer)
unfolding index_at
index_goes all form offset room h outer bytes is_array at within =
    let here : length all - length bytes ≡ offset = omega arith in
    rw here
    (by_name all form offset room h outer bytes _ _ at within
    (λ name t. untested all h.is_array (is_utf8 name) _ _ _ _ is_array
    (behind_name all form offset room h outer bytes name (drop (suc (length name)) bytes) (λ left. (left, drop (suc (length name)) bytes)) _ (λ left. refl) at within t)))
