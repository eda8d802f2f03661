-- Lengths, texts, names and other values without parts: what is read has the encoding that was read, and each encoding is read.
use Rattle.std.proofs.Common.{◌≡◌, ◌≢◌, ℕ, zero, suc, ◌+◌, ◌-◌, ◌<◌, ◌≤◌, true, false, cond, ltb, leb, eqb, List, [], ◌∷◌, ◌++◌, length, get_or, take, drop, Result, Ok, Err, refl, sym, ap, subst, ◌∙◌, append_assoc, drop-cons, arith, inl, inr}
use Rattle.std.specs.Prelude.{IsTrue}
use Rattle.std.specs.Int.{w32, from_le_bytes, to_le_bytes}
use Rattle.std.specs.Str.{IsUtf8, is_utf8}
use Rattle.std.proofs.lemmas.Bool.{ltb-false, le-ltb, eqb-true}
use Rattle.std.proofs.lemmas.Bool.Decides.{nat_tests}
use Rattle.std.proofs.lemmas.List.{take_at, drop_at, take-append-drop, length-append, length-take, get_or-drop}
use Rattle.std.proofs.lemmas.Nat.{le_bytes_4, from_le_bytes-to_le_bytes_4}
use Rattle.std.proofs.lemmas.Str.{IsUtf8-from_is_utf8, is_utf8-from_IsUtf8}
use Rattle.std.proofs.lemmas.Grind.{common_steps}
use Rattle.bson_model.specs.Spelling.{string}
use Rattle.bson_model.specs.Grammar.{AreBytes, HasNoZero}
use Rattle.bson_model.specs.Limits.{length_limit}
use Rattle.bson_model.proofs.Lengths.{length-string, string-append}
use Rattle.bson_values.specs.declared.fault.BsonFault.{BsonFault}
use Rattle.bson_values.specs.declared.fault.BsonFault.TheVariants.{Short, BadLength, BadText, Trailing}
use Rattle.bson_values.specs.ReadFaults.{◌>>=◌}
use Rattle.bson_values.specs.Names.{has_no_zero}
use Rattle.bson_values.specs.Readers.{length_within, length_at, fixed_at, utf8_at, text_at, string_at, name_from, room_at, index_at, name_at}
use Rattle.bson_values.proofs.NameTests.{test-from_HasNoZero}
use Rattle.bson_values.proofs.Steps.{bind_ok, guard_ok, guard_true, chosen, ok_is}

pub AreBytes-drop : (n : ℕ) (bytes : List ℕ) → AreBytes bytes → AreBytes (drop n bytes)
AreBytes-drop n bytes h i = rw get_or-drop (h (n + i))

pub AreBytes-take : (n : ℕ) (bytes : List ℕ) → AreBytes bytes → AreBytes (take n bytes)
AreBytes-take n bytes h i = grind (arith, common_steps, h i)

-- what follows some bytes
pub AreBytes-rest : (bytes a rest : List ℕ) → bytes ≡ a ++ rest → AreBytes bytes → AreBytes rest
AreBytes-rest bytes a rest e h = subst (λ (r : List ℕ). AreBytes r) (ap (λ (s : List ℕ). drop (length a) s) e ∙ drop_at a rest (length a) refl) (AreBytes-drop (length a) bytes h)

-- ---- names

pub record TakesName (bytes : List ℕ) (room : ℕ) (name rest : List ℕ) : Type 0 where
  pub parts : bytes ≡ name ++ 0 ∷ rest
  pub no_zero : HasNoZero name
  pub fits : length name < room

not_zero : (b : ℕ) → eqb b 0 ≡ false → b ≢ 0
not_zero b e h = grind (arith, nat_tests)

pub name_takes : (total offset room : ℕ) (bytes : List ℕ) (x : List ℕ × List ℕ) → name_from total offset room bytes ≡ Ok x → TakesName bytes room x.0 x.1
unfolding name_from
name_takes total offset zero bytes x e = absurd cc
name_takes total offset (suc room) [] x e = absurd cc
name_takes total offset (suc room) (b ∷ bytes) x e =
    elim (chosen (eqb b 0) (Ok ([], bytes)) (name_from total offset room bytes >>= λ y. Ok (b ∷ y.0, y.1)) (Ok x) e) [
      | inl t ↦
          let is_zero : b ≡ 0 = eqb-true _ _ t.0 in
          subst (λ (y : List ℕ × List ℕ). TakesName (b ∷ bytes) (suc room) y.0 y.1) (ok_is ([], bytes) x t.1) (record { parts = ap (λ (c : ℕ). c ∷ bytes) is_zero; no_zero = tt; fits = omega arith })
      | inr t ↦
          let a = bind_ok (name_from total offset room bytes) (λ y. Ok (b ∷ y.0, y.1)) x t.1 in
          let rest = name_takes total offset room bytes a.0 a.1 in
          let made : List ℕ × List ℕ = (b ∷ a.0.0, a.0.1) in
          subst (λ (y : List ℕ × List ℕ). TakesName (b ∷ bytes) (suc room) y.0 y.1) (ok_is made x a.2)
          (record { parts = ap (λ (s : List ℕ). b ∷ s) rest.parts; no_zero = (not_zero b t.0, rest.no_zero); fits = omega (arith, rest.fits) })
    ]

pub name_again : (total offset room : ℕ) (name rest : List ℕ) → HasNoZero name → length name < room → name_from total offset room (name ++ 0 ∷ rest) ≡ Ok (name, rest)
unfolding name_from
name_again total offset zero name rest h fits = absurd (omega arith)
name_again total offset (suc room) [] rest h fits = refl
name_again total offset (suc room) (b ∷ name) rest h fits =
    let ne : b ≢ 0 = h.0 in
    let e : eqb b 0 ≡ false = grind (arith, nat_tests) in
    rw (e, name_again total offset room name rest h.1 (omega arith)) refl

pub utf8_takes : (offset : ℕ) (text s : List ℕ) → utf8_at offset text ≡ Ok s → (text ≡ s) × IsUtf8 s
unfolding utf8_at
utf8_takes offset text s e =
    let g = guard_true (is_utf8 text) (BadText offset) (Ok text) s e in
    let same = ok_is text s g.1 in
    (same, subst (λ (t : List ℕ). IsUtf8 t) same (IsUtf8-from_is_utf8 text g.0))

pub utf8_again : (offset : ℕ) (text : List ℕ) → IsUtf8 text → utf8_at offset text ≡ Ok text
unfolding utf8_at
utf8_again offset text h = rw (is_utf8-from_IsUtf8 text h) refl

pub room_takes : (total room : ℕ) (rest : List ℕ) (left : ℕ) → room_at total room rest ≡ Ok left → (room ≡ left) × (0 < left)
unfolding room_at
room_takes total zero rest left e = absurd cc
room_takes total (suc room) rest left e = let same = ok_is (suc room) left e in (same, omega (arith, same))

pub room_again : (total room : ℕ) (rest : List ℕ) → 0 < room → room_at total room rest ≡ Ok room
unfolding room_at
room_again total zero rest lt = absurd (omega arith)
room_again total (suc room) rest lt = refl

-- a name and what follows it
pub record PassesName (bytes : List ℕ) (room : ℕ) (name : List ℕ) (left : ℕ) (rest : List ℕ) : Type 0 where
  pub parts : bytes ≡ name ++ 0 ∷ rest
  pub no_zero : HasNoZero name
  pub behind : length name + 1 + left ≡ room
  pub some : 0 < left

behind_is : (bytes name rest : List ℕ) (room left : ℕ) → bytes ≡ name ++ 0 ∷ rest → length name < room → room - (length bytes - length rest) ≡ left → length name + 1 + left ≡ room
behind_is bytes name rest room left parts fits e =
    let len : length bytes ≡ length name + (length rest + 1) = ap (λ (s : List ℕ). length s) parts ∙ simp length-append (omega arith) in
    omega arith

pub index_takes : (total room : ℕ) (bytes : List ℕ) (x : ℕ × List ℕ) → index_at total room bytes ≡ Ok x → (name : List ℕ) × PassesName bytes room name x.0 x.1
unfolding index_at
index_takes total room bytes x e =
    let a = bind_ok (name_from total (total - length bytes) room bytes) (λ name. room_at total (room - (length bytes - length name.1)) name.1 >>= λ left. Ok (left, name.1)) x e in
    let b = bind_ok (room_at total (room - (length bytes - length a.0.1)) a.0.1) (λ left. Ok (left, a.0.1)) x a.2 in
    let name = name_takes total (total - length bytes) room bytes a.0 a.1 in
    let left = room_takes total (room - (length bytes - length a.0.1)) a.0.1 b.0 b.1 in
    let made : ℕ × List ℕ = (b.0, a.0.1) in (
      a.0.0,
      subst (λ (y : ℕ × List ℕ). PassesName bytes room a.0.0 y.0 y.1) (ok_is made x b.2)
          (record { parts = name.parts; no_zero = name.no_zero; behind = behind_is bytes a.0.0 a.0.1 room b.0 name.parts name.fits left.0; some = left.1 }),
    )

pub named_takes : (total room : ℕ) (bytes : List ℕ) (x : List ℕ × ℕ × List ℕ) → name_at total room bytes ≡ Ok x → PassesName bytes room x.0 x.1 x.2 × IsUtf8 x.0
unfolding name_at
named_takes total room bytes x e =
    let a = bind_ok (name_from total (total - length bytes) room bytes) (λ name. utf8_at (total - length bytes) name.0 >>= λ text. room_at total (room - (length bytes - length name.1)) name.1 >>= λ left. Ok (text, left, name.1)) x e in
    let t = bind_ok (utf8_at (total - length bytes) a.0.0) (λ text. room_at total (room - (length bytes - length a.0.1)) a.0.1 >>= λ left. Ok (text, left, a.0.1)) x a.2 in
    let b = bind_ok (room_at total (room - (length bytes - length a.0.1)) a.0.1) (λ left. Ok (t.0, left, a.0.1)) x t.2 in
    let name = name_takes total (total - length bytes) room bytes a.0 a.1 in
    let text = utf8_takes (total - length bytes) a.0.0 t.0 t.1 in
    let left = room_takes total (room - (length bytes - length a.0.1)) a.0.1 b.0 b.1 in
    let made : List ℕ × ℕ × List ℕ = (t.0, b.0, a.0.1) in
    let passed : PassesName bytes room a.0.0 b.0 a.0.1 = record { parts = name.parts; no_zero = name.no_zero; behind = behind_is bytes a.0.0 a.0.1 room b.0 name.parts name.fits left.0; some = left.1 } in
    subst (λ (y : List ℕ × ℕ × List ℕ). PassesName bytes room y.0 y.1 y.2 × IsUtf8 y.0) (ok_is made x b.2)
    (subst (λ (s : List ℕ). PassesName bytes room s b.0 a.0.1) text.0 passed, text.1)

pub named_no_zero : (total room : ℕ) (bytes : List ℕ) (x : List ℕ × ℕ × List ℕ) → name_at total room bytes ≡ Ok x → IsTrue (has_no_zero x.0)
named_no_zero total room bytes x e = test-from_HasNoZero x.0 (named_takes total room bytes x e).0.no_zero

pub index_again : (total room : ℕ) (name rest : List ℕ) → HasNoZero name → length name + 1 < room → index_at total room (name ++ 0 ∷ rest) ≡ Ok (room - (length name + 1), rest)
unfolding index_at
index_again total room name rest h fits =
    let len : length (name ++ 0 ∷ rest) - length rest ≡ length name + 1 = simp length-append (omega arith) in
    rw (name_again total (total - length (name ++ 0 ∷ rest)) room name rest h (omega arith), len, room_again total (room - (length name + 1)) rest (omega arith)) refl

pub named_again : (total room : ℕ) (name rest : List ℕ) → HasNoZero name → IsUtf8 name → length name + 1 < room → name_at total room (name ++ 0 ∷ rest) ≡ Ok (name, room - (length name + 1), rest)
unfolding name_at
named_again total room name rest h utf8 fits =
    let len : length (name ++ 0 ∷ rest) - length rest ≡ length name + 1 = simp length-append (omega arith) in
    rw (name_again total (total - length (name ++ 0 ∷ rest)) room name rest h (omega arith), utf8_again (total - length (name ++ 0 ∷ rest)) name utf8, len, room_again total (room - (length name + 1)) rest (omega arith)) refl

-- ---- lengths

pub record TakesLength (bytes : List ℕ) (least beside room n : ℕ) (rest : List ℕ) : Type 0 where
  pub parts : bytes ≡ to_le_bytes w32 n ++ rest
  pub low : least ≤ n
  pub high : n < length_limit
  pub fits : n + beside ≤ room

leb-false : (a b : ℕ) → leb a b ≡ false → b < a
leb-false a b e = grind (arith, nat_tests)

lt-leb : (a b : ℕ) → b < a → leb a b ≡ false
lt-leb a b e = grind (arith, nat_tests)

back_32 : (bytes : List ℕ) → 4 ≤ length bytes → AreBytes bytes → to_le_bytes w32 (from_le_bytes w32 (take 4 bytes)) ≡ take 4 bytes
back_32 bytes long h = le_bytes_4 (take 4 bytes) _ (omega (arith, length-take 4 bytes)) (AreBytes-take 4 bytes h) refl

pub length_takes : (total least beside room : ℕ) (bytes : List ℕ) (x : ℕ × List ℕ) → AreBytes bytes → length_at total least beside room bytes ≡ Ok x → TakesLength bytes least beside room x.0 x.1
unfolding length_at length_within
length_takes total least beside room bytes x h e =
    let offset = total - length bytes in
    let n = from_le_bytes w32 (take 4 bytes) in
    let within : Result (ℕ × List ℕ) BsonFault = cond (ltb n least) (Err (BadLength offset)) (cond (leb length_limit n) (Err (BadLength offset)) (cond (ltb room (n + beside)) (Err (BadLength offset)) (Ok (n, drop 4 bytes)))) in
    let a = guard_ok (eqb (length bytes) 0) (Short total) (cond (ltb room 5) (Err (BadLength offset)) (cond (ltb (length bytes) 4) (Err (Short total)) within)) x e in
    let b = guard_ok (ltb room 5) (BadLength offset) (cond (ltb (length bytes) 4) (Err (Short total)) within) x a.1 in
    let c = guard_ok (ltb (length bytes) 4) (Short total) within x b.1 in
    let d = guard_ok (ltb n least) (BadLength offset) (cond (leb length_limit n) (Err (BadLength offset)) (cond (ltb room (n + beside)) (Err (BadLength offset)) (Ok (n, drop 4 bytes)))) x c.1 in
    let f = guard_ok (leb length_limit n) (BadLength offset) (cond (ltb room (n + beside)) (Err (BadLength offset)) (Ok (n, drop 4 bytes))) x d.1 in
    let g = guard_ok (ltb room (n + beside)) (BadLength offset) (Ok (n, drop 4 bytes)) x f.1 in
    let long : 4 ≤ length bytes = ltb-false _ _ c.0 in
    let made : ℕ × List ℕ = (n, drop 4 bytes) in
    subst (λ (y : ℕ × List ℕ). TakesLength bytes least beside room y.0 y.1) (ok_is made x g.1)
    (record {
      parts = sym (take-append-drop 4 bytes) ∙ ap (λ (prefix : List ℕ). prefix ++ drop 4 bytes) (sym (back_32 bytes long h));
      low = ltb-false _ _ d.0;
      high = leb-false _ _ f.0;
      fits = ltb-false _ _ g.0;
    })

length_is : (total least beside room n : ℕ) (bytes rest : List ℕ) → 4 ≤ length bytes → from_le_bytes w32 (take 4 bytes) ≡ n → drop 4 bytes ≡ rest → least ≤ n → n < length_limit → n + beside ≤ room → 5 ≤ room
    → length_at total least beside room bytes ≡ Ok (n, rest)
unfolding length_at length_within
length_is total least beside room n bytes rest long number behind low high fits some =
    let a : eqb (length bytes) 0 ≡ false = grind (arith, nat_tests) in
    let b : ltb room 5 ≡ false = le-ltb _ _ some in
    let c : ltb (length bytes) 4 ≡ false = le-ltb _ _ long in
    let f : ltb n least ≡ false = le-ltb _ _ low in
    let g : leb length_limit n ≡ false = lt-leb _ _ high in
    let k : ltb room (n + beside) ≡ false = le-ltb _ _ fits in
    rw (a, b, c, number, behind, f, g, k) refl

pub length_again : (total least beside room n : ℕ) (rest : List ℕ) → least ≤ n → n < length_limit → n + beside ≤ room → 5 ≤ room → length_at total least beside room (to_le_bytes w32 n ++ rest) ≡ Ok (n, rest)
length_again total least beside room n rest low high fits some =
    length_is total least beside room n (to_le_bytes w32 n ++ rest) rest (omega (arith, length-append (to_le_bytes w32 n) rest)) (from_le_bytes-to_le_bytes_4 n (omega arith)) refl low high fits some

-- n bytes

pub record TakesFixed (bytes : List ℕ) (n room : ℕ) (prefix rest : List ℕ) : Type 0 where
  pub parts : bytes ≡ prefix ++ rest
  pub len : length prefix ≡ n
  pub fits : n ≤ room

pub fixed_takes : (total n room : ℕ) (bytes : List ℕ) (x : List ℕ × List ℕ) → fixed_at total n room bytes ≡ Ok x → TakesFixed bytes n room x.0 x.1
unfolding fixed_at
fixed_takes total n room bytes x e =
    elim (chosen (ltb room n) (cond (ltb (length bytes) room) (Err (Short total)) (Err (Trailing (total - length bytes + (room - 1))))) (cond (ltb (length bytes) n) (Err (Short total)) (Ok (take n bytes, drop n bytes))) (Ok x) e) [
      | inl t ↦
          let g = guard_ok (ltb (length bytes) room) (Short total) (Err (Trailing (total - length bytes + (room - 1)))) x t.1 in
          absurd (cc (g.1))
      | inr t ↦
          let g = guard_ok (ltb (length bytes) n) (Short total) (Ok (take n bytes, drop n bytes)) x t.1 in
          let long : n ≤ length bytes = ltb-false _ _ g.0 in
          let made : List ℕ × List ℕ = (take n bytes, drop n bytes) in
          subst (λ (y : List ℕ × List ℕ). TakesFixed bytes n room y.0 y.1) (ok_is made x g.1)
          (record { parts = sym (take-append-drop n bytes); len = omega (arith, length-take n bytes); fits = ltb-false _ _ t.0 })
    ]

pub fixed_again : (total n room : ℕ) (prefix rest : List ℕ) → length prefix ≡ n → n ≤ room → fixed_at total n room (prefix ++ rest) ≡ Ok (prefix, rest)
unfolding fixed_at
fixed_again total n room prefix rest len fits =
    let a : ltb room n ≡ false = le-ltb _ _ fits in
    let b : ltb (length (prefix ++ rest)) n ≡ false = le-ltb _ _ (omega (arith, length-append prefix rest)) in
    rw (a, b, take_at prefix rest n len, drop_at prefix rest n len) refl

-- ---- texts

pub record TakesText (bytes : List ℕ) (n : ℕ) (text rest : List ℕ) : Type 0 where
  pub parts : bytes ≡ text ++ 0 ∷ rest
  pub utf8 : IsUtf8 text
  pub len : length text + 1 ≡ n

pub text_takes : (total n : ℕ) (bytes : List ℕ) (x : List ℕ × List ℕ) → 0 < n → text_at total n bytes ≡ Ok x → TakesText bytes n x.0 x.1
unfolding text_at
text_takes total n bytes x some e =
    let offset = total - length bytes in
    let read : Result (List ℕ × List ℕ) BsonFault = utf8_at offset (take (n - 1) bytes) >>= λ text. Ok (text, drop n bytes) in
    let a = guard_ok (ltb (length bytes) n) (Short total) (cond (eqb (get_or bytes (n - 1) 0) 0) read (Err (BadText offset))) x e in
    let b = guard_true (eqb (get_or bytes (n - 1) 0) 0) (BadText offset) read x a.1 in
    let c = bind_ok (utf8_at offset (take (n - 1) bytes)) (λ text. Ok (text, drop n bytes)) x b.1 in
    let t = utf8_takes offset (take (n - 1) bytes) c.0 c.1 in
    let long : n ≤ length bytes = ltb-false _ _ a.0 in
    let last : get_or bytes (n - 1) 0 ≡ 0 = eqb-true _ _ b.0 in
    let k : suc (n - 1) ≡ n = omega arith in
    let below : n - 1 < length bytes = omega arith in
    let tail : drop (n - 1) bytes ≡ 0 ∷ drop n bytes = drop-cons bytes (n - 1) 0 below ∙ ap (λ (b : ℕ). b ∷ drop (suc (n - 1)) bytes) last ∙ ap (λ (m : ℕ). 0 ∷ drop m bytes) k in
    let whole : bytes ≡ take (n - 1) bytes ++ 0 ∷ drop n bytes = sym (take-append-drop (n - 1) bytes) ∙ ap (λ (r : List ℕ). take (n - 1) bytes ++ r) tail in
    let made : List ℕ × List ℕ = (c.0, drop n bytes) in
    subst (λ (y : List ℕ × List ℕ). TakesText bytes n y.0 y.1) (ok_is made x c.2)
    (record {
      parts = whole ∙ ap (λ (s : List ℕ). s ++ 0 ∷ drop n bytes) t.0;
      utf8 = t.1;
      len = rw (← t.0) (omega (arith, length-take (n - 1) bytes));
    })

pub text_again : (total : ℕ) (text rest : List ℕ) → IsUtf8 text → text_at total (length text + 1) (text ++ 0 ∷ rest) ≡ Ok (text, rest)
unfolding text_at
text_again total text rest utf8 =
    let bytes = text ++ 0 ∷ rest in
    let regrouped : bytes ≡ (text ++ 0 ∷ []) ++ rest = sym (append_assoc text (0 ∷ []) rest) in
    let len : length (text ++ 0 ∷ []) ≡ length text + 1 = length-append text (0 ∷ []) in
    let a : ltb (length bytes) (length text + 1) ≡ false = le-ltb _ _ (omega (arith, length-append text (0 ∷ rest))) in
    let k : length text + 1 - 1 ≡ length text = omega arith in
    let last : get_or bytes (length text) 0 ≡ 0 = grind (arith, common_steps) in
    let b : eqb (get_or bytes (length text) 0) 0 ≡ true = rw last refl in
    let t : take (length text) bytes ≡ text = take_at text (0 ∷ rest) (length text) refl in
    let d : drop (length text + 1) bytes ≡ rest = ap (λ (s : List ℕ). drop (length text + 1) s) regrouped ∙ drop_at (text ++ 0 ∷ []) rest (length text + 1) len in
    rw (a, k, b, t, utf8_again (total - length bytes) text utf8, d) refl

pub record TakesString (bytes : List ℕ) (room : ℕ) (text rest : List ℕ) : Type 0 where
  pub parts : bytes ≡ string text ++ rest
  pub utf8 : IsUtf8 text
  pub high : length text + 1 < length_limit
  pub fits : length (string text) ≤ room

pub string_takes : (total room : ℕ) (bytes : List ℕ) (x : List ℕ × List ℕ) → AreBytes bytes → string_at total room bytes ≡ Ok x → TakesString bytes room x.0 x.1
unfolding string_at
string_takes total room bytes x h e =
    let a = bind_ok (length_at total 1 4 room bytes) (λ y. text_at total y.0 y.1) x e in
    let n = length_takes total 1 4 room bytes a.0 h a.1 in
    let t = text_takes total a.0.0 a.0.1 x n.low a.2 in
    record {
      parts = n.parts ∙ ap (λ (r : List ℕ). to_le_bytes w32 a.0.0 ++ r) t.parts ∙ ap (λ (m : ℕ). to_le_bytes w32 m ++ (x.0 ++ 0 ∷ x.1)) (sym t.len) ∙ sym (string-append x.0 x.1);
      utf8 = t.utf8;
      high = omega (arith, t.len, n.high);
      fits = omega (arith, t.len, n.fits, length-string x.0);
    }

pub string_again : (total room : ℕ) (text rest : List ℕ) → IsUtf8 text → length text + 1 < length_limit → length (string text) ≤ room → string_at total room (string text ++ rest) ≡ Ok (text, rest)
unfolding string_at
string_again total room text rest utf8 high fits =
    let len = length-string text in
    ap (λ (s : List ℕ). string_at total room s) (string-append text rest)
    ∙ rw (length_again total 1 4 room (length text + 1) (text ++ 0 ∷ rest) (omega arith) high (omega arith) (omega arith)) (text_again total text rest utf8)
