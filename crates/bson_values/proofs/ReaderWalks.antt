-- Reading and walking agree: where a reader fails, the walk ends with the same fault at the same offset.
use Rattle.std.proofs.Common.{◌≡◌, ℕ, ◌+◌, ◌<◌, ◌≤◌, Bool, true, false, cond, ltb, List, ◌++◌, length, get_or, drop, Result, Ok, Err, refl, sym, ap, subst, ◌∙◌, append_assoc, arith, inl, inr}
use Rattle.std.proofs.lemmas.Bool.{cases_lt, lt-ltb, le-ltb}
use Rattle.std.proofs.lemmas.List.{drop_at, length-append, get_or-drop}
use Rattle.bson_model.specs.Faults.{Step, ends_at, faulty, short_fault, length_fault, type_fault, string_fault, boolean_fault, depth_fault, trailing_fault, Walks}
use Rattle.bson_values.specs.declared.fault.BsonFault.{BsonFault}
use Rattle.bson_values.specs.declared.fault.BsonFault.TheVariants.{Short, BadLength, BadType, BadText, BadBool, Deep, Trailing, Memory}
use Rattle.bson_values.specs.ReadFaults.{◌>>=◌}

-- every end of the walk from the second step is an end of the walk from the first
abbrev pub Leads : List ℕ → Step → Step → Type 0
Leads all s t = (outcome : Step) → Walks all t outcome → Walks all s outcome

abbrev pub stop : BsonFault → Step
stop (Short offset) = faulty short_fault offset
stop (BadLength offset) = faulty length_fault offset
stop (BadType offset byte) = faulty (type_fault byte) offset
stop (BadText offset) = faulty string_fault offset
stop (BadBool offset) = faulty boolean_fault offset
stop (Deep offset) = faulty depth_fault offset
stop (Trailing offset) = faulty trailing_fault offset
stop Memory = ends_at 0

-- the walk from a step reaches the step after what is read, or ends at the fault
abbrev pub Goes : {A : Type 0} → List ℕ → Step → Result A BsonFault → (A → Step) → Type 0
Goes all s (Ok x) next = Leads all s (next x)
Goes all s (Err e) next = Leads all s (stop e)

pub same_leads : (all : List ℕ) (s t : Step) → s ≡ t → Leads all s t
same_leads all s t e = λ outcome w. subst (λ (u : Step). Walks all u outcome) (sym e) w

pub leads_goes : {A : Type 0} (all : List ℕ) (s t : Step) (r : Result A BsonFault) (next : A → Step) → Leads all s t → Goes all t r next → Goes all s r next
leads_goes all s t (Ok x) next first goes = λ outcome w. first outcome (goes outcome w)
leads_goes all s t (Err e) next first goes = λ outcome w. first outcome (goes outcome w)

-- one reader after another
pub goes_bind : {A B : Type 0} (all : List ℕ) (s : Step) (r : Result A BsonFault) (f : A → Result B BsonFault) (middle : A → Step) (next : B → Step)
    → Goes all s r middle → ((x : A) → r ≡ Ok x → Goes all (middle x) (f x) next) → Goes all s (r >>= f) next
goes_bind all s (Ok x) f middle next first then = leads_goes all s (middle x) (f x) next first (then x refl)
goes_bind all s (Err e) f middle next first then = first

-- the same test in both
pub split : {A : Type 0} (all : List ℕ) (t u : Bool) (s s' : Step) (r r' : Result A BsonFault) (next : A → Step)
    → t ≡ u → (u ≡ true → Goes all s r next) → (u ≡ false → Goes all s' r' next) → Goes all (cond t s s') (cond u r r') next
split all true true s s' r r' next e then other = then refl
split all false false s s' r r' next e then other = other refl
split all true false s s' r r' next e then other = absurd cc
split all false true s s' r r' next e then other = absurd cc

-- a test that the walk passes
pub skip : {A : Type 0} (all : List ℕ) (t : Bool) (s s' : Step) (r : Result A BsonFault) (next : A → Step) → t ≡ false → Goes all s' r next → Goes all (cond t s s') r next
skip all false s s' r next e goes = goes
skip all true s s' r next e goes = absurd cc

-- a test at which the walk ends
pub take_it : {A : Type 0} (all : List ℕ) (t : Bool) (s s' : Step) (r : Result A BsonFault) (next : A → Step) → t ≡ true → Goes all s r next → Goes all (cond t s s') r next
take_it all true s s' r next e goes = goes
take_it all false s s' r next e goes = absurd cc

pub lt_same : (a b c d : ℕ) → (c < d → a < b) → (d ≤ c → b ≤ a) → ltb a b ≡ ltb c d
lt_same a b c d below above = elim (cases_lt c d) [
  | inl lt ↦ lt-ltb a b (below lt) ∙ sym (lt-ltb c d lt)
  | inr le ↦ le-ltb a b (above le) ∙ sym (le-ltb c d le)
]

-- where the bytes are

-- these bytes are the last of all
abbrev pub Stands : List ℕ → List ℕ → Type 0
Stands all rest = (prefix : List ℕ) × (all ≡ prefix ++ rest)

-- what follows the first of them
pub stands_behind : (all bytes a rest : List ℕ) → Stands all bytes → bytes ≡ a ++ rest → Stands all rest
stands_behind all bytes a rest s e = (s.0 ++ a, s.1 ∙ ap (λ (xs : List ℕ). s.0 ++ xs) e ∙ sym (append_assoc s.0 a rest))

pub stands_at : (all rest : List ℕ) (offset : ℕ) → Stands all rest → offset + length rest ≡ length all → drop offset all ≡ rest
stands_at all rest offset s e =
    let len : length all ≡ length s.0 + length rest = ap (λ (xs : List ℕ). length xs) s.1 ∙ length-append s.0 rest in
    ap (λ (xs : List ℕ). drop offset xs) s.1 ∙ drop_at s.0 rest offset (omega arith)

-- the byte at an offset
pub byte_at : (all rest : List ℕ) (offset i : ℕ) → Stands all rest → offset + length rest ≡ length all → get_or all (offset + i) 0 ≡ get_or rest i 0
byte_at all rest offset i s e = sym (get_or-drop offset all i 0) ∙ ap (λ (xs : List ℕ). get_or xs i 0) (stands_at all rest offset s e)

pub byte_here : (all rest : List ℕ) (offset : ℕ) → Stands all rest → offset + length rest ≡ length all → get_or all offset 0 ≡ get_or rest 0 0
byte_here all rest offset s e = let k : offset ≡ offset + 0 = omega arith in ap (λ (n : ℕ). get_or all n 0) k ∙ byte_at all rest offset 0 s e
