-- On which inputs the steps of a group were taken, and which are left.
use Rattle.std.proofs.Common.{◌≡◌, ℕ, ◌+◌, ◌<◌, zero, suc, List, [], ◌∷◌, ◌++◌, map, length, refl, sym, ap, subst, ◌∙◌, arith, append_assoc, length-append}
use Rattle.std.specs.Prelude.{Some, None}
use Rattle.std.specs.List.{AllByRecursion, slice_get}
use Rattle.std.proofs.lemmas.List.{map-append}
use Rattle.outside.specs.Logs.{LogFacts}
use Rattle.node_model.specs.Letters.{Letter, Input}
use Rattle.node_model.specs.States.{NodeState}
use Rattle.node_traits.specs.Calls.{LeftOff, log_call}
use Rattle.node_traits.specs.Effects.{ByNotTaken}
use Rattle.node_traits.specs.declared.outputs.NotTaken.{NotTaken}
use Rattle.driver_steps.specs.declared.seat.Seat.{Seat}
use Rattle.group_steps.specs.Collected.{Collects}
use Rattle.group_steps.specs.Groups as groups
use Rattle.group_steps.specs.Parts.{Among, AreBroken, AreLeft, AreOn, AreTakenOut, part_of, parts_of}
use Rattle.group_steps.specs.declared.group.Part.{Part}
use Rattle.group_steps.proofs.Chains.{breaks_all, collects_none}

-- one part more
pub parts_then : {M I : Type 0} (letter : M → Letter) (meaning : I → Input) (parts mid all : List (Part M I)) (p : Part M I) (input : I)
    → mid ≡ parts → all ≡ mid ++ p ∷ [] → p.input.value ≡ input
    → parts_of letter meaning all ≡ parts_of letter meaning parts
    ++ record { input = meaning input; mail = map letter p.outputs.mail; replies = p.outputs.replies } ∷ []
parts_then {M} {I} letter meaning parts mid all p input same grown taken =
    ap (λ (l : List (Part M I)). parts_of letter meaning l) (grown ∙ ap (λ (l : List (Part M I)). l ++ p ∷ []) same)
    ∙ (map-append (part_of letter meaning) parts (p ∷ [])
    ∙ ap (λ (x : I). parts_of letter meaning parts
    ++ record { input = meaning x; mail = map letter p.outputs.mail; replies = p.outputs.replies } ∷ []) taken)

-- the first one that is left is among all
pub next_among : {I : Type 0} (all left : List I) (input : I) (rest : List I) → AreLeft all left → left ≡ input ∷ rest → Among input all
next_among all left input rest (front, is) first = (length front, is_at front input rest all (is ∙ ap (λ (l : List _). front ++ l) first))
  where
    is_at : {I : Type 0} (front : List I) (input : I) (rest all : List I) → all ≡ front ++ input ∷ rest → slice_get all (length front) ≡ Some input
    is_at front input rest all is = ap (λ (l : List _). slice_get l (length front)) is ∙ here front input rest
      where
        here : {I : Type 0} (front : List I) (input : I) (rest : List I) → slice_get (front ++ input ∷ rest) (length front) ≡ Some input
        here [] input rest = refl
        here (x ∷ front) input rest = here front input rest

-- and it is taken out
pub next_left : {I : Type 0} (all left : List I) (input : I) (rest : List I) → AreLeft all left → left ≡ input ∷ rest → AreLeft all rest
next_left {I} all left input rest (front, is) first =
    (front ++ input ∷ [], is ∙ (ap (λ (l : List I). front ++ l) first ∙ sym (append_assoc front (input ∷ []) rest)))

pub left_fewer : {I : Type 0} (all left : List I) (input : I) (rest : List I) → AreLeft all left → left ≡ input ∷ rest → length rest < length all
left_fewer {I} all left input rest (front, is) first =
    let whole : length all ≡ length front + length (input ∷ rest) =
    ap (λ (l : List I). length l) (is ∙ ap (λ (l : List I). front ++ l) first) ∙ length-append front (input ∷ rest) in
    omega (arith, whole)

among_means : {I : Type 0} (meaning : I → Input) (all : List I) (x : I) (which : ℕ) → slice_get all which ≡ Some x
    → slice_get (map meaning all) which ≡ Some (meaning x)
among_means meaning [] x which got = absurd (cc)
among_means meaning (y ∷ all) x zero got = let same : y ≡ x = cc in ap (λ z. Some (meaning z)) same
among_means meaning (y ∷ all) x (suc which) got = among_means meaning all x which got

on_means : {M I : Type 0} (letter : M → Letter) (meaning : I → Input) (all : List I) (parts : List (Part M I)) → AreOn all parts
    → AllByRecursion (λ (p : groups.Part). Among p.input (map meaning all)) (parts_of letter meaning parts)
on_means letter meaning all [] on = tt
on_means letter meaning all (p ∷ parts) on =
    ((on.0.0, among_means meaning all p.input.value on.0.0 on.0.1), on_means letter meaning all parts on.1)

-- the records of the steps were not appended
pub group_broken : {N L M I : Type 0} (state : N → NodeState) (steps : N → ℕ) (facts : LogFacts L) (letter : M → Letter) (meaning : I → Input) (inputs : List I)
    (s t : Seat N L) (parts : List (Part M I)) (records : List (List ℕ)) (fault : NotTaken)
    → Collects (state s.node) (steps s.node) (parts_of letter meaning parts) records (state t.node) (steps t.node) → AreOn inputs parts
    → ByNotTaken fault (λ faults. LeftOff (log_call facts s.log t.log) records) (t.log ≡ s.log) → AreBroken state steps facts meaning inputs s t
group_broken state steps facts letter meaning inputs s t parts records fault c on left = record {
  parts = parts_of letter meaning parts;
  on = on_means letter meaning inputs parts on;
  breaks = λ since w at stands. breaks_all state steps facts since w at s t (parts_of letter meaning parts) records stands c fault left;
}

-- THE START

pub none_collected : {M I : Type 0} (letter : M → Letter) (meaning : I → Input) (parts : List (Part M I)) (s : NodeState) (n : ℕ) (records : List (List ℕ))
    → parts ≡ [] → records ≡ [] → Collects s n (parts_of letter meaning parts) records s n
none_collected {M} {I} letter meaning parts s n records none empty =
    subst (λ (l : List (Part M I)). Collects s n (parts_of letter meaning l) records s n) (sym none) (collects_none s n records empty)

pub none_on : {M I : Type 0} (inputs : List I) (parts : List (Part M I)) → parts ≡ [] → AreOn inputs parts
none_on {M} {I} inputs parts none = subst (λ (l : List (Part M I)). AreOn inputs l) (sym none) tt

-- ALL THAT WERE TAKEN OUT

abbrev inputs_of : {M I : Type 0} → List (Part M I) → List I
inputs_of parts = map (λ p. p.input.value) parts

pub none_out : {M I : Type 0} (inputs : List I) (parts : List (Part M I)) → parts ≡ [] → inputs ≡ inputs_of parts ++ inputs
none_out {M} {I} inputs parts none = subst (λ (l : List (Part M I)). inputs ≡ inputs_of l ++ inputs) (sym none) refl

-- a step was taken on the next one
pub more_out : {M I : Type 0} (inputs left : List I) (input : I) (rest : List I) (parts all : List (Part M I)) → inputs ≡ inputs_of parts ++ left
    → left ≡ input ∷ rest → inputs_of all ≡ inputs_of parts ++ input ∷ [] → inputs ≡ inputs_of all ++ rest
more_out {M} {I} inputs left input rest parts all out first grown =
    out ∙ (ap (λ (l : List I). inputs_of parts ++ l) first ∙ (sym (append_assoc (inputs_of parts) (input ∷ []) rest)
    ∙ ap (λ (l : List I). l ++ rest) (sym grown)))

-- no step was taken on it
pub one_lost : {M I : Type 0} (inputs left : List I) (input : I) (rest : List I) (parts all : List (Part M I)) (fault : NotTaken)
    → inputs ≡ inputs_of parts ++ left → left ≡ input ∷ rest → all ≡ parts → AreTakenOut inputs all (Some fault) rest
one_lost {M} {I} inputs left input rest parts all fault out first same = (
  input ∷ [],
  (input, refl),
  out ∙ (ap (λ (l : List I). inputs_of parts ++ l) first
      ∙ ap (λ (l : List (Part M I)). inputs_of l ++ input ∷ rest) (sym same)),
)

pub none_lost : {M I : Type 0} (inputs left : List I) (parts : List (Part M I)) → inputs ≡ inputs_of parts ++ left → AreTakenOut inputs parts None left
none_lost inputs left parts out = ([], refl, out)
