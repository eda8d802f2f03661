-- The rows of the parts, one after the other.
use Rattle.std.proofs.Common.{◌≡◌, refl, ap, sym, ◌∙◌, ℕ, List, [], ◌∷◌, ◌++◌, map, length, get_or, arith}
use Rattle.std.specs.Prelude.{Option, Some, None, Result, Ok, Err}
use Rattle.pipeline_model.specs.Halves.{Rows}
use Rattle.node_model.specs.Letters.{HalfFault}
use Rattle.node_model.specs.RouterNext.{also_part, part_of, rows_of}
use Rattle.node_model.specs.States.{Part, Target}
use Rattle.pipeline_eval.specs.declared.fault.EvalFault.{EvalFault}
use Rattle.pipeline_eval.specs.declared.fault.EvalFault.TheVariants.{Overflow, TooMuch, Memory}
use Rattle.read_parts.specs.Parts.{IsFaultOf, IsGathered, alone}

-- these rows before the others
abbrev pub with_front : List Rows → Result (List Rows) HalfFault → Result (List Rows) HalfFault
with_front front (Ok others) = Ok (front ++ others)
with_front front (Err fault) = Err fault

-- what the rows of a target and of those after it are
abbrev joined : Option (Result Rows HalfFault) → Result (List Rows) HalfFault → Result (List Rows) HalfFault
joined None others = others
joined (Some (Err fault)) others = Err fault
joined (Some (Ok rows)) others = with_front (rows ∷ []) others

rows_joined : (t : Target) (targets : List Target) (parts : List Part) → rows_of (t ∷ targets) parts ≡ joined (part_of t.shard parts) (rows_of targets parts)
rows_joined t targets parts = by (part_of t.shard parts) (rows_of targets parts) where
  by : (own : Option (Result Rows HalfFault)) (others : Result (List Rows) HalfFault)
      → (elim own as (λ (o : Option (Result Rows HalfFault)). Result (List Rows) HalfFault) [
        | None ↦ others
        | Some (Err fault) ↦ Err fault
        | Some (Ok rows) ↦ elim others as (λ (o : Result (List Rows) HalfFault). Result (List Rows) HalfFault) [ Err fault ↦ Err fault | Ok more ↦ Ok (rows ∷ more) ]
      ]) ≡ joined own others
  by None others = refl
  by (Some (Err fault)) others = refl
  by (Some (Ok rows)) (Ok more) = refl
  by (Some (Ok rows)) (Err fault) = refl

-- the only target returns the only part
only_part : (t : Target) (shard : ℕ) (told : Result Rows HalfFault) → shard ≡ t.shard
    → rows_of (t ∷ []) (record { shard = shard; rows = told } ∷ []) ≡ joined (Some told) (Ok [])
only_part t shard told same = rows_joined t [] (record { shard = shard; rows = told } ∷ []) ∙ ap (λ (o : Option (Result Rows HalfFault)). joined o (Ok [])) (found same) where
  found : shard ≡ t.shard → part_of t.shard (record { shard = shard; rows = told } ∷ []) ≡ Some told
  found is = rw is (own t.shard) where
    own : (s : ℕ) → part_of s (record { shard = s; rows = told } ∷ []) ≡ Some told
    own s = grind arith

alone_is : (told : Result Rows HalfFault) → joined (Some told) (Ok []) ≡ alone told
alone_is (Ok rows) = refl
alone_is (Err fault) = refl

pub only_gathered : {X P : Type 0} (meant : X → Target) (view : P → Part) (xs : List X) (x : X) (parts : List P) (shard : ℕ) (told : Result Rows HalfFault)
    → length xs ≡ 1 → x ≡ get_or xs 0 x → length parts ≡ 0 → (meant x).shard ≡ shard → rows_of (map meant xs) (also_part (map view parts) shard told) ≡ alone told
only_gathered meant view [] x parts shard told one here none same = absurd (omega (arith, one))
only_gathered meant view (y ∷ z ∷ xs) x parts shard told one here none same = absurd (omega (arith, one))
only_gathered meant view (y ∷ []) x (p ∷ parts) shard told one here none same = absurd (omega (arith, none))
only_gathered {X} meant view (y ∷ []) x [] shard told one here none same =
    only_part (meant y) shard told (sym same ∙ ap (λ (w : X). (meant w).shard) here) ∙ alone_is told

-- the first fault is why there are no rows
pub fault_gathered : (Z : Type 0) (targets : List Target) (parts : List Part) (fault : HalfFault) (e : EvalFault) → rows_of targets parts ≡ Err fault → IsFaultOf fault e → IsGathered {Z = Z} targets parts (Err e)
fault_gathered Z targets parts fault Overflow none is = none ∙ ap (λ (f : HalfFault). Err f) is
fault_gathered Z targets parts fault (TooMuch bytes) none is = none ∙ ap (λ (f : HalfFault). Err f) is
fault_gathered Z targets parts fault Memory none is = absurd is
