-- A read that was sent to one shard: the part that this returns is all, and decides the reply.
use Rattle.std.proofs.Common.{◌≡◌, ◌⊎◌, inl, inr, ℕ, List, [], ◌∷◌, refl, sym, ap, subst, ◌∙◌, Bool}
use Rattle.std.specs.Prelude.{Option, Some, None, is_some, Result, Ok, Err, true, false, not, ◌==◌, ◌||◌, if◌then◌else◌}
use Rattle.std.proofs.lemmas.Bool.{eqb-true, eq-eqb}
use Rattle.chunk_model.specs.Tables.{first_shard}
use Rattle.chunk_model.specs.Verdicts.{sent_by}
use Rattle.pipeline_model.specs.Halves.{Rows}
use Rattle.node_model.specs.Letters.{HalfFault}
use Rattle.node_model.specs.States.{Target, Part, Work, writing, reading, sharding, splitting, Wait, for_time, for_catalogue, for_shards}
use Rattle.node_model.specs.RouterNext.{part_of, is_target, also_part, awaited, rows_of}
use Rattle.node_laws.proofs.Views.{View}
use Rattle.node_laws.proofs.TableFacts.{IsSentTo}
use Rattle.node_laws.proofs.KnownTables.{one_target}

-- it was sent to no shard, or to one
abbrev IsOneOrNone : List Target → Type 0
IsOneOrNone targets = (targets ≡ []) ⊎ ((t : Target) × (targets ≡ t ∷ []))

one_or_none : (v : View) (time : ℕ) (namespace : List ℕ) (wait : Wait) (work : Work) (targets : List Target) → IsSentTo v time namespace wait work targets
    → IsOneOrNone targets
one_or_none v time namespace for_time work targets sent = inl sent
one_or_none v time namespace for_catalogue work targets sent = inl sent
one_or_none v time namespace for_shards (writing kind ordered statements answers) targets sent = inl sent
one_or_none v time namespace for_shards (reading named at stages telling) targets sent =
    inr (record { shard = first_shard; sent = sent_by sent.table first_shard }, one_target v time namespace at stages targets sent)
one_or_none v time namespace for_shards sharding targets sent = inl sent
one_or_none v time namespace for_shards (splitting middle) targets sent = inl sent

-- the rows of one part, or why there are none
abbrev pub alone : Result Rows HalfFault → Result (List Rows) HalfFault
alone (Ok rows) = Ok (rows ∷ [])
alone (Err fault) = Err fault

module _ (shard : ℕ) (rows : Result Rows HalfFault) where
  own_part : (t : Target) → is_target shard (t ∷ []) ≡ true → part_of t.shard (also_part [] shard rows) ≡ Some rows
  own_part t is = by_test (t.shard == shard) refl is
    where
      by_test : (b : Bool) → (t.shard == shard) ≡ b → (b || false) ≡ true → part_of t.shard (also_part [] shard rows) ≡ Some rows
      by_test true h is = subst (λ n. part_of n (also_part [] shard rows) ≡ Some rows) (sym (eqb-true t.shard shard h))
          (ap (λ b. if b then Some rows else None) (eq-eqb shard shard refl))
      by_test false h is = absurd (cc)

  one_awaited : (t : Target) → is_target shard (t ∷ []) ≡ true → awaited (t ∷ []) (also_part [] shard rows) ≡ []
  one_awaited t is = ap (λ o. if not (is_some o) then t ∷ [] else []) (own_part t is)

  one_rows : (t : Target) → is_target shard (t ∷ []) ≡ true → rows_of (t ∷ []) (also_part [] shard rows) ≡ alone rows
  one_rows t is = ap of_part (own_part t is) ∙ by_rows rows
    where
      of_part : Option (Result Rows HalfFault) → Result (List Rows) HalfFault
      of_part o = elim o as (λ (x : Option (Result Rows HalfFault)). Result (List Rows) HalfFault) [
        | None ↦ Ok []
        | Some (Err fault) ↦ Err fault
        | Some (Ok own) ↦ Ok (own ∷ [])
      ]

      by_rows : (x : Result Rows HalfFault) → of_part (Some x) ≡ alone x
      by_rows (Ok own) = refl
      by_rows (Err fault) = refl

  none_is : is_target shard [] ≡ true → ⊥
  none_is is = cc

  -- when it returned, no other is awaited
  pub none_awaited : (v : View) (time : ℕ) (namespace : List ℕ) (wait : Wait) (work : Work) (targets : List Target) (parts : List Part)
      → IsSentTo v time namespace wait work targets → parts ≡ []
      → is_target shard targets ≡ true → awaited targets (also_part parts shard rows) ≡ []
  none_awaited v time namespace wait work targets parts sent none is =
      subst (λ l. awaited targets (also_part l shard rows) ≡ []) (sym none) (by_sent (one_or_none v time namespace wait work targets sent))
    where
      by_sent : IsOneOrNone targets → awaited targets (also_part [] shard rows) ≡ []
      by_sent (inl e) = absurd (none_is (subst (λ l. is_target shard l ≡ true) e is))
      by_sent (inr (t, e)) = subst (λ l. awaited l (also_part [] shard rows) ≡ []) (sym e) (one_awaited t (subst (λ l. is_target shard l ≡ true) e is))

  -- and what it returned is all
  pub rows_alone : (v : View) (time : ℕ) (namespace : List ℕ) (wait : Wait) (work : Work) (targets : List Target) (parts : List Part)
      → IsSentTo v time namespace wait work targets → parts ≡ []
      → is_target shard targets ≡ true → rows_of targets (also_part parts shard rows) ≡ alone rows
  rows_alone v time namespace wait work targets parts sent none is =
      subst (λ l. rows_of targets (also_part l shard rows) ≡ alone rows) (sym none) (by_sent (one_or_none v time namespace wait work targets sent))
    where
      by_sent : IsOneOrNone targets → rows_of targets (also_part [] shard rows) ≡ alone rows
      by_sent (inl e) = absurd (none_is (subst (λ l. is_target shard l ≡ true) e is))
      by_sent (inr (t, e)) = subst (λ l. rows_of l (also_part [] shard rows) ≡ alone rows) (sym e) (one_rows t (subst (λ l. is_target shard l ≡ true) e is))
