-- The owners of a span.
use Rattle.std.proofs.Common.{◌≡◌, ap, sym, ◌∙◌, ℕ, List, [], ◌∷◌, length}
use Rattle.std.specs.Prelude.{false, ◌==◌, Option, Some, None}
use Rattle.bson_model.specs.Tree.{null_value}
use Rattle.chunk_model.specs.Tables.{Table, owner_at}
use Rattle.chunk_model.specs.Targets.{targets}
use Rattle.node_model.specs.RouterRequests.{owners_of_span}
use Rattle.value_model.specs.Keys.{Span}

module _ (t : Table) (at : ℕ) (span : List Span) where
  by_targets : (owners : List ℕ) → targets t span at ≡ owners → owners_of_span t at span ≡ (elim owners as (λ (l : List ℕ). List ℕ) [
    | [] ↦ elim (owner_at t null_value at) as (λ (o : Option ℕ). List ℕ) [ None ↦ [] | Some shard ↦ shard ∷ [] ]
    | shard ∷ shards ↦ shard ∷ shards
  ])
  by_targets owners is = ap (λ (l : List ℕ). elim l as (λ (l : List ℕ). List ℕ) [
    | [] ↦ elim (owner_at t null_value at) as (λ (o : Option ℕ). List ℕ) [ None ↦ [] | Some shard ↦ shard ∷ [] ]
    | shard ∷ shards ↦ shard ∷ shards
  ]) is

  -- a span with keys
  pub some_own : (owners : List ℕ) → owners ≡ targets t span at → (length owners == 0) ≡ false → owners ≡ owners_of_span t at span
  some_own [] is some = absurd (cc some)
  some_own (shard ∷ shards) is some = sym (by_targets (shard ∷ shards) (sym is))

  -- a span without keys: the owner of the least one
  pub least_owns : (shard : ℕ) → targets t span at ≡ [] → Some shard ≡ owner_at t null_value at → shard ∷ [] ≡ owners_of_span t at span
  least_owns shard none is =
      sym (by_targets [] none ∙ ap (λ (o : Option ℕ). elim o as (λ (o : Option ℕ). List ℕ) [ None ↦ [] | Some shard ↦ shard ∷ [] ]) (sym is))

  -- or none
  pub none_owns : targets t span at ≡ [] → None ≡ owner_at t null_value at → [] ≡ owners_of_span t at span
  none_owns none is =
      sym (by_targets [] none ∙ ap (λ (o : Option ℕ). elim o as (λ (o : Option ℕ). List ℕ) [ None ↦ [] | Some shard ↦ shard ∷ [] ]) (sym is))
