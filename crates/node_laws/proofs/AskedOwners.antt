-- A read that goes by a table that says who owned each key goes to the owner of each chunk that its span meets.
use Rattle.std.proofs.Common.{◌≡◌, ◌⊎◌, inl, inr, ℕ, List, [], ◌∷◌, refl, sym, ap, subst, ◌∙◌, Bool}
use Rattle.std.specs.Prelude.{Option, Some, None, is_some, true, false, ◌==◌, nat_lt, if◌then◌else◌}
use Rattle.std.specs.List.{list_all}
use Rattle.std.proofs.lemmas.Bool.{eqb-true}
use Rattle.bson_model.proofs.Booleans.{both}
use Rattle.bson_model.specs.Tree.{null_value}
use Rattle.history_model.specs.History.{IsIn}
use Rattle.history_model.proofs.Lists.{in_cons, in_none, in_first, in_later}
use Rattle.value_model.specs.Keys.{Span}
use Rattle.chunk_model.specs.Tables.{Chunk, Table, owner_among, owner_at}
use Rattle.chunk_model.specs.Targets.{meets_any, with_shard, targets_among, targets}
use Rattle.node_model.specs.RouterRequests.{owners_of_span, has_owner, is_owned_at}

-- a shard is among others once it is added
with_itself : (shard : ℕ) (shards : List ℕ) → IsIn shard (with_shard shard shards)
with_itself shard [] = in_first shard []
with_itself shard (s ∷ shards) = by_tests (nat_lt shard s) (shard == s) refl (with_itself shard shards)
  where
    by_tests : (a b : Bool) → (shard == s) ≡ b → IsIn shard (with_shard shard shards)
        → IsIn shard (if a then shard ∷ s ∷ shards else if b then s ∷ shards else s ∷ with_shard shard shards)
    by_tests true b h more = in_first shard (s ∷ shards)
    by_tests false true h more = subst (λ n. IsIn n (s ∷ shards)) (sym (eqb-true shard s h)) (in_first s shards)
    by_tests false false h more = in_later shard s (with_shard shard shards) more

-- and so are these
with_others : (y shard : ℕ) (shards : List ℕ) → IsIn y shards → IsIn y (with_shard shard shards)
with_others y shard [] there = absurd (in_none y there)
with_others y shard (s ∷ shards) there = by_tests (nat_lt shard s) (shard == s) (in_cons y s shards there) (λ i. with_others y shard shards i)
  where
    by_tests : (a b : Bool) → (y ≡ s) ⊎ IsIn y shards → (IsIn y shards → IsIn y (with_shard shard shards))
        → IsIn y (if a then shard ∷ s ∷ shards else if b then s ∷ shards else s ∷ with_shard shard shards)
    by_tests true b place more = in_later y shard (s ∷ shards) there
    by_tests false true place more = there
    by_tests false false (inl same) more = subst (λ n. IsIn n (s ∷ with_shard shard shards)) (sym same) (in_first s (with_shard shard shards))
    by_tests false false (inr i) more = in_later y s (with_shard shard shards) (more i)

module _ (span : List Span) (at : ℕ) where
  abbrev also : List ℕ → Chunk → Bool → Option ℕ → List ℕ
  also found c met owner = if met then (elim owner as (λ (x : Option ℕ). List ℕ) [ None ↦ found | Some shard ↦ with_shard shard found ]) else found

  still_there : (y : ℕ) (found : List ℕ) (c : Chunk) (met : Bool) (owner : Option ℕ) → IsIn y found → IsIn y (also found c met owner)
  still_there y found c false owner there = there
  still_there y found c true None there = there
  still_there y found c true (Some shard) there = with_others y shard found there

  targets_stay : (y : ℕ) (found : List ℕ) (chunks : List Chunk) → IsIn y found → IsIn y (targets_among span at found chunks)
  targets_stay y found [] there = there
  targets_stay y found (c ∷ chunks) there =
      targets_stay y (also found c (meets_any c.range span) (owner_among at c.owners)) chunks
      (still_there y found c (meets_any c.range span) (owner_among at c.owners) there)

  -- the owner of a chunk that a span meets is one of those of the span
  targets_met : (c : Chunk) (shard : ℕ) (found : List ℕ) (chunks : List Chunk) → IsIn c chunks → meets_any c.range span ≡ true
      → owner_among at c.owners ≡ Some shard → IsIn shard (targets_among span at found chunks)
  targets_met c shard found [] there met owns = absurd (in_none c there)
  targets_met c shard found (d ∷ chunks) there met owns =
      by_place (in_cons c d chunks there) (λ i. targets_met c shard (also found d (meets_any d.range span) (owner_among at d.owners)) chunks i met owns)
    where
      by_place : (c ≡ d) ⊎ IsIn c chunks
          → (IsIn c chunks → IsIn shard (targets_among span at (also found d (meets_any d.range span) (owner_among at d.owners)) chunks))
          → IsIn shard (targets_among span at (also found d (meets_any d.range span) (owner_among at d.owners)) chunks)
      by_place (inr i) more = more i
      by_place (inl same) more =
          let met_here : meets_any d.range span ≡ true = subst (λ (x : Chunk). meets_any x.range span ≡ true) same met in
          let owns_here : owner_among at d.owners ≡ Some shard = subst (λ (x : Chunk). owner_among at x.owners ≡ Some shard) same owns in
          let is : also found d (meets_any d.range span) (owner_among at d.owners) ≡ with_shard shard found =
          ap (λ b. also found d b (owner_among at d.owners)) met_here ∙ ap (λ o. also found d true o) owns_here in
          targets_stay shard (also found d (meets_any d.range span) (owner_among at d.owners)) chunks
          (subst (λ l. IsIn shard l) (sym is) (with_itself shard found))

-- each chunk of a table that is enough has an owner
chunk_owner : (at : ℕ) (c : Chunk) (chunks : List Chunk) → list_all (has_owner at) chunks ≡ true → IsIn c chunks
    → (shard : ℕ) × (owner_among at c.owners ≡ Some shard)
chunk_owner at c [] all there = absurd (in_none c there)
chunk_owner at c (d ∷ chunks) all there = by_place (in_cons c d chunks there) (both (has_owner at d) (list_all (has_owner at) chunks) all)
    (λ rest i. chunk_owner at c chunks rest i)
  where
    by_owner : (o : Option ℕ) → is_some o ≡ true → (shard : ℕ) × (o ≡ Some shard)
    by_owner None h = absurd (cc)
    by_owner (Some shard) h = (shard, refl)

    by_place : (c ≡ d) ⊎ IsIn c chunks → (has_owner at d ≡ true) × (list_all (has_owner at) chunks ≡ true)
        → (list_all (has_owner at) chunks ≡ true → IsIn c chunks → (shard : ℕ) × (owner_among at c.owners ≡ Some shard))
        → (shard : ℕ) × (owner_among at c.owners ≡ Some shard)
    by_place (inl same) parts more = by_owner (owner_among at c.owners) (subst (λ (x : Chunk). has_owner at x ≡ true) (sym same) parts.0)
    by_place (inr i) parts more = more parts.1 i

pub each_owner_is_asked : (t : Table) (at : ℕ) (span : List Span) (c : Chunk) → is_owned_at t at ≡ true → IsIn c t.chunks → meets_any c.range span ≡ true
    → (shard : ℕ) × (owner_among at c.owners ≡ Some shard) × IsIn shard (owners_of_span t at span)
each_owner_is_asked t at span c enough there met =
    let owns = chunk_owner at c t.chunks enough there in
    (owns.0, owns.1, by_targets owns.0 (targets t span at) (targets_met span at c owns.0 [] t.chunks there met owns.1))
  where
    by_targets : (shard : ℕ) (found : List ℕ) → IsIn shard found → IsIn shard (elim found as (λ (l : List ℕ). List ℕ) [
      | [] ↦ elim (owner_at t null_value at) as (λ (o : Option ℕ). List ℕ) [ None ↦ [] | Some s ↦ s ∷ [] ]
      | s ∷ shards ↦ s ∷ shards
    ])
    by_targets shard [] there = absurd (in_none shard there)
    by_targets shard (s ∷ shards) there = there
