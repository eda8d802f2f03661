-- Which shards have keys of a span, where nothing moves: the first shard alone, from the creation of the collection on.
use Rattle.std.proofs.Common.{◌≡◌, ◌≢◌, ◌⊎◌, inl, inr, ℕ, List, [], ◌∷◌, refl, sym, ap, subst, ◌∙◌, Bool}
use Rattle.std.specs.Prelude.{Option, Some, None, is_some, true, false, ◌&&◌, nat_le, if◌then◌else◌}
use Rattle.std.specs.List.{AllByRecursion, list_all}
use Rattle.std.specs.Option.{option_map}
use Rattle.std.specs.Str.{bytes_eq}
use Rattle.history_model.proofs.Lists.{all_weaken}
use Rattle.bson_model.specs.Tree.{Datum, null_value}
use Rattle.value_model.specs.Keys.{Span, range_span, inside}
use Rattle.chunk_model.specs.Catalogue.{Creation}
use Rattle.chunk_model.specs.Tables.{Owned, Chunk, Table, first_table, first_shard, newest, owner_among, owner_at}
use Rattle.chunk_model.specs.Changes.{Change, create_change, split_change, commit_change, namespace_of, can_split, strictly_inside, greatest_minor, lower_half, upper_half, split_chunks, split_table, table_after, known_table}
use Rattle.chunk_model.specs.Placement.{AreFitting}
use Rattle.chunk_model.specs.Targets.{meets_any, with_shard, targets_among, targets}
use Rattle.chunk_laws.proofs.Owners.{owners_of, now_is, at_is}
use Rattle.node_model.specs.RouterRequests.{owners_of_span, has_owner, is_owned_at}
use Rattle.node_laws.proofs.Views.{MovesNothing}
use Rattle.node_laws.proofs.CatalogueTables.{owns_now}

-- CHUNKS

-- the first shard is an owner from this time on
abbrev pub owned_from : ℕ → List Owned
owned_from since = record { since = since; shard = first_shard } ∷ []

-- a chunk has had this one owner
abbrev pub IsOwnedFrom : ℕ → Chunk → Type 0
IsOwnedFrom since c = c.owners ≡ owned_from since

-- and so has each chunk of a table
pub record HasOneOwner (t : Table) : Type 0 where
  pub since : ℕ
  pub each : AllByRecursion (IsOwnedFrom since) t.chunks

halves_owned : (since : ℕ) (middle : Datum) (all chunks : List Chunk) → AllByRecursion (IsOwnedFrom since) chunks
    → AllByRecursion (IsOwnedFrom since) (split_chunks middle all chunks)
halves_owned since middle all [] owned = tt
halves_owned since middle all (c ∷ chunks) owned = by_test (strictly_inside middle c.range) (halves_owned since middle all chunks owned.1)
  where
    by_test : (b : Bool) → AllByRecursion (IsOwnedFrom since) (split_chunks middle all chunks)
        → AllByRecursion (IsOwnedFrom since)
        (if b then lower_half middle (greatest_minor 0 c.version.major all) c ∷ upper_half middle (greatest_minor 0 c.version.major all) c
        ∷ split_chunks middle all chunks else c ∷ split_chunks middle all chunks)
    by_test true more = (owned.0, (owned.0, more))
    by_test false more = (owned.0, more)

split_owned : (middle : Datum) (t : Table) (can : Bool) → can_split middle t.chunks ≡ can → HasOneOwner t → HasOneOwner (split_table middle t)
split_owned middle t true h o = rw h (record { since = o.since; each = halves_owned o.since middle t.chunks t.chunks o.each })
split_owned middle t false h o = rw h o

pub one_owner : (namespace : List ℕ) (changes : List Change) (t : Table) → AllByRecursion MovesNothing changes → known_table namespace changes ≡ Some t
    → HasOneOwner t
one_owner namespace [] t still known = absurd (cc)
one_owner namespace (x ∷ older) t still known = by_name (bytes_eq (namespace_of x) namespace) known (λ u e. one_owner namespace older u still.1 e)
  where
    created : (c : Creation) (o : Option Table) → table_after (create_change c) o ≡ Some t → ((u : Table) → o ≡ Some u → HasOneOwner u) → HasOneOwner t
    created c None e more =
        let same : first_table c ≡ t = cc in
        subst (λ (u : Table). HasOneOwner u) same (record { since = c.at; each = (refl, tt) })
    created c (Some u) e more = let same : u ≡ t = cc in subst (λ (u : Table). HasOneOwner u) same (more u refl)

    halved : (middle : Datum) (o : Option Table) → option_map (split_table middle) o ≡ Some t → ((u : Table) → o ≡ Some u → HasOneOwner u) → HasOneOwner t
    halved middle None e more = absurd (cc)
    halved middle (Some u) e more =
        let same : split_table middle u ≡ t = cc in
        subst (λ (u : Table). HasOneOwner u) same (split_owned middle u (can_split middle u.chunks) refl (more u refl))

    by_change : (y : Change) → MovesNothing y → table_after y (known_table namespace older) ≡ Some t
        → ((u : Table) → known_table namespace older ≡ Some u → HasOneOwner u) → HasOneOwner t
    by_change (create_change c) stays e more = created c (known_table namespace older) e more
    by_change (split_change s) stays e more = halved s.middle (known_table namespace older) e more
    by_change (commit_change c) stays e more = absurd stays

    by_name : (b : Bool) → (if b then table_after x (known_table namespace older) else known_table namespace older) ≡ Some t
        → ((u : Table) → known_table namespace older ≡ Some u → HasOneOwner u) → HasOneOwner t
    by_name true e more = by_change x still.0 e more
    by_name false e more = more t e

-- each chunk that had this owner had one
each_owned : (at shard : ℕ) (chunks : List Chunk) → AllByRecursion (λ (c : Chunk). owner_among at c.owners ≡ Some shard) chunks
    → list_all (has_owner at) chunks ≡ true
each_owned at shard [] owned = refl
each_owned at shard (c ∷ chunks) owned = ap (λ o. is_some o && list_all (has_owner at) chunks) owned.0 ∙ each_owned at shard chunks owned.1

-- where all had the same owner, or none, each had one if that is one
all_alike : (at : ℕ) (o : Option ℕ) (chunks : List Chunk) → AllByRecursion (λ (c : Chunk). owner_among at c.owners ≡ o) chunks → chunks ≢ []
    → list_all (has_owner at) chunks ≡ is_some o
all_alike at None [] each some = absurd (some refl)
all_alike at None (c ∷ chunks) each some = ap (λ o. is_some o && list_all (has_owner at) chunks) each.0
all_alike at (Some shard) chunks each some = each_owned at shard chunks each

-- SPANS

-- where no chunk had an owner at the time there is none for a span
none_found : (spans : List Span) (at : ℕ) (found : List ℕ) (chunks : List Chunk) → AllByRecursion (λ (c : Chunk). owner_among at c.owners ≡ None) chunks
    → targets_among spans at found chunks ≡ found
none_found spans at found [] none = refl
none_found spans at found (c ∷ chunks) none =
    ap (λ l. targets_among spans at l chunks) (by_meets (meets_any c.range spans)) ∙ none_found spans at found chunks none.1
  where
    by_meets : (b : Bool)
        → (if b then (elim (owner_among at c.owners) as (λ (x : Option ℕ). List ℕ) [ None ↦ found | Some shard ↦ with_shard shard found ]) else found) ≡ found
    by_meets true = ap (λ o. elim o as (λ (x : Option ℕ). List ℕ) [ None ↦ found | Some shard ↦ with_shard shard found ]) none.0
    by_meets false = refl

abbrev IsFirstOrNone : List ℕ → Type 0
IsFirstOrNone shards = (shards ≡ []) ⊎ (shards ≡ first_shard ∷ [])

-- where the first shard owned each it is the only one
first_found : (spans : List Span) (at : ℕ) (found : List ℕ) (chunks : List Chunk)
    → AllByRecursion (λ (c : Chunk). owner_among at c.owners ≡ Some first_shard) chunks → IsFirstOrNone found
    → IsFirstOrNone (targets_among spans at found chunks)
first_found spans at found [] owned so_far = so_far
first_found spans at found (c ∷ chunks) owned so_far =
    first_found spans at
    (if meets_any c.range spans
    then (elim (owner_among at c.owners) as (λ (x : Option ℕ). List ℕ) [ None ↦ found | Some shard ↦ with_shard shard found ]) else found)
    chunks owned.1 (by_meets (meets_any c.range spans))
  where
    more : IsFirstOrNone found → IsFirstOrNone (with_shard first_shard found)
    more (inl e) = inr (ap (λ l. with_shard first_shard l) e)
    more (inr e) = inr (ap (λ l. with_shard first_shard l) e)

    by_meets : (b : Bool)
        → IsFirstOrNone
        (if b then (elim (owner_among at c.owners) as (λ (x : Option ℕ). List ℕ) [ None ↦ found | Some shard ↦ with_shard shard found ]) else found)
    by_meets true =
        subst (λ o. IsFirstOrNone (elim o as (λ (x : Option ℕ). List ℕ) [ None ↦ found | Some shard ↦ with_shard shard found ])) (sym owned.0) (more so_far)
    by_meets false = so_far

-- the owners of a key, where each chunk has this one
key_owners : (since : ℕ) (key : Datum) (chunks : List Chunk) → AllByRecursion (IsOwnedFrom since) chunks
    → (owners_of key chunks ≡ []) ⊎ (owners_of key chunks ≡ owned_from since)
key_owners since key [] each = inl refl
key_owners since key (c ∷ chunks) each = by_test (inside (range_span c.range) key) (key_owners since key chunks each.1)
  where
    by_test : (b : Bool) → (owners_of key chunks ≡ []) ⊎ (owners_of key chunks ≡ owned_from since)
        → ((if b then c.owners else owners_of key chunks) ≡ []) ⊎ ((if b then c.owners else owners_of key chunks) ≡ owned_from since)
    by_test true more = inr each.0
    by_test false more = more

-- a shard or none, as a list
abbrev pub listed_owner : Option ℕ → List ℕ
listed_owner None = []
listed_owner (Some shard) = shard ∷ []

module _ (namespace : List ℕ) (changes : List Change) (t : Table) (fits : AreFitting changes) (still : AllByRecursion MovesNothing changes)
    (known : known_table namespace changes ≡ Some t) (at : ℕ) where
  one : HasOneOwner t
  one = one_owner namespace changes t still known

  -- each key is in a chunk
  null_owners : owners_of null_value t.chunks ≡ owned_from one.since
  null_owners = by_case (key_owners one.since null_value t.chunks one.each)
    where
      by_case : (owners_of null_value t.chunks ≡ []) ⊎ (owners_of null_value t.chunks ≡ owned_from one.since)
          → owners_of null_value t.chunks ≡ owned_from one.since
      by_case (inr e) = e
      by_case (inl e) =
          let now : newest (owners_of null_value t.chunks) ≡ Some first_shard =
          sym (now_is t null_value) ∙ owns_now namespace changes t fits still known null_value refl in
          let none : newest (owners_of null_value t.chunks) ≡ None = ap newest e in
          absurd (cc)

  null_owner : owner_at t null_value at ≡ owner_among at (owned_from one.since)
  null_owner = at_is t null_value at ∙ ap (owner_among at) null_owners

  some_chunk : t.chunks ≢ []
  some_chunk e =
      let none : owners_of null_value [] ≡ owned_from one.since = subst (λ l. owners_of null_value l ≡ owned_from one.since) e null_owners in
      cc

  each_is : (o : Option ℕ) → owner_among at (owned_from one.since) ≡ o → AllByRecursion (λ (c : Chunk). owner_among at c.owners ≡ o) t.chunks
  each_is o is = all_weaken (IsOwnedFrom one.since) (λ (c : Chunk). owner_among at c.owners ≡ o) t.chunks (λ c e. ap (owner_among at) e ∙ is) one.each

  -- each key has an owner at the time, or none has: no chunk was there before the collection was created
  pub owned_is : is_owned_at t at ≡ is_some (owner_at t null_value at)
  owned_is =
      all_alike at (owner_among at (owned_from one.since)) t.chunks (each_is (owner_among at (owned_from one.since)) refl) some_chunk
      ∙ sym (ap (λ o. is_some o) null_owner)

  -- a read of a span is sent to the owner of the least key, which owns all
  pub span_owners : (span : List Span) → owners_of_span t at span ≡ listed_owner (owner_at t null_value at)
  span_owners span = by_time (nat_le one.since at) refl
    where
      by_targets : (found : List ℕ) → targets t span at ≡ found → owner_at t null_value at ≡ Some first_shard → IsFirstOrNone found
          → (elim found as (λ (l : List ℕ). List ℕ) [
            | [] ↦ elim (owner_at t null_value at) as (λ (o : Option ℕ). List ℕ) [ None ↦ [] | Some shard ↦ shard ∷ [] ]
            | shard ∷ shards ↦ shard ∷ shards
          ]) ≡ listed_owner (owner_at t null_value at)
      by_targets [] is owner some = rw owner refl
      by_targets (shard ∷ shards) is owner (inl e) = absurd (cc)
      by_targets (shard ∷ shards) is owner (inr e) = e ∙ sym (ap listed_owner owner)

      by_time : (b : Bool) → nat_le one.since at ≡ b → owners_of_span t at span ≡ listed_owner (owner_at t null_value at)
      by_time true h =
          let is : owner_among at (owned_from one.since) ≡ Some first_shard = ap (λ b. if b then Some first_shard else None) h in
          by_targets (targets t span at) refl (null_owner ∙ is) (first_found span at [] t.chunks (each_is (Some first_shard) is) (inl refl))
      by_time false h =
          let is : owner_among at (owned_from one.since) ≡ None = ap (λ b. if b then Some first_shard else None) h in
          let nobody : owner_at t null_value at ≡ None = null_owner ∙ is in
          let none : targets t span at ≡ [] = none_found span at [] t.chunks (each_is None is) in
          ap (λ found. elim found as (λ (l : List ℕ). List ℕ) [
            | [] ↦ elim (owner_at t null_value at) as (λ (o : Option ℕ). List ℕ) [ None ↦ [] | Some shard ↦ shard ∷ [] ]
            | shard ∷ shards ↦ shard ∷ shards
          ]) none
          ∙ ap (λ owner. elim owner as (λ (o : Option ℕ). List ℕ) [ None ↦ [] | Some shard ↦ shard ∷ [] ]) nobody
          ∙ sym (ap listed_owner nobody)
