-- The greatest time in a table that the catalogue had is that of its collection's creation, since no change moves a chunk.
use Rattle.std.proofs.Common.{◌≡◌, ℕ, ◌+◌, List, [], ◌∷◌, refl, sym, ap, ◌∙◌, arith, Bool}
use Rattle.std.specs.Prelude.{max, Option, Some, None, true, false, if◌then◌else◌}
use Rattle.std.specs.List.{AllByRecursion}
use Rattle.std.specs.Option.{option_map}
use Rattle.std.specs.Str.{bytes_eq}
use Rattle.bson_model.specs.Tree.{Datum}
use Rattle.history_model.specs.History.{IsIn}
use Rattle.history_model.proofs.Lists.{in_first, in_later}
use Rattle.chunk_model.specs.Catalogue.{Creation}
use Rattle.chunk_model.specs.Tables.{Chunk, Table, first_table}
use Rattle.chunk_model.specs.Changes.{Change, create_change, split_change, commit_change, namespace_of, strictly_inside, can_split, greatest_minor, lower_half, upper_half, split_chunks, split_table, table_after, known_table}
use Rattle.chunk_model.specs.Placement.{Follows, AreFitting}
use Rattle.node_laws.proofs.Views.{View, MovesNothing}
use Rattle.node_laws.proofs.CatalogueTables.{same_name, one_creation}
use Rattle.node_laws.proofs.Facts.{IsKnownTable}
use Rattle.node_laws.proofs.KnownTables.{older_still}
use Rattle.node_replay.specs.Replays.{latest_owner, latest_of_chunks, latest_in_table}

-- SPLITS

latest_split : (middle : Datum) (all chunks : List Chunk) → latest_of_chunks (split_chunks middle all chunks) ≡ latest_of_chunks chunks
latest_split middle all [] = refl
latest_split middle all (c ∷ chunks) = by_test (strictly_inside middle c.range) (latest_split middle all chunks)
  where
    minor : ℕ
    minor = greatest_minor 0 c.version.major all

    by_test : (b : Bool) → latest_of_chunks (split_chunks middle all chunks) ≡ latest_of_chunks chunks
        → latest_of_chunks
        (if b then lower_half middle minor c ∷ upper_half middle minor c ∷ split_chunks middle all chunks else c ∷ split_chunks middle all chunks)
        ≡ latest_of_chunks (c ∷ chunks)
    by_test true rest = omega (arith, rest)
    by_test false rest = ap (λ n. max (latest_owner c.owners) n) rest

latest_after_split : (middle : Datum) (t : Table) → latest_in_table (split_table middle t) ≡ latest_in_table t
latest_after_split middle t = by_can (can_split middle t.chunks)
  where
    after : Table
    after = record { namespace = t.namespace; epoch = t.epoch; changes = t.changes + 1; oldest = t.oldest; chunks = split_chunks middle t.chunks t.chunks }

    by_can : (b : Bool) → latest_in_table (if b then after else t) ≡ latest_in_table t
    by_can true = ap (λ n. max t.oldest n) (latest_split middle t.chunks t.chunks)
    by_can false = refl

-- WHAT CHANGES MAKE

record LatestIs (namespace : List ℕ) (changes : List Change) (t : Table) : Type 0 where
  pub creation : Creation
  pub begun : IsIn (create_change creation) changes
  pub name : creation.namespace ≡ namespace
  pub latest : latest_in_table t ≡ creation.at

one_later : (namespace : List ℕ) (x : Change) (changes : List Change) (t : Table) → LatestIs namespace changes t → LatestIs namespace (x ∷ changes) t
one_later namespace x changes t m =
    record { creation = m.creation; begun = in_later (create_change m.creation) x changes m.begun; name = m.name; latest = m.latest }

latest_of : (namespace : List ℕ) (changes : List Change) (t : Table) → AreFitting changes → AllByRecursion MovesNothing changes
    → known_table namespace changes ≡ Some t → LatestIs namespace changes t
latest_of namespace [] t fitting still known = absurd (cc)
latest_of namespace (x ∷ older) t fitting still known =
    by_name (bytes_eq (namespace_of x) namespace) refl known (λ u e. latest_of namespace older u fitting.1 still.1 e)
  where
    split_made : (s : Datum) (o : Option Table) → option_map (split_table s) o ≡ Some t → ((u : Table) → o ≡ Some u → LatestIs namespace older u)
        → LatestIs namespace older t
    split_made s None e more = absurd (cc)
    split_made s (Some u) e more =
        let same : split_table s u ≡ t = cc in
        let m = more u refl in
        record {
          creation = m.creation;
          begun = m.begun;
          name = m.name;
          latest = ap (λ v. latest_in_table v) (sym same) ∙ latest_after_split s u ∙ m.latest;
        }

    by_change : (y : Change) → Follows y older → MovesNothing y → bytes_eq (namespace_of y) namespace ≡ true
        → table_after y (known_table namespace older) ≡ Some t
        → ((u : Table) → known_table namespace older ≡ Some u → LatestIs namespace older u) → LatestIs namespace (y ∷ older) t
    by_change (create_change c) f st h e more =
        let name : c.namespace ≡ namespace = same_name c.namespace namespace h in
        let none : known_table namespace older ≡ None = ap (λ n. known_table n older) (sym name) ∙ f.fits.absent in
        let is : Some (first_table c) ≡ Some t = ap (λ o. table_after (create_change c) o) (sym none) ∙ e in
        let same : first_table c ≡ t = cc in
        record {
          creation = c;
          begun = in_first (create_change c) older;
          name = name;
          latest = ap (λ v. latest_in_table v) (sym same) ∙ first_latest c;
        }
      where
        first_latest : (c : Creation) → latest_in_table (first_table c) ≡ c.at
        first_latest c = omega arith
    by_change (split_change s) f st h e more =
        one_later namespace (split_change s) older t (split_made s.middle (known_table namespace older) e more)
    by_change (commit_change m) f st h e more = absurd st

    by_name : (b : Bool) → bytes_eq (namespace_of x) namespace ≡ b
        → (if b then table_after x (known_table namespace older) else known_table namespace older) ≡ Some t
        → ((u : Table) → known_table namespace older ≡ Some u → LatestIs namespace older u) → LatestIs namespace (x ∷ older) t
    by_name true h e more = by_change x fitting.0 still.0 h e more
    by_name false h e more = one_later namespace x older t (more t e)

pub known_latest : (v : View) (time : ℕ) (t : Table) → (k : IsKnownTable v time t) → latest_in_table t ≡ k.begun.creation.at
known_latest v time t k =
    let m = latest_of t.namespace k.older t k.fitting (older_still v time t k) k.known in
    m.latest
    ∙ ap (λ (c : Creation). c.at) (one_creation m.creation k.begun.creation k.older k.fitting m.begun k.begun.begun (m.name ∙ sym k.begun.name))
