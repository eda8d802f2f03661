-- Each change that the catalogue answers with follows those before it.
use Rattle.std.proofs.Common.{◌≡◌, ◌≢◌, ℕ, ◌+◌, ◌<◌, List, [], ◌∷◌, refl, sym, ap, subst, ◌∙◌}
use Rattle.std.specs.Prelude.{Bool, true, false, ◌==◌, not, Option, Some, None, if◌then◌else◌}
use Rattle.std.specs.List.{AllByRecursion}
use Rattle.std.proofs.lemmas.Bool.{eqb-true, eqb-false}
use Rattle.bson_model.specs.Tree.{Datum}
use Rattle.value_model.specs.Keys.{is_key}
use Rattle.chunk_model.specs.Catalogue.{Creation, Split, Commit}
use Rattle.chunk_model.specs.Tables.{Owned, Chunk, Table, newest, is_owner}
use Rattle.chunk_model.specs.Changes.{Change, create_change, split_change, commit_change, time_of, known_table, creations, is_committed, can_split, chunk_with}
use Rattle.chunk_model.specs.Placement.{Follows}
use Rattle.chunk_model.specs.Requests.{CommitWords, CatalogueAnswer, changed, unchanged, settled, no_collection, not_a_bound, version_differs, not_owner, same_shard, create_answer, split_answer, same_version, chunk_answer, commit_answer}

changed_is : (x y : Change) → changed x ≡ changed y → x ≡ y
changed_is x y e = cc

abbrev AreEarlier : ℕ → List Change → Type 0
AreEarlier at changes = AllByRecursion (λ y. time_of y < at) changes

pub create_follows : (ns : List ℕ) (at : ℕ) (changes : List Change) (x : Change) → AreEarlier at changes → create_answer ns at changes ≡ changed x
    → Follows x changes
create_follows ns at changes x later e = by_table (known_table ns changes) refl e
  where
    made : Change
    made = create_change (record { namespace = ns; epoch = creations ns changes + 1; at = at })

    by_table : (o : Option Table) → known_table ns changes ≡ o → elim o as (λ
        (p : Option Table). CatalogueAnswer) [ None ↦ changed made | Some t ↦ unchanged ] ≡ changed x → Follows x changes
    by_table None is h = subst (λ y. Follows y changes) (changed_is made x h) (record { later = later; fits = record { absent = is; next = refl } })
    by_table (Some t) is h = absurd cc

pub split_follows : (ns : List ℕ) (middle : Datum) (at : ℕ) (changes : List Change) (x : Change) → AreEarlier at changes → is_key middle ≡ true
    → split_answer ns middle at changes ≡ changed x → Follows x changes
split_follows ns middle at changes x later valid e = by_table (known_table ns changes) refl e
  where
    made : Change
    made = split_change (record { namespace = ns; middle = middle; at = at })

    by_can : (t : Table) → known_table ns changes ≡ Some t → (b : Bool) → can_split middle t.chunks ≡ b
        → (if b then changed made else unchanged) ≡ changed x → Follows x changes
    by_can t is true can h = subst (λ y. Follows y changes) (changed_is made x h)
        (record { later = later; fits = record { table = t; known = is; key = valid; inside = can } })
    by_can t is false can h = absurd cc

    by_table : (o : Option Table) → known_table ns changes ≡ o → elim o as (λ
        (p : Option Table). CatalogueAnswer) [ None ↦ no_collection | Some t ↦ if can_split middle t.chunks then changed made else unchanged ] ≡ changed x → Follows x changes
    by_table None is h = absurd cc
    by_table (Some t) is h = by_can t is (can_split middle t.chunks) refl h

owner_is : (shard : ℕ) (owners : List Owned) → is_owner shard owners ≡ true → newest owners ≡ Some shard
owner_is shard [] e = absurd cc
owner_is shard (o ∷ owners) e = ap (λ (n : ℕ). Some n) (eqb-true _ _ e)

pub commit_follows : (words : CommitWords) (at : ℕ) (changes : List Change) (x : Change) → AreEarlier at changes
    → commit_answer words at changes ≡ changed x → Follows x changes
commit_follows words at changes x later e = by_id (is_committed words.id changes) refl e
  where
    made : Change
    made = commit_change (record { id = words.id; namespace = words.namespace; range = words.range; from = words.from; to = words.to; at = at })

    by_shards : (fresh : is_committed words.id changes ≡ false) (t : Table) (is : known_table words.namespace changes ≡ Some t) (c : Chunk)
        (range : chunk_with words.range t.chunks ≡ Some c)
        → (v own same : Bool) → is_owner words.from c.owners ≡ own → (words.from == words.to) ≡ same
        → (if not v then version_differs c.version else if not own then not_owner else if same then same_shard else changed made) ≡ changed x
        → Follows x changes
    by_shards fresh t is c range false own same o s h = absurd cc
    by_shards fresh t is c range true false same o s h = absurd cc
    by_shards fresh t is c range true true true o s h = absurd cc
    by_shards fresh t is c range true true false o s h =
        subst (λ y. Follows y changes) (changed_is made x h)
        (record { later = later; fits = record { fresh = fresh; table = t; known = is; chunk = c; range = range; owner = owner_is words.from c.owners o; apart = eqb-false _ _ s } })

    by_chunk : (fresh : is_committed words.id changes ≡ false) (t : Table) (is : known_table words.namespace changes ≡ Some t) (o : Option Chunk)
        → chunk_with words.range t.chunks ≡ o
        → elim o as (λ (p : Option Chunk). CatalogueAnswer) [ None ↦ not_a_bound | Some c ↦ chunk_answer words at c ] ≡ changed x → Follows x changes
    by_chunk fresh t is None range h = absurd cc
    by_chunk fresh t is (Some c) range h = by_shards fresh t is c range (same_version c.version words.version) (is_owner words.from c.owners)
        (words.from == words.to) refl refl h

    by_table : (fresh : is_committed words.id changes ≡ false) (o : Option Table) → known_table words.namespace changes ≡ o
        → elim o as (λ (p : Option Table). CatalogueAnswer) [
          | None ↦ no_collection
          | Some t ↦ elim (chunk_with words.range t.chunks) as (λ
              (p : Option Chunk). CatalogueAnswer) [ None ↦ not_a_bound | Some c ↦ chunk_answer words at c ]
        ] ≡ changed x
        → Follows x changes
    by_table fresh None is h = absurd cc
    by_table fresh (Some t) is h = by_chunk fresh t is (chunk_with words.range t.chunks) refl h

    by_id : (b : Bool) → is_committed words.id changes ≡ b
        → (if b then settled true else elim (known_table words.namespace changes) as (λ
        (o : Option Table). CatalogueAnswer) [
          | None ↦ no_collection
          | Some t ↦ elim (chunk_with words.range t.chunks) as (λ
              (p : Option Chunk). CatalogueAnswer) [ None ↦ not_a_bound | Some c ↦ chunk_answer words at c ]
        ]) ≡ changed x
        → Follows x changes
    by_id true known h = absurd cc
    by_id false known h = by_table known (known_table words.namespace changes) refl h
