-- What the catalogue answers.
use Rattle.std.proofs.Common.{◌≡◌, ℕ, ◌+◌, List, ◌∷◌, refl, sym, ap, ◌∙◌, Bool}
use Rattle.std.specs.Prelude.{Option, Some, None, true, false, if◌then◌else◌}
use Rattle.std.specs.Str.{bytes_eq}
use Rattle.std.proofs.lemmas.Slice.Eq.{bytes_eq-Decides}
use Rattle.bson_model.specs.Tree.{Datum}
use Rattle.chunk_model.specs.Catalogue.{Creation}
use Rattle.chunk_model.specs.Tables.{Table, first_table}
use Rattle.chunk_model.specs.Changes.{Change, create_change, split_change, known_table, creations, can_split, split_table}
use Rattle.chunk_model.specs.Requests.{CatalogueAnswer, changed, unchanged, no_collection, create_answer, split_answer}

changed_is : (x y : Change) → changed x ≡ changed y → x ≡ y
changed_is x y e = cc

-- a change that begins a collection
pub created_is : (namespace : List ℕ) (at : ℕ) (changes : List Change) (x : Change) → create_answer namespace at changes ≡ changed x
    → x ≡ create_change (record { namespace = namespace; epoch = creations namespace changes + 1; at = at })
created_is namespace at changes x e = by_table (known_table namespace changes) e
  where
    made : Change
    made = create_change (record { namespace = namespace; epoch = creations namespace changes + 1; at = at })

    by_table : (o : Option Table) → elim o as (λ (p : Option Table). CatalogueAnswer) [ None ↦ changed made | Some t ↦ unchanged ] ≡ changed x → x ≡ made
    by_table None h = sym (changed_is made x h)
    by_table (Some t) h = absurd (cc)

-- after it there is a table
pub created_known : (namespace : List ℕ) (at : ℕ) (changes : List Change) (x : Change) → create_answer namespace at changes ≡ changed x
    → (t : Table) × (known_table namespace (x ∷ changes) ≡ Some t)
created_known namespace at changes x e = by_table (known_table namespace changes) refl e
  where
    made : Creation
    made = record { namespace = namespace; epoch = creations namespace changes + 1; at = at }

    by_table : (o : Option Table) → known_table namespace changes ≡ o
        → elim o as (λ (p : Option Table). CatalogueAnswer) [ None ↦ changed (create_change made) | Some t ↦ unchanged ] ≡ changed x
        → (t : Table) × (known_table namespace (x ∷ changes) ≡ Some t)
    by_table None is h =
        let same : bytes_eq namespace namespace ≡ true = (bytes_eq-Decides namespace namespace).1 refl in
        let known : known_table namespace (create_change made ∷ changes) ≡ Some (first_table made) = rw (same, is) refl in
        (first_table made, ap (λ y. known_table namespace (y ∷ changes)) (sym (changed_is (create_change made) x h)) ∙ known)
    by_table (Some t) is h = absurd (cc)

-- a change that splits a chunk: where one can be split
pub record Splits (namespace : List ℕ) (middle : Datum) (at : ℕ) (changes : List Change) (x : Change) : Type 0 where
  pub is : x ≡ split_change (record { namespace = namespace; middle = middle; at = at })
  pub table : Table
  pub known : known_table namespace changes ≡ Some table
  pub can : can_split middle table.chunks ≡ true

pub splits : (namespace : List ℕ) (middle : Datum) (at : ℕ) (changes : List Change) (x : Change) → split_answer namespace middle at changes ≡ changed x
    → Splits namespace middle at changes x
splits namespace middle at changes x e = by_table (known_table namespace changes) refl e
  where
    made : Change
    made = split_change (record { namespace = namespace; middle = middle; at = at })

    by_can : (t : Table) → known_table namespace changes ≡ Some t → (b : Bool) → can_split middle t.chunks ≡ b
        → (if b then changed made else unchanged) ≡ changed x → Splits namespace middle at changes x
    by_can t is true can h = record { is = sym (changed_is made x h); table = t; known = is; can = can }
    by_can t is false can h = absurd (cc)

    by_table : (o : Option Table) → known_table namespace changes ≡ o
        → elim o as (λ (p : Option Table). CatalogueAnswer) [
          | None ↦ no_collection
          | Some t ↦ if can_split middle t.chunks then changed made else unchanged
        ] ≡ changed x → Splits namespace middle at changes x
    by_table None is h = absurd (cc)
    by_table (Some t) is h = by_can t is (can_split middle t.chunks) refl h

-- none can be split there
pub record HasBound (namespace : List ℕ) (middle : Datum) (changes : List Change) : Type 0 where
  pub table : Table
  pub known : known_table namespace changes ≡ Some table
  pub cannot : can_split middle table.chunks ≡ false

pub has_bound : (namespace : List ℕ) (middle : Datum) (at : ℕ) (changes : List Change) → split_answer namespace middle at changes ≡ unchanged
    → HasBound namespace middle changes
has_bound namespace middle at changes e = by_table (known_table namespace changes) refl e
  where
    made : Change
    made = split_change (record { namespace = namespace; middle = middle; at = at })

    by_can : (t : Table) → known_table namespace changes ≡ Some t → (b : Bool) → can_split middle t.chunks ≡ b
        → (if b then changed made else unchanged) ≡ unchanged → HasBound namespace middle changes
    by_can t is true can h = absurd (cc)
    by_can t is false can h = record { table = t; known = is; cannot = can }

    by_table : (o : Option Table) → known_table namespace changes ≡ o
        → elim o as (λ (p : Option Table). CatalogueAnswer) [
          | None ↦ no_collection
          | Some t ↦ if can_split middle t.chunks then changed made else unchanged
        ] ≡ unchanged → HasBound namespace middle changes
    by_table None is h = absurd (cc)
    by_table (Some t) is h = by_can t is (can_split middle t.chunks) refl h

pub no_table : (namespace : List ℕ) (middle : Datum) (at : ℕ) (changes : List Change) → split_answer namespace middle at changes ≡ no_collection
    → known_table namespace changes ≡ None
no_table namespace middle at changes e = by_table (known_table namespace changes) e
  where
    made : Change
    made = split_change (record { namespace = namespace; middle = middle; at = at })

    by_can : (t : Table) (b : Bool) → (if b then changed made else unchanged) ≡ no_collection → Some t ≡ None
    by_can t true h = absurd (cc)
    by_can t false h = absurd (cc)

    by_table : (o : Option Table)
        → elim o as (λ (p : Option Table). CatalogueAnswer) [
          | None ↦ no_collection
          | Some t ↦ if can_split middle t.chunks then changed made else unchanged
        ] ≡ no_collection → o ≡ None
    by_table None h = refl
    by_table (Some t) h = by_can t (can_split middle t.chunks) h

-- after a split the collection's table has a chunk that begins there
pub split_known : (namespace : List ℕ) (middle : Datum) (at : ℕ) (changes : List Change) (t : Table) → known_table namespace changes ≡ Some t
    → known_table namespace (split_change (record { namespace = namespace; middle = middle; at = at }) ∷ changes) ≡ Some (split_table middle t)
split_known namespace middle at changes t known =
    let same : bytes_eq namespace namespace ≡ true = (bytes_eq-Decides namespace namespace).1 refl in
    rw (same, known) refl
