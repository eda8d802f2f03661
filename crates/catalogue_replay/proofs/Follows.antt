-- What a change that the catalogue makes again leads to.
use Rattle.std.proofs.Common.{◌≡◌, ℕ, ◌+◌, ◌<◌, List, refl, sym, ap, ◌∙◌}
use Rattle.std.specs.Prelude.{Bool, true, false, ◌&&◌, ◌==◌, Option, Some, None, is_none, nat_lt, if◌then◌else◌}
use Rattle.std.proofs.lemmas.Bool.{and_from, lt-ltb, eq-eqb}
use Rattle.std.proofs.lemmas.Bool.Decides.{Decides-eqb}
use Rattle.bson_model.specs.Tree.{Datum}
use Rattle.chunk_catalogue.specs.Views.{change_view}
use Rattle.chunk_catalogue.specs.declared.change.ChangeFields.{ChangeFields}
use Rattle.chunk_catalogue.specs.declared.change.ChangeFields.TheVariants as fields
use Rattle.chunk_model.specs.Catalogue.{Creation, Split}
use Rattle.chunk_model.specs.Changes.{Change, create_change, split_change, commit_change, known_table, creations, can_split}
use Rattle.chunk_model.specs.Requests.{CatalogueAnswer, changed, unchanged, no_collection, create_answer, split_answer}
use Rattle.chunk_model.specs.Tables.{Table}
use Rattle.record_model.specs.Records.{create_record, split_record}
use Rattle.node_replay.specs.Durable.{DurableCatalogue}
use Rattle.node_replay.specs.Follow.{catalogue_follow, is_inside, with_change}
use Rattle.catalogue_replay.specs.CatalogueParts.{creates_at}

-- one of three is false
second_false : (a b c : Bool) → b ≡ false → (a && (b && c)) ≡ false
second_false true false c e = refl
second_false false false c e = refl
second_false a true c e = absurd (cc)

third_false : (a b c : Bool) → c ≡ false → (a && (b && c)) ≡ false
third_false true true false e = refl
third_false true false false e = refl
third_false false b false e = refl
third_false a b true e = absurd (cc)

right_false : (a b : Bool) → b ≡ false → (a && b) ≡ false
right_false true false e = refl
right_false false false e = refl
right_false a true e = absurd (cc)

abbrev epoch_of : Change → ℕ
epoch_of (create_change c) = c.epoch
epoch_of (split_change s) = 0
epoch_of (commit_change c) = 0

creates_epoch : (x : ChangeFields) (epoch : ℕ) → creates_at x epoch ≡ true → epoch_of (change_view x) ≡ epoch
creates_epoch (fields.Create namespace made at) epoch e = (Decides-eqb made epoch).0 e
creates_epoch (fields.Split namespace middle at) epoch e = absurd (cc)
creates_epoch (fields.Commit id namespace range from to at) epoch e = absurd (cc)

other_epoch : (x : ChangeFields) (c : Creation) (epoch : ℕ) → change_view x ≡ create_change c → creates_at x epoch ≡ false → (epoch == c.epoch) ≡ false
other_epoch (fields.Create namespace made at) c epoch is e = by_test (epoch == c.epoch) refl
  where
    by_test : (b : Bool) → (epoch == c.epoch) ≡ b → b ≡ false
    by_test false h = refl
    by_test true h =
        let same : made ≡ epoch = ap epoch_of is ∙ sym ((Decides-eqb epoch c.epoch).0 h) in
        let found : (made == epoch) ≡ true = eq-eqb made epoch same in
        absurd (cc)
other_epoch (fields.Split namespace middle at) c epoch is e = absurd (cc)
other_epoch (fields.Commit id namespace range from to at) c epoch is e = absurd (cc)

-- CREATIONS

abbrev next_creation : Creation → List Change → Creation
next_creation c changes = record { namespace = c.namespace; epoch = creations c.namespace changes + 1; at = c.at }

-- the change that the catalogue makes is the next creation of the name, where there is no table
record IsNextCreation (d : DurableCatalogue) (c : Creation) (x : Change) : Type 0 where
  pub none : known_table c.namespace d.changes ≡ None
  pub is : x ≡ create_change (next_creation c d.changes)

next_created : (d : DurableCatalogue) (c : Creation) (x : Change) → changed x ≡ create_answer c.namespace c.at d.changes → IsNextCreation d c x
next_created d c x answer = by_table (known_table c.namespace d.changes) refl answer
  where
    by_table : (o : Option Table) → known_table c.namespace d.changes ≡ o
        → changed x ≡ (elim o as (λ (o : Option Table). CatalogueAnswer) [
          | None ↦ changed (create_change (next_creation c d.changes))
          | Some t ↦ unchanged
        ]) → IsNextCreation d c x
    by_table None none same = record { none = none; is = cc }
    by_table (Some t) some same = absurd (cc)

-- the next creation of its name may follow
pub created : (d : DurableCatalogue) (c : Creation) (x : ChangeFields) → d.top < c.at → changed (change_view x) ≡ create_answer c.namespace c.at d.changes
    → creates_at x c.epoch ≡ true → catalogue_follow d (create_record c) ≡ Some (with_change d c.at (change_view x))
created d c x later answer epoch =
    let next = next_created d c (change_view x) answer in
    let same : c.epoch ≡ creations c.namespace d.changes + 1 = sym (creates_epoch x c.epoch epoch) ∙ ap epoch_of next.is in
    let may : (nat_lt d.top c.at && (is_none (known_table c.namespace d.changes) && c.epoch == creations c.namespace d.changes + 1)) ≡ true =
    and_from _ _ (lt-ltb d.top c.at later)
    (and_from _ _ (ap (λ (o : Option Table). is_none o) next.none) (eq-eqb c.epoch (creations c.namespace d.changes + 1) same)) in
    let is : create_change c ≡ change_view x =
    ap (λ n. create_change (record { namespace = c.namespace; epoch = n; at = c.at })) same ∙ sym next.is in
    ap (λ b. if b then Some (with_change d c.at (create_change c)) else None) may ∙ ap (λ y. Some (with_change d c.at y)) is

-- one of another epoch may not
pub not_created : (d : DurableCatalogue) (c : Creation) (x : ChangeFields) → changed (change_view x) ≡ create_answer c.namespace c.at d.changes
    → creates_at x c.epoch ≡ false → catalogue_follow d (create_record c) ≡ None
not_created d c x answer epoch =
    let next = next_created d c (change_view x) answer in
    let other = other_epoch x (next_creation c d.changes) c.epoch next.is epoch in
    ap (λ b. if b then Some (with_change d c.at (create_change c)) else None)
    (third_false (nat_lt d.top c.at) (is_none (known_table c.namespace d.changes)) (c.epoch == creations c.namespace d.changes + 1) other)

-- nor one of a collection that exists
pub exists : (d : DurableCatalogue) (c : Creation) → unchanged ≡ create_answer c.namespace c.at d.changes → catalogue_follow d (create_record c) ≡ None
exists d c answer = by_table (known_table c.namespace d.changes) refl answer
  where
    by_table : (o : Option Table) → known_table c.namespace d.changes ≡ o
        → unchanged ≡ (elim o as (λ (o : Option Table). CatalogueAnswer) [
          | None ↦ changed (create_change (next_creation c d.changes))
          | Some t ↦ unchanged
        ]) → catalogue_follow d (create_record c) ≡ None
    by_table None none same = absurd (cc)
    by_table (Some t) some same =
        ap (λ b. if b then Some (with_change d c.at (create_change c)) else None)
        (second_false (nat_lt d.top c.at) (is_none (known_table c.namespace d.changes)) (c.epoch == creations c.namespace d.changes + 1)
        (ap (λ (o : Option Table). is_none o) some))

-- SPLITS

abbrev follows_if : DurableCatalogue → Split → Bool → Option DurableCatalogue
follows_if d s b = if b then Some (with_change d s.at (split_change s)) else None

-- a split of a chunk may follow, and no other
pub was_split : (d : DurableCatalogue) (s : Split) (x : Change) → d.top < s.at → changed x ≡ split_answer s.namespace s.middle s.at d.changes
    → catalogue_follow d (split_record s) ≡ Some (with_change d s.at x)
was_split d s x later answer = by_table (known_table s.namespace d.changes) refl answer
  where
    by_test : (t : Table) (b : Bool) → known_table s.namespace d.changes ≡ Some t → can_split s.middle t.chunks ≡ b
        → changed x ≡ (if b then changed (split_change s) else unchanged) → catalogue_follow d (split_record s) ≡ Some (with_change d s.at x)
    by_test t true some can same =
        let is : split_change s ≡ x = cc in
        let may : (nat_lt d.top s.at && is_inside s.middle (known_table s.namespace d.changes)) ≡ true =
        and_from _ _ (lt-ltb d.top s.at later) (ap (λ (o : Option Table). is_inside s.middle o) some ∙ can) in
        ap (λ b. follows_if d s b) may ∙ ap (λ y. Some (with_change d s.at y)) is
    by_test t false some can same = absurd (cc)

    by_table : (o : Option Table) → known_table s.namespace d.changes ≡ o
        → changed x ≡ (elim o as (λ (o : Option Table). CatalogueAnswer) [
          | None ↦ no_collection
          | Some t ↦ if can_split s.middle t.chunks then changed (split_change s) else unchanged
        ]) → catalogue_follow d (split_record s) ≡ Some (with_change d s.at x)
    by_table None none same = absurd (cc)
    by_table (Some t) some same = by_test t (can_split s.middle t.chunks) some refl same

pub not_split : (d : DurableCatalogue) (s : Split) → unchanged ≡ split_answer s.namespace s.middle s.at d.changes → catalogue_follow d (split_record s) ≡ None
not_split d s answer = by_table (known_table s.namespace d.changes) refl answer
  where
    by_test : (t : Table) (b : Bool) → known_table s.namespace d.changes ≡ Some t → can_split s.middle t.chunks ≡ b
        → unchanged ≡ (if b then changed (split_change s) else unchanged) → catalogue_follow d (split_record s) ≡ None
    by_test t false some can same =
        ap (λ b. follows_if d s b) (right_false (nat_lt d.top s.at) _ (ap (λ (o : Option Table). is_inside s.middle o) some ∙ can))
    by_test t true some can same = absurd (cc)

    by_table : (o : Option Table) → known_table s.namespace d.changes ≡ o
        → unchanged ≡ (elim o as (λ (o : Option Table). CatalogueAnswer) [
          | None ↦ no_collection
          | Some t ↦ if can_split s.middle t.chunks then changed (split_change s) else unchanged
        ]) → catalogue_follow d (split_record s) ≡ None
    by_table None none same = absurd (cc)
    by_table (Some t) some same = by_test t (can_split s.middle t.chunks) some refl same

pub no_table : (d : DurableCatalogue) (s : Split) → split_answer s.namespace s.middle s.at d.changes ≡ no_collection → catalogue_follow d (split_record s) ≡ None
no_table d s answer = by_table (known_table s.namespace d.changes) refl answer
  where
    by_test : (b : Bool) → (if b then changed (split_change s) else unchanged) ≡ no_collection → catalogue_follow d (split_record s) ≡ None
    by_test true same = absurd (cc)
    by_test false same = absurd (cc)

    by_table : (o : Option Table) → known_table s.namespace d.changes ≡ o
        → (elim o as (λ (o : Option Table). CatalogueAnswer) [
          | None ↦ no_collection
          | Some t ↦ if can_split s.middle t.chunks then changed (split_change s) else unchanged
        ]) ≡ no_collection → catalogue_follow d (split_record s) ≡ None
    by_table None none same =
        ap (λ b. follows_if d s b) (right_false (nat_lt d.top s.at) _ (ap (λ (o : Option Table). is_inside s.middle o) none))
    by_table (Some t) some same = by_test (can_split s.middle t.chunks) same
