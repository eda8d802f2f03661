-- The transitions of the catalogue, by what it answers.
use Rattle.std.proofs.Common.{◌≡◌, ◌⊎◌, ℕ, ◌+◌, List, [], ◌∷◌, refl, sym, ap, subst, Bool, true, false, ◌∙◌, inr}
use Rattle.std.specs.Prelude.{Option, Some, None, IsSome, IfSome, Result, Ok, Err, IfOk, if◌then◌else◌}
use Rattle.std.specs.Str.{bytes_eq}
use Rattle.std.proofs.lemmas.Slice.Eq.{bytes_eq-Decides}
use Rattle.base_model.specs.Identities.{RequestId}
use Rattle.bson_model.specs.Limits.{IsWritable}
use Rattle.bson_model.specs.Tree.{Datum}
use Rattle.std.specs.Arc.{arc_value}
use Rattle.chunk_catalogue.specs.Catalogues.{IsNext, answer_of, changes_of}
use Rattle.chunk_catalogue.specs.Views.{change_view}
use Rattle.chunk_catalogue.specs.declared.change.Change.{Change as Made}
use Rattle.chunk_catalogue.specs.declared.catalogue.Catalogue.{Catalogue as Store}
use Rattle.chunk_model.specs.Changes.{Change, create_change, split_change, namespace_of, table_after, known_table, creations, can_split}
use Rattle.chunk_model.specs.Requests.{CatalogueAnswer, changed, unchanged, no_collection, create_answer, split_answer}
use Rattle.chunk_model.specs.Tables.{Table}
use Rattle.node_model.specs.CatalogueRows.{CatalogueRow, catalogue_create, catalogue_tell, catalogue_split, catalogue_bound, catalogue_none, heard, none_at, at_later, with_change}
use Rattle.node_model.specs.Journal.{kept_change}
use Rattle.node_model.specs.Letters.{At, Letter, Body, table_ask, table_told, split_ask, split_done, letter_input, sends, writes}
use Rattle.node_model.specs.States.{Catalogue, NodeState, catalogue_state, shard_state, router_state, time_of_node}
use Rattle.record_model.specs.RecordFormat.{key_document}
use Rattle.config_node.specs.Plans.{IsWritableChange}

-- the changes of a catalogue
abbrev changes_in : NodeState → List Change
changes_in (catalogue_state c) = c.changes
changes_in (shard_state s) = []
changes_in (router_state r) = []

pub same_changes : (a b : Catalogue) → catalogue_state a ≡ catalogue_state b → a.changes ≡ b.changes
same_changes a b e = ap changes_in e

pub same_time : (a b : Catalogue) → catalogue_state a ≡ catalogue_state b → a.time ≡ b.time
same_time a b e = ap time_of_node e

changed_is : (x y : Change) → changed x ≡ changed y → x ≡ y
changed_is x y e = cc

-- the change that begins a collection
pub created_is : (namespace : List ℕ) (at : ℕ) (changes : List Change) (x : Change) → create_answer namespace at changes ≡ changed x
    → x ≡ create_change (record { namespace = namespace; epoch = creations namespace changes + 1; at = at })
created_is namespace at changes x e = by_table (known_table namespace changes) e
  where
    made : Change
    made = create_change (record { namespace = namespace; epoch = creations namespace changes + 1; at = at })

    by_table : (o : Option Table) → elim o as (λ (p : Option Table). CatalogueAnswer) [ None ↦ changed made | Some t ↦ unchanged ] ≡ changed x → x ≡ made
    by_table None h = sym (changed_is made x h)
    by_table (Some t) h = absurd cc

pub creation_writable : (namespace : List ℕ) (at : ℕ) (changes : List Change) (x : Change) → create_answer namespace at changes ≡ changed x → IsWritableChange x
creation_writable namespace at changes x e = subst IsWritableChange (sym (created_is namespace at changes x e)) tt

-- where nothing is to be created, there is a table
pub not_created : (namespace : List ℕ) (at : ℕ) (changes : List Change) → unchanged ≡ create_answer namespace at changes
    → IsSome (known_table namespace changes)
not_created namespace at changes e = by_table (known_table namespace changes) e
  where
    made : Change
    made = create_change (record { namespace = namespace; epoch = creations namespace changes + 1; at = at })

    by_table : (o : Option Table) → unchanged ≡ elim o as (λ (p : Option Table). CatalogueAnswer) [ None ↦ changed made | Some t ↦ unchanged ] → IsSome o
    by_table None h = absurd cc
    by_table (Some t) h = refl

-- a request's answer, where a change was made for it
pub answered : {E : Type 0} (answer : CatalogueAnswer) (r : Result (Option Made) E) → IfOk r (λ o. answer_of o ≡ answer)
    → IfOk r (λ o. IfSome o (λ x. answer ≡ changed (change_view x.fields)))
answered answer (Err e) is = tt
answered answer (Ok None) is = tt
answered answer (Ok (Some x)) is = sym is

-- and where none was
pub answered_none : {E : Type 0} (namespace : List ℕ) (create : Bool) (at : ℕ) (changes : List Change) (r : Result (Option Made) E)
    → IfOk r (λ o. answer_of o ≡ create_answer namespace at changes)
    → IfOk r (λ o. o ≡ None → (create ≡ false) ⊎ IsSome (known_table namespace changes))
answered_none namespace create at changes (Err e) is = tt
answered_none namespace create at changes (Ok None) is = λ _. inr (not_created namespace at changes is)
answered_none namespace create at changes (Ok (Some x)) is = λ none. absurd cc

-- what is known whatever the change is
pub whatever : {E P : Type 0} (r : Result (Option Made) E) → P → IfOk r (λ o. IfSome o (λ _. P))
whatever (Err e) p = tt
whatever (Ok None) p = tt
whatever (Ok (Some x)) p = p

-- the table after a change that begins a collection
pub created_table : (namespace : List ℕ) (at : ℕ) (changes : List Change) (x : Change) (table : Table) → create_answer namespace at changes ≡ changed x
    → table_after x (known_table (namespace_of x) changes) ≡ Some table → known_table namespace (x ∷ changes) ≡ Some table
created_table namespace at changes x table e after =
    let is = created_is namespace at changes x e in
    let named : namespace_of x ≡ namespace = ap namespace_of is in
    let same : bytes_eq (namespace_of x) namespace ≡ true = (bytes_eq-Decides (namespace_of x) namespace).1 named in
    let next : table_after x (known_table namespace changes) ≡ Some table = subst (λ n. table_after x (known_table n changes) ≡ Some table) named after in
    rw same next

-- of a change that was made for a request: its record can be written, and its table is the collection's then
pub made_writable : {E : Type 0} (namespace : List ℕ) (at : ℕ) (changes : List Change) (r : Result (Option Made) E)
    → IfOk r (λ o. answer_of o ≡ create_answer namespace at changes) → IfOk r (λ o. IfSome o (λ x. IsWritableChange (change_view x.fields)))
made_writable namespace at changes (Err e) is = tt
made_writable namespace at changes (Ok None) is = tt
made_writable namespace at changes (Ok (Some x)) is = creation_writable namespace at changes (change_view x.fields) (sym is)

pub made_table : {E : Type 0} (c : Store) (namespace : List ℕ) (at : ℕ) (changes : List Change) (r : Result (Option Made) E)
    → changes_of c ≡ changes → IfOk r (λ o. answer_of o ≡ create_answer namespace at changes) → IfOk r (λ o. IfSome o (λ x. IsNext c x))
    → IfOk r (λ o. IfSome o (λ x. known_table namespace (change_view x.fields ∷ changes) ≡ Some (arc_value x.table)))
made_table c namespace at changes (Err e) same is next = tt
made_table c namespace at changes (Ok None) same is next = tt
made_table c namespace at changes (Ok (Some x)) same is next =
    created_table namespace at changes (change_view x.fields) (arc_value x.table) (sym is)
    (subst (λ xs. table_after (change_view x.fields) (known_table (namespace_of (change_view x.fields)) xs) ≡ Some (arc_value x.table)) same next.table)

-- the change that splits a chunk
pub split_is : (namespace : List ℕ) (middle : Datum) (at : ℕ) (changes : List Change) (x : Change) → split_answer namespace middle at changes ≡ changed x
    → x ≡ split_change (record { namespace = namespace; middle = middle; at = at })
split_is namespace middle at changes x e = by_table (known_table namespace changes) e
  where
    made : Change
    made = split_change (record { namespace = namespace; middle = middle; at = at })

    by_can : (b : Bool) → (if b then changed made else unchanged) ≡ changed x → x ≡ made
    by_can true h = sym (changed_is made x h)
    by_can false h = absurd cc

    by_table : (o : Option Table)
        → elim o as (λ (p : Option Table). CatalogueAnswer) [
          | None ↦ no_collection
          | Some t ↦ if can_split middle t.chunks then changed made else unchanged
        ] ≡ changed x → x ≡ made
    by_table None h = absurd cc
    by_table (Some t) h = by_can (can_split middle t.chunks) h

pub split_writable : (namespace : List ℕ) (middle : Datum) (at : ℕ) (changes : List Change) (x : Change) → split_answer namespace middle at changes ≡ changed x
    → IsWritable (key_document middle) → IsWritableChange x
split_writable namespace middle at changes x e writable = subst IsWritableChange (sym (split_is namespace middle at changes x e)) writable

-- the message that answers, from the catalogue to the sender
abbrev pub says : Catalogue → (sender time : ℕ) → Body → Letter
says c sender time body = record { sender = c.me; receiver = sender; time = time; body = body }

module _ (c : Catalogue) (m : Letter) (time : ℕ) where
  module _ (namespace : List ℕ) (create : Bool) (at : At) (table : Option Table) (is : m.body ≡ table_ask namespace create at) where
    pub creates : (x : Change) → create ≡ true → time ≡ heard c m + 1 → create_answer namespace time c.changes ≡ changed x
        → table ≡ known_table namespace (x ∷ c.changes)
        → CatalogueRow c (letter_input m) (writes (kept_change x ∷ []) (says c m.sender time (table_told namespace create at table) ∷ []))
        (with_change c time x)
    creates x create_true late answer known =
        let answered = subst (λ t. create_answer namespace t c.changes ≡ changed x) late answer in
        let asked = is ∙ ap (λ b. table_ask namespace b at) create_true in
        rw (late, create_true, known) (catalogue_create c m namespace at x asked answered)

    pub tells : (create ≡ false) ⊎ IsSome (known_table namespace c.changes) → time ≡ heard c m → table ≡ known_table namespace c.changes
        → CatalogueRow c (letter_input m) (writes (none_at at table) (says c m.sender time (table_told namespace create at table) ∷ [])) (at_later c time)
    tells may late known = rw (late, known) (catalogue_tell c m namespace create at is may)

  module _ (id : RequestId) (namespace : List ℕ) (middle : Datum) (found : Bool) (is : m.body ≡ split_ask id namespace middle) where
    pub splits : (x : Change) → found ≡ true → time ≡ heard c m + 1 → split_answer namespace middle time c.changes ≡ changed x
        → CatalogueRow c (letter_input m) (writes (kept_change x ∷ []) (says c m.sender time (split_done id found) ∷ [])) (with_change c time x)
    splits x found_true late answer =
        let answered = subst (λ t. split_answer namespace middle t c.changes ≡ changed x) late answer in
        rw (late, found_true) (catalogue_split c m id namespace middle x is answered)

    pub has_bound : found ≡ true → time ≡ heard c m → split_answer namespace middle (heard c m + 1) c.changes ≡ unchanged
        → CatalogueRow c (letter_input m) (sends (says c m.sender time (split_done id found) ∷ [])) (at_later c time)
    has_bound found_true late answer = rw (late, found_true) (catalogue_bound c m id namespace middle is answer)

    pub has_none : found ≡ false → time ≡ heard c m → split_answer namespace middle (heard c m + 1) c.changes ≡ no_collection
        → CatalogueRow c (letter_input m) (sends (says c m.sender time (split_done id found) ∷ [])) (at_later c time)
    has_none found_false late answer = rw (late, found_false) (catalogue_none c m id namespace middle is answer)
