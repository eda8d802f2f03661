-- Tables that the catalogue had, and what they say of owners.
use Rattle.std.proofs.Common.{◌≡◌, ℕ, List, [], ◌∷◌, refl, sym, ap, subst, ◌∙◌, Bool}
use Rattle.std.specs.Prelude.{Option, Some, None, is_some, true, false, map, if◌then◌else◌}
use Rattle.std.specs.List.{AllByRecursion}
use Rattle.std.specs.Str.{bytes_eq}
use Rattle.std.proofs.lemmas.Slice.Eq.{bytes_eq-Decides}
use Rattle.history_model.proofs.Lists.{in_first, in_later, in_back}
use Rattle.bson_model.specs.Tree.{Datum, null_value}
use Rattle.value_model.specs.Keys.{Span, is_key}
use Rattle.chunk_model.specs.Changes.{create_change}
use Rattle.chunk_model.specs.Tables.{Table, first_shard, owner_now, owner_at, table_of, with_table, is_longer}
use Rattle.chunk_model.specs.Verdicts.{sent_by}
use Rattle.pipeline_model.specs.Stages.{Stage}
use Rattle.pipeline_model.specs.Split.{split}
use Rattle.history_model.specs.History.{IsIn}
use Rattle.reply_model.specs.Right.{WasCreated}
use Rattle.node_model.specs.States.{Target}
use Rattle.node_model.specs.RouterRequests.{owners_of_span, targets_at, is_owned_at}
use Rattle.node_model.specs.RouterNext.{adopted}
use Rattle.node_laws.proofs.Views.{View, changes_in, MovesNothing}
use Rattle.node_laws.proofs.TableFacts.{IsSentBy}
use Rattle.node_laws.proofs.Facts.{IsKnownTable}
use Rattle.node_laws.proofs.Lists.{all_behind}
use Rattle.node_laws.proofs.CatalogueTables.{only_now, owns_now, only_at}
use Rattle.node_laws.proofs.SpanOwners.{listed_owner, owned_is, span_owners}

pub record FoundTable (namespace : List ℕ) (tables : List Table) (t : Table) : Type 0 where
  pub stands : IsIn t tables
  pub name : t.namespace ≡ namespace

pub table_found : (namespace : List ℕ) (tables : List Table) (t : Table) → table_of namespace tables ≡ Some t → FoundTable namespace tables t
table_found namespace [] t got = absurd (cc)
table_found namespace (u ∷ tables) t got = by_test (bytes_eq u.namespace namespace) refl got (λ g. table_found namespace tables t g)
  where
    by_test : (a : Bool) → bytes_eq u.namespace namespace ≡ a → (if a then Some u else table_of namespace tables) ≡ Some t
        → (table_of namespace tables ≡ Some t → FoundTable namespace tables t) → FoundTable namespace (u ∷ tables) t
    by_test true h got more =
        let same : u ≡ t = cc in
        subst (λ z. FoundTable namespace (u ∷ tables) z) same (record { stands = in_first u tables; name = (bytes_eq-Decides u.namespace namespace).0 h })
    by_test false h got more = let f = more got in record { stands = in_later t u tables f.stands; name = f.name }

pub all_with : (P : Table → Type 0) (t : Table) (tables : List Table) → P t → AllByRecursion P tables → AllByRecursion P (with_table t tables)
all_with P t [] own all = (own, tt)
all_with P t (u ∷ tables) own all = by_test (bytes_eq u.namespace t.namespace) (all_with P t tables own all.1)
  where
    by_test : (a : Bool) → AllByRecursion P (with_table t tables)
        → AllByRecursion P (if a then ((if is_longer t u then t else u) ∷ tables) else u ∷ with_table t tables)
    by_test true more = by_longer (is_longer t u)
      where
        by_longer : (b : Bool) → AllByRecursion P ((if b then t else u) ∷ tables)
        by_longer true = (own, all.1)
        by_longer false = all
    by_test false more = (all.0, more)

pub all_adopted : (P : Table → Type 0) (table : Option Table) (tables : List Table) → ((t : Table) → table ≡ Some t → P t) → AllByRecursion P tables
    → AllByRecursion P (adopted table tables)
all_adopted P None tables own all = all
all_adopted P (Some t) tables own all = all_with P t tables (own t refl) all

-- a table of the name is there after that
pub table_there : (namespace : List ℕ) (t : Table) (tables : List Table) → t.namespace ≡ namespace
    → (u : Table) × (table_of namespace (with_table t tables) ≡ Some u)
table_there namespace t [] name = (t, ap (λ a. if a then Some t else None) ((bytes_eq-Decides t.namespace namespace).1 name))
table_there namespace t (u ∷ tables) name = by_test (bytes_eq u.namespace t.namespace) refl (table_there namespace t tables name)
  where
    first : (v : Table) (rest : List Table) → v.namespace ≡ namespace → (x : Table) × (table_of namespace (v ∷ rest) ≡ Some x)
    first v rest same = (v, ap (λ a. if a then Some v else table_of namespace rest) ((bytes_eq-Decides v.namespace namespace).1 same))

    by_test : (a : Bool) → bytes_eq u.namespace t.namespace ≡ a → ((x : Table) × (table_of namespace (with_table t tables) ≡ Some x))
        → (x : Table) × (table_of namespace (if a then ((if is_longer t u then t else u) ∷ tables) else u ∷ with_table t tables) ≡ Some x)
    by_test true h more = by_longer (is_longer t u)
      where
        by_longer : (b : Bool) → (x : Table) × (table_of namespace ((if b then t else u) ∷ tables) ≡ Some x)
        by_longer true = first t tables name
        by_longer false = first u tables ((bytes_eq-Decides u.namespace t.namespace).0 h ∙ name)
    by_test false h more = by_first (bytes_eq u.namespace namespace)
      where
        by_first : (b : Bool) → (x : Table) × ((if b then Some u else table_of namespace (with_table t tables)) ≡ Some x)
        by_first true = (u, refl)
        by_first false = more

-- BY CHANGES

-- a known table is that of a collection that was created by its time
pub table_created : (v : View) (time : ℕ) (t : Table) → IsKnownTable v time t → WasCreated (changes_in v) t.namespace time
table_created v time t k =
    let c = k.begun in
    record {
      creation = c.creation;
      begun = subst (λ l. IsIn (create_change c.creation) l) (sym k.all) (in_back (create_change c.creation) k.more k.older c.begun);
      name = c.name;
      before = c.before;
    }

-- no change that made it moved a chunk
pub older_still : (v : View) (time : ℕ) (t : Table) → (k : IsKnownTable v time t) → AllByRecursion MovesNothing k.older
older_still v time t k = all_behind MovesNothing k.more k.older (subst (λ l. AllByRecursion MovesNothing l) k.all k.still)

-- so the first shard owns all keys, now and at each time from the collection's creation on
pub known_now : (v : View) (time : ℕ) (t : Table) (key : Datum) (shard : ℕ) → IsKnownTable v time t → is_key key ≡ true → owner_now t key ≡ Some shard
    → shard ≡ first_shard
known_now v time t key shard k valid owns = only_now t.namespace k.older t k.fitting (older_still v time t k) k.known key valid shard owns

pub known_owned : (v : View) (time : ℕ) (t : Table) (key : Datum) → IsKnownTable v time t → is_key key ≡ true → owner_now t key ≡ Some first_shard
known_owned v time t key k valid = owns_now t.namespace k.older t k.fitting (older_still v time t k) k.known key valid

-- a span is that of the owner of the least key
pub known_span : (v : View) (time : ℕ) (t : Table) (at : ℕ) (span : List Span) → IsKnownTable v time t
    → owners_of_span t at span ≡ listed_owner (owner_at t null_value at)
known_span v time t at span k = span_owners t.namespace k.older t k.fitting (older_still v time t k) k.known at span

-- it says who owned each key at a time where it says who owned the least
pub known_owned_at : (v : View) (time : ℕ) (t : Table) (at : ℕ) → IsKnownTable v time t → is_owned_at t at ≡ is_some (owner_at t null_value at)
known_owned_at v time t at k = owned_is t.namespace k.older t k.fitting (older_still v time t k) k.known at

pub known_at : (v : View) (time : ℕ) (t : Table) (key : Datum) (at shard : ℕ) → IsKnownTable v time t → is_key key ≡ true
    → owner_at t key at ≡ Some shard → shard ≡ first_shard
known_at v time t key at shard k valid owns = only_at t.namespace k.older t k.fitting (older_still v time t k) k.known key valid at shard owns

-- SHARDS THAT A READ IS SENT TO

abbrev target_of : Table → ℕ → Target
target_of t shard = record { shard = shard; sent = sent_by t shard }

target_first : (t : Table) (owner : Option ℕ) → ((shard : ℕ) → owner ≡ Some shard → shard ≡ first_shard)
    → AllByRecursion (λ (x : Target). x.shard ≡ first_shard) (map (target_of t) (listed_owner owner))
target_first t None first = tt
target_first t (Some shard) first = (first shard refl, tt)

-- by a table that the catalogue had they are the first alone
pub known_targets : (v : View) (time : ℕ) (t : Table) (at : ℕ) (stages : List Stage) → IsKnownTable v time t
    → AllByRecursion (λ (x : Target). x.shard ≡ first_shard) (targets_at t at stages)
known_targets v time t at stages k =
    subst (λ l. AllByRecursion (λ (x : Target). x.shard ≡ first_shard) (map (target_of t) l)) (sym (known_span v time t at (split stages).0.span k))
    (target_first t (owner_at t null_value at) (λ shard owns. known_at v time t null_value at shard k refl owns))

-- where it says who owned each key at the time, there is one
pub one_target : (v : View) (time : ℕ) (namespace : List ℕ) (at : ℕ) (stages : List Stage) (targets : List Target)
    → (s : IsSentBy v time namespace at stages targets) → targets ≡ record { shard = first_shard; sent = sent_by s.table first_shard } ∷ []
one_target v time namespace at stages targets s = by_owner (owner_at s.table null_value at) refl (sym (known_owned_at v time s.table at s.known) ∙ s.enough)
  where
    by_owner : (o : Option ℕ) → owner_at s.table null_value at ≡ o → is_some o ≡ true
        → targets ≡ record { shard = first_shard; sent = sent_by s.table first_shard } ∷ []
    by_owner None is some = absurd (cc)
    by_owner (Some shard) is some =
        let owner : owner_at s.table null_value at ≡ Some first_shard =
        is ∙ ap (λ n. Some n) (known_at v time s.table null_value at shard s.known refl is) in
        s.targets_are ∙ ap (map (target_of s.table)) (known_span v time s.table at (split stages).0.span s.known ∙ ap listed_owner owner)
