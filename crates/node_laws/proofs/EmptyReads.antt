-- Where the reply to a read is that nothing is there, its collection was not created at its time, nor will it have been.
use Rattle.std.proofs.Common.{◌≡◌, ℕ, ◌<◌, ◌≤◌, List, [], refl, sym, ap, subst, ◌∙◌, arith, Bool}
use Rattle.std.specs.Prelude.{Option, Some, None, is_some, true, false, if◌then◌else◌}
use Rattle.std.specs.List.{AllByRecursion}
use Rattle.std.proofs.lemmas.Bool.{eqb-true}
use Rattle.history_model.proofs.Lists.{all_at, all_from, in_back}
use Rattle.bson_model.specs.Tree.{null_value}
use Rattle.chunk_model.specs.Catalogue.{Creation}
use Rattle.chunk_model.specs.Changes.{Change, create_change, split_change, commit_change, time_of}
use Rattle.chunk_model.specs.Tables.{Table, owner_at, table_of, with_table}
use Rattle.history_model.specs.History.{IsIn}
use Rattle.reply_model.specs.Exchanges.{Asked}
use Rattle.node_model.specs.Letters.{At, no_time, at_time}
use Rattle.node_model.specs.RouterRequests.{is_owned_at, table_to_read}
use Rattle.node_model.specs.RouterNext.{is_for, adopted}
use Rattle.node_laws.proofs.Views.{View, changes_in}
use Rattle.node_laws.proofs.ReadFacts.{BeginsAfter, NoneBegan}
use Rattle.node_laws.proofs.Facts.{IsKnownTable, TableFits, AreMade, NeighboursFit}
use Rattle.node_laws.proofs.Answers.{some_none}
use Rattle.node_laws.proofs.CatalogueTables.{IsCreated, some_created, one_creation, created_after}
use Rattle.node_laws.proofs.KnownTables.{FoundTable, table_found, table_there, older_still, known_owned_at}

-- the one collection of a name was created after the time
begins_after : (v : View) (namespace : List ℕ) (time : ℕ) (c : Creation) → AreMade (v.bound 0) (changes_in v) → IsIn (create_change c) (changes_in v)
    → c.namespace ≡ namespace → time < c.at
    → NoneBegan v namespace time
begins_after v namespace time c begun stands name after =
    let by_now : c.at ≤ v.bound 0 = all_at (λ x. time_of x ≤ v.bound 0) (create_change c) (changes_in v) begun.past stands in
    (omega arith, all_from (BeginsAfter namespace time) (changes_in v) by_change)
  where
    by_change : (x : Change) → IsIn x (changes_in v) → BeginsAfter namespace time x
    by_change (create_change d) i = λ same.
        subst (λ (e : Creation). time < e.at) (one_creation c d (changes_in v) begun.fitting stands i (name ∙ sym same)) after
    by_change (split_change s) i = tt
    by_change (commit_change m) i = tt

no_owner : (o : Option ℕ) → is_some o ≡ false → o ≡ None
no_owner None e = refl
no_owner (Some shard) e = absurd (cc)

-- a table that the catalogue had, and that does not say who owned each key at the time
unowned : (v : View) (known : ℕ) (namespace : List ℕ) (at : ℕ) (t : Table) → AreMade (v.bound 0) (changes_in v)
    → IsKnownTable v known t
    → t.namespace ≡ namespace
    → is_owned_at t at ≡ false → NoneBegan v namespace at
unowned v known namespace at t begun k name lacks =
    let none : owner_at t null_value at ≡ None = no_owner (owner_at t null_value at) (sym (known_owned_at v known t at k) ∙ lacks) in
    let c : IsCreated k.older t.namespace = some_created t.namespace k.older t k.known in
    let after : at < c.creation.at = created_after t.namespace k.older t null_value at k.fitting (older_still v known t k) k.known refl none c in
    begins_after v namespace at c.creation begun
    (subst (λ l. IsIn (create_change c.creation) l) (sym k.all) (in_back (create_change c.creation) k.more k.older c.begun))
    (c.name ∙ name) after

-- the catalogue returned no table, or one that does not say who owned each key: for the time that is read at
pub told_nothing : (v : View) (asked : List Asked) (told_at known : ℕ) (namespace : List ℕ) (told : At) (table : Option Table)
    (tables : List Table) (at : ℕ)
    → NeighboursFit v asked → TableFits v told_at namespace told table → AllByRecursion (IsKnownTable v known) (adopted table tables)
    → is_for told at ≡ true → table_to_read (table_of namespace (adopted table tables)) at [] ≡ None → NoneBegan v namespace at
told_nothing v asked told_at known namespace no_time None tables at n fits all own none = absurd (cc)
told_nothing v asked told_at known namespace (at_time time) None tables at n fits all own none =
    subst (λ x. NoneBegan v namespace x) (eqb-true time at own) fits
told_nothing v asked told_at known namespace told (Some t) tables at n fits all own none =
    by_owned (is_owned_at there.0 at) refl (ap (λ x. table_to_read x at []) (sym there.1) ∙ none)
  where
    there : (u : Table) × (table_of namespace (with_table t tables) ≡ Some u)
    there = table_there namespace t tables fits.1

    by_owned : (b : Bool) → is_owned_at there.0 at ≡ b → (if b then Some there.0 else None) ≡ None → NoneBegan v namespace at
    by_owned true h got = absurd (some_none got)
    by_owned false h got =
        let f : FoundTable namespace (with_table t tables) there.0 = table_found namespace (with_table t tables) there.0 there.1 in
        unowned v known namespace at there.0 n.begun (all_at (IsKnownTable v known) there.0 (with_table t tables) all f.stands) f.name h
