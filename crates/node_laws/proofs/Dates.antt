-- The changes of the catalogue that were made, with their steps, are those that it stores.
use Rattle.std.proofs.Common.{◌≡◌, ◌⊎◌, inl, inr, ℕ, zero, suc, ◌+◌, ◌<◌, ◌≤◌, List, [], ◌∷◌, ◌++◌, refl, sym, ap, ◌∙◌, arith, Bool}
use Rattle.std.specs.Prelude.{Some, None, true, false, nat_lt, if◌then◌else◌}
use Rattle.std.specs.List.{AllByRecursion, slice_get, slice_set}
use Rattle.std.proofs.lemmas.Bool.{ltb-true}
use Rattle.chunk_model.specs.Changes.{Change, known_table}
use Rattle.history_model.proofs.Lists.{all_at, in_prefix}
use Rattle.base_model.specs.Identities.{RequestId}
use Rattle.reply_model.specs.Exchanges.{Asked}
use Rattle.reply_model.specs.Accounts.{Dated, changes_in as changes_of}
use Rattle.reply_model.specs.OneHistory.{changes_before}
use Rattle.node_model.specs.Journal.{Kept, kept_table, kept_entry, kept_change, kept_ceiling, kept_none, kept_life, kept_block, changes_onto, changes_kept}
use Rattle.node_model.specs.States.{NodeState}
use Rattle.node_model.specs.World.{Held, dated_onto, journal_at}
use Rattle.node_model.proofs.Journals.{journal_here, journal_got}
use Rattle.node_laws.proofs.CatalogueTables.{IsNoCreation, none_created, not_created}
use Rattle.node_laws.proofs.SplitFacts.{WasMissing}
use Rattle.node_laws.proofs.LongerJournals.{changes_after}
use Rattle.node_laws.proofs.Journals.{with_more, journal_else}

-- what is stored is no change of the catalogue
abbrev pub IsNoChange : Kept → Type 0
IsNoChange (kept_change x) = ⊥
IsNoChange (kept_table t) = Unit {0}
IsNoChange (kept_entry e) = Unit {0}
IsNoChange (kept_life n) = Unit {0}
IsNoChange (kept_block n) = Unit {0}
IsNoChange (kept_ceiling n) = Unit {0}
IsNoChange (kept_none n) = Unit {0}

-- THE SAME CHANGES

changes_dated : (now : ℕ) (dated : List Dated) (kept : List Kept) → changes_of (dated_onto now dated kept) ≡ changes_onto (changes_of dated) kept
changes_dated now dated [] = refl
changes_dated now dated (kept_change x ∷ kept) = changes_dated now (record { change = x; step = now } ∷ dated) kept
changes_dated now dated (kept_entry e ∷ kept) = changes_dated now dated kept
changes_dated now dated (kept_table t ∷ kept) = changes_dated now dated kept
changes_dated now dated (kept_life n ∷ kept) = changes_dated now dated kept
changes_dated now dated (kept_block n ∷ kept) = changes_dated now dated kept
changes_dated now dated (kept_ceiling n ∷ kept) = changes_dated now dated kept
changes_dated now dated (kept_none n ∷ kept) = changes_dated now dated kept

none_dated : (now : ℕ) (dated : List Dated) (kept : List Kept) → AllByRecursion IsNoChange kept → dated_onto now dated kept ≡ dated
none_dated now dated [] all = refl
none_dated now dated (kept_change x ∷ kept) all = absurd all.0
none_dated now dated (kept_entry e ∷ kept) all = none_dated now dated kept all.1
none_dated now dated (kept_table t ∷ kept) all = none_dated now dated kept all.1
none_dated now dated (kept_life n ∷ kept) all = none_dated now dated kept all.1
none_dated now dated (kept_block n ∷ kept) all = none_dated now dated kept all.1
none_dated now dated (kept_ceiling n ∷ kept) all = none_dated now dated kept all.1
none_dated now dated (kept_none n ∷ kept) all = none_dated now dated kept all.1

none_onto : (older : List Change) (kept : List Kept) → AllByRecursion IsNoChange kept → changes_onto older kept ≡ older
none_onto older [] all = refl
none_onto older (kept_change x ∷ kept) all = absurd all.0
none_onto older (kept_entry e ∷ kept) all = none_onto older kept all.1
none_onto older (kept_table t ∷ kept) all = none_onto older kept all.1
none_onto older (kept_life n ∷ kept) all = none_onto older kept all.1
none_onto older (kept_block n ∷ kept) all = none_onto older kept all.1
none_onto older (kept_ceiling n ∷ kept) all = none_onto older kept all.1
none_onto older (kept_none n ∷ kept) all = none_onto older kept all.1

-- a step of the node at this place stores no change of the catalogue, or is one of the catalogue
pub dated_same : (now : ℕ) (nodes : List Held) (at : ℕ) (old : Held) (written : List Kept) (new : NodeState) (steps : ℕ) (dated : List Dated)
    → slice_get nodes at ≡ Some old → changes_of dated ≡ changes_kept (journal_at nodes 0) → (at ≡ 0) ⊎ AllByRecursion IsNoChange written
    → changes_of (dated_onto now dated written) ≡ changes_kept (journal_at (slice_set nodes at (with_more old written new steps)) 0)
dated_same now nodes at old written new steps dated here same (inl zero_at) =
    let own : journal_at nodes 0 ≡ old.kept = ap (λ p. journal_at nodes p) (sym zero_at) ∙ journal_got nodes at old here in
    changes_dated now dated written
    ∙ ap (λ l. changes_onto l written) (same ∙ ap (λ k. changes_kept k) own)
    ∙ sym (changes_after [] old.kept written)
    ∙ ap (λ k. changes_kept k) (sym (ap (λ p. journal_at (slice_set nodes at (with_more old written new steps)) p) (sym zero_at)
    ∙ journal_here nodes at old (with_more old written new steps) here))
dated_same now nodes zero old written new steps dated here same (inr none) =
    ap (λ l. changes_of l) (none_dated now dated written none) ∙ same
    ∙ ap (λ k. changes_kept k) (journal_got nodes 0 old here)
    ∙ sym (none_onto (changes_kept old.kept) written none)
    ∙ sym (changes_after [] old.kept written)
    ∙ ap (λ k. changes_kept k) (sym (journal_here nodes 0 old (with_more old written new steps) here))
dated_same now nodes (suc at) old written new steps dated here same (inr none) =
    ap (λ l. changes_of l) (none_dated now dated written none) ∙ same
    ∙ ap (λ k. changes_kept k) (sym (journal_else nodes (suc at) (with_more old written new steps) 0 (λ e. omega arith)))

-- BEFORE A STEP

no_creation_before : (step : ℕ) (namespace : List ℕ) (dated : List Dated) → AllByRecursion (IsNoCreation namespace) (changes_of dated)
    → AllByRecursion (IsNoCreation namespace) (changes_before step dated)
no_creation_before step namespace [] all = tt
no_creation_before step namespace (d ∷ dated) all = by_test (nat_lt d.step step) (no_creation_before step namespace dated all.1)
  where
    by_test : (b : Bool) → AllByRecursion (IsNoCreation namespace) (changes_before step dated)
        → AllByRecursion (IsNoCreation namespace) (if b then d.change ∷ changes_before step dated else changes_before step dated)
    by_test true more = (all.0, more)
    by_test false more = more

-- where no change created a collection, none did before a step
pub none_before : (step : ℕ) (namespace : List ℕ) (dated : List Dated) → known_table namespace (changes_of dated) ≡ None
    → known_table namespace (changes_before step dated) ≡ None
none_before step namespace dated none =
    not_created namespace (changes_before step dated)
    (no_creation_before step namespace dated (none_created namespace (changes_of dated) none))

-- changes that are made now were not made before a step that is not later
pub before_stays : (step now : ℕ) (dated : List Dated) (written : List Kept) → step ≤ now
    → changes_before step (dated_onto now dated written) ≡ changes_before step dated
before_stays step now dated [] le = refl
before_stays step now dated (kept_change x ∷ written) le =
    before_stays step now (record { change = x; step = now } ∷ dated) written le ∙ by_test (nat_lt now step) refl
  where
    by_test : (b : Bool) → nat_lt now step ≡ b
        → (if b then x ∷ changes_before step dated else changes_before step dated) ≡ changes_before step dated
    by_test true h = absurd (let less : now < step = ltb-true _ _ h in omega arith)
    by_test false h = refl
before_stays step now dated (kept_entry e ∷ written) le = before_stays step now dated written le
before_stays step now dated (kept_table t ∷ written) le = before_stays step now dated written le
before_stays step now dated (kept_life n ∷ written) le = before_stays step now dated written le
before_stays step now dated (kept_block n ∷ written) le = before_stays step now dated written le
before_stays step now dated (kept_ceiling n ∷ written) le = before_stays step now dated written le
before_stays step now dated (kept_none n ∷ written) le = before_stays step now dated written le

-- what was missing as a request came was missing then
pub missing_grows : (now : ℕ) (dated : List Dated) (written : List Kept) (asked more : List Asked)
    → AllByRecursion (λ (a : Asked). a.came < now + 1) asked → (id : RequestId) → WasMissing dated asked id
    → WasMissing (dated_onto now dated written) (asked ++ more) id
missing_grows now dated written asked more came id m =
    let early : m.request.came < now + 1 = all_at (λ (a : Asked). a.came < now + 1) m.request asked came m.taken in
    record {
      request = m.request;
      taken = in_prefix m.request asked more m.taken;
      own = m.own;
      split = m.split;
      asks = m.asks;
      none = ap (λ l. known_table m.split.namespace l) (before_stays m.request.came now dated written (omega arith)) ∙ m.none;
    }

-- changes of one effect after another
pub dated_more : (now : ℕ) (dated : List Dated) (xs ys : List Kept) → dated_onto now dated (xs ++ ys) ≡ dated_onto now (dated_onto now dated xs) ys
dated_more now dated [] ys = refl
dated_more now dated (kept_change x ∷ xs) ys = dated_more now (record { change = x; step = now } ∷ dated) xs ys
dated_more now dated (kept_entry e ∷ xs) ys = dated_more now dated xs ys
dated_more now dated (kept_table t ∷ xs) ys = dated_more now dated xs ys
dated_more now dated (kept_life n ∷ xs) ys = dated_more now dated xs ys
dated_more now dated (kept_block n ∷ xs) ys = dated_more now dated xs ys
dated_more now dated (kept_ceiling n ∷ xs) ys = dated_more now dated xs ys
dated_more now dated (kept_none n ∷ xs) ys = dated_more now dated xs ys
