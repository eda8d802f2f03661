-- Journals grow: entries and changes of the catalogue stay, and there are more, above a time.
use Rattle.std.proofs.Common.{◌≡◌, ◌≢◌, ℕ, ◌<◌, List, [], ◌∷◌, ◌++◌, refl, sym, ap, subst, ◌∙◌, append_assoc, append-nil}
use Rattle.std.specs.List.{AllByRecursion}
use Rattle.history_model.proofs.Lists.{all_weaken, all_append, in_prefix, in_back}
use Rattle.chunk_model.specs.Changes.{Change, time_of}
use Rattle.chunk_model.specs.Tables.{first_shard}
use Rattle.history_model.specs.History.{Entry, IsIn}
use Rattle.node_model.specs.Journal.{Kept, kept_table, kept_entry, kept_ceiling, kept_change, kept_none, kept_life, kept_block, entries_kept, changes_onto, changes_kept}
use Rattle.node_laws.proofs.Views.{View, entries_in, changes_in, MovesNothing, IsAbove, Later}

pub entries_longer : (old more : List Kept) → entries_kept (old ++ more) ≡ entries_kept old ++ entries_kept more
entries_longer [] more = refl
entries_longer (kept_entry e ∷ old) more = ap (λ l. e ∷ l) (entries_longer old more)
entries_longer (kept_table t ∷ old) more = entries_longer old more
entries_longer (kept_change x ∷ old) more = entries_longer old more
entries_longer (kept_life n ∷ old) more = entries_longer old more
entries_longer (kept_block n ∷ old) more = entries_longer old more
entries_longer (kept_ceiling n ∷ old) more = entries_longer old more
entries_longer (kept_none n ∷ old) more = entries_longer old more

-- changes that are stored later come before those of before
pub changes_after : (older : List Change) (old more : List Kept) → changes_onto older (old ++ more) ≡ changes_onto (changes_onto older old) more
changes_after older [] more = refl
changes_after older (kept_change x ∷ old) more = changes_after (x ∷ older) old more
changes_after older (kept_entry e ∷ old) more = changes_after older old more
changes_after older (kept_table t ∷ old) more = changes_after older old more
changes_after older (kept_life n ∷ old) more = changes_after older old more
changes_after older (kept_block n ∷ old) more = changes_after older old more
changes_after older (kept_ceiling n ∷ old) more = changes_after older old more
changes_after older (kept_none n ∷ old) more = changes_after older old more

changes_ahead : (older : List Change) (kept : List Kept) → changes_onto older kept ≡ changes_onto [] kept ++ older
changes_ahead older [] = refl
changes_ahead older (kept_change x ∷ kept) =
    changes_ahead (x ∷ older) kept
    ∙ sym (append_assoc (changes_onto [] kept) (x ∷ []) older)
    ∙ ap (λ l. l ++ older) (sym (changes_ahead (x ∷ []) kept))
changes_ahead older (kept_entry e ∷ kept) = changes_ahead older kept
changes_ahead older (kept_table t ∷ kept) = changes_ahead older kept
changes_ahead older (kept_life n ∷ kept) = changes_ahead older kept
changes_ahead older (kept_block n ∷ kept) = changes_ahead older kept
changes_ahead older (kept_ceiling n ∷ kept) = changes_ahead older kept
changes_ahead older (kept_none n ∷ kept) = changes_ahead older kept

pub changes_longer : (old more : List Kept) → changes_kept (old ++ more) ≡ changes_kept more ++ changes_kept old
changes_longer old more = changes_after [] old more ∙ changes_ahead (changes_onto [] old) more

-- an entry of the shard at a place that comes after a time
abbrev pub IsNewAt : (at time : ℕ) → Entry → Type 0
IsNewAt at time e = (e.shard ≡ at) × (time < e.time)

pub entries_above : (at time : ℕ) (kept : List Kept) → AllByRecursion (IsAbove at time) kept → AllByRecursion (IsNewAt at time) (entries_kept kept)
entries_above at time [] all = tt
entries_above at time (kept_entry e ∷ kept) all = ((all.0.0, all.0.1), entries_above at time kept all.1)
entries_above at time (kept_table t ∷ kept) all = entries_above at time kept all.1
entries_above at time (kept_change x ∷ kept) all = entries_above at time kept all.1
entries_above at time (kept_life n ∷ kept) all = entries_above at time kept all.1
entries_above at time (kept_block n ∷ kept) all = entries_above at time kept all.1
entries_above at time (kept_ceiling n ∷ kept) all = entries_above at time kept all.1
entries_above at time (kept_none n ∷ kept) all = entries_above at time kept all.1

-- a change that comes after a time
abbrev pub IsNewChange : ℕ → Change → Type 0
IsNewChange time x = (time < time_of x) × MovesNothing x

changes_above : (at time : ℕ) (older : List Change) (kept : List Kept) → AllByRecursion (IsNewChange time) older → AllByRecursion (IsAbove at time) kept
    → AllByRecursion (IsNewChange time) (changes_onto older kept)
changes_above at time older [] before all = before
changes_above at time older (kept_change x ∷ kept) before all = changes_above at time (x ∷ older) kept (all.0, before) all.1
changes_above at time older (kept_entry e ∷ kept) before all = changes_above at time older kept before all.1
changes_above at time older (kept_table t ∷ kept) before all = changes_above at time older kept before all.1
changes_above at time older (kept_life n ∷ kept) before all = changes_above at time older kept before all.1
changes_above at time older (kept_block n ∷ kept) before all = changes_above at time older kept before all.1
changes_above at time older (kept_ceiling n ∷ kept) before all = changes_above at time older kept before all.1
changes_above at time older (kept_none n ∷ kept) before all = changes_above at time older kept before all.1

-- one journal in a later view: the same entries, and more of its shard above its time
pub record MoreEntries (at bound : ℕ) (old new : List Entry) : Type 0 where
  pub more : List Entry
  pub same : new ≡ old ++ more
  pub above : AllByRecursion (IsNewAt at bound) more

pub more_entries : (v w : View) (at : ℕ) → Later v w → MoreEntries at (v.bound at) (entries_in v at) (entries_in w at)
more_entries v w at later = record {
  more = entries_kept (later.longer at).written;
  same = ap (λ k. entries_kept k) (later.longer at).same ∙ entries_longer (v.journal at) (later.longer at).written;
  above = entries_above at (v.bound at) (later.longer at).written (later.longer at).rises;
}

-- more changes, above a time
pub record MoreChanges (bound : ℕ) (old new : List Change) : Type 0 where
  pub more : List Change
  pub same : new ≡ more ++ old
  pub above : AllByRecursion (IsNewChange bound) more

pub more_changes : (v w : View) → Later v w → MoreChanges (v.bound 0) (changes_in v) (changes_in w)
more_changes v w later = record {
  more = changes_kept (later.longer 0).written;
  same = ap (λ k. changes_kept k) (later.longer 0).same ∙ changes_longer (v.journal 0) (later.longer 0).written;
  above = changes_above 0 (v.bound 0) [] (later.longer 0).written tt (later.longer 0).rises;
}

-- nothing that a node beside the first shard stores is an entry
none_above : (at time : ℕ) (kept : List Kept) → at ≢ first_shard → AllByRecursion (IsAbove at time) kept → entries_kept kept ≡ []
none_above at time [] other all = refl
none_above at time (kept_entry e ∷ kept) other all = absurd (other all.0.2)
none_above at time (kept_table t ∷ kept) other all = none_above at time kept other all.1
none_above at time (kept_change x ∷ kept) other all = none_above at time kept other all.1
none_above at time (kept_life n ∷ kept) other all = none_above at time kept other all.1
none_above at time (kept_block n ∷ kept) other all = none_above at time kept other all.1
none_above at time (kept_ceiling n ∷ kept) other all = none_above at time kept other all.1
none_above at time (kept_none n ∷ kept) other all = none_above at time kept other all.1

-- so the entries beside the first shard's stay
pub beside_stays : (v w : View) (at : ℕ) → Later v w → at ≢ first_shard → entries_in w at ≡ entries_in v at
beside_stays v w at later other =
    let longer = later.longer at in
    ap (λ k. entries_kept k) longer.same
    ∙ entries_longer (v.journal at) longer.written
    ∙ ap (λ l. entries_in v at ++ l) (none_above at (v.bound at) longer.written other longer.rises)
    ∙ append-nil (entries_in v at)

pub entry_stays : (v w : View) (at : ℕ) (e : Entry) → Later v w → IsIn e (entries_in v at) → IsIn e (entries_in w at)
entry_stays v w at e later i = let m = more_entries v w at later in subst (λ l. IsIn e l) (sym m.same) (in_prefix e (entries_in v at) m.more i)

pub change_stays : (v w : View) (x : Change) → Later v w → IsIn x (changes_in v) → IsIn x (changes_in w)
change_stays v w x later i = let m = more_changes v w later in subst (λ l. IsIn x l) (sym m.same) (in_back x m.more (changes_in v) i)

pub still_grows : (v w : View) → Later v w → AllByRecursion MovesNothing (changes_in v) → AllByRecursion MovesNothing (changes_in w)
still_grows v w later still =
    let m = more_changes v w later in
    subst (λ l. AllByRecursion MovesNothing l) (sym m.same)
    (all_append MovesNothing m.more (changes_in v) (all_weaken (IsNewChange (v.bound 0)) MovesNothing m.more (λ x h. h.1) m.above) still)
