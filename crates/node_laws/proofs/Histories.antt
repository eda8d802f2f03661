-- The history of a view and of a later one: what is stored stays, and what is new is above the bound of its shard. That the history is the journal of the first
-- shard is used in two places: `history_extends`, and what a shard stores of the history.
use Rattle.std.proofs.Common.{◌≡◌, ◌≢◌, ◌⊎◌, inl, inr, ℕ, ◌<◌, ◌≤◌, List, [], ◌∷◌, ◌++◌, refl, sym, ap, subst, ◌∙◌, arith, Bool}
use Rattle.std.specs.Prelude.{true, false, nat_le, if◌then◌else◌}
use Rattle.std.specs.List.{AllByRecursion}
use Rattle.std.specs.Map.{values_of}
use Rattle.std.specs.Str.{bytes_eq}
use Rattle.chunk_model.specs.Tables.{first_shard}
use Rattle.history_model.specs.Documents.{Rows, row_written, rows_after, documents_at}
use Rattle.history_model.specs.History.{Entry, IsIn, key_written}
use Rattle.history_model.proofs.Lists.{all_weaken, all_at, in_first, in_later, in_cons}
use Rattle.history_laws.specs.Extended.{Extends, extends_none, entry_kept, entry_comes}
use Rattle.history_laws.proofs.Extended.{stays}
use Rattle.reply_model.specs.OneHistory.{KeepsNumbers, AreNumbered}
use Rattle.node_laws.proofs.Views.{View, entries_in, history_in, IsShardAt, HavePassed, IsWithin, IsBeyond, Later}
use Rattle.node_laws.proofs.LongerJournals.{IsNewAt, more_entries}
use Rattle.node_laws.proofs.KeptDocuments.{Counts, up_to, one_uncounted}

-- A LATER HISTORY

only_new : (bound : ℕ → ℕ) (more : List Entry) → AllByRecursion (IsBeyond bound) more → Extends (IsBeyond bound) [] more
only_new bound [] all = extends_none
only_new bound (e ∷ more) all = entry_comes e [] more all.0 tt (only_new bound more all.1)

extends_after : (bound : ℕ → ℕ) (old more : List Entry) → AllByRecursion (IsBeyond bound) more → Extends (IsBeyond bound) old (old ++ more)
extends_after bound [] more all = only_new bound more all
extends_after bound (e ∷ old) more all = entry_kept e old (old ++ more) (extends_after bound old more all)

-- the history of a later view
pub history_extends : (v w : View) → Later v w → Extends (IsBeyond v.bound) (history_in v) (history_in w)
history_extends v w later =
    let m = more_entries v w first_shard later in
    subst (λ l. Extends (IsBeyond v.bound) (history_in v) l) (sym m.same)
    (extends_after v.bound (history_in v) m.more
    (all_weaken (IsNewAt first_shard (v.bound first_shard)) (IsBeyond v.bound) m.more
    (λ e h. (h.0, subst (λ n. v.bound n < e.time) (sym h.0) h.1)) m.above))

-- WHAT A SHARD STORES OF IT

-- The only way from what a shard stores to the history.
pub shard_entries : (v : View) (at : ℕ) → IsShardAt at → entries_in v at ≡ history_in v
shard_entries v at is = ap (λ n. entries_in v n) is

pub entry_of_shard : (v : View) (at : ℕ) (e : Entry) → IsShardAt at → IsIn e (entries_in v at) → IsIn e (history_in v)
entry_of_shard v at e is i = subst (λ l. IsIn e l) (shard_entries v at is) i

-- the documents of a shard at a time are those of the history
pub shard_documents : (v : View) (at : ℕ) (namespace : List ℕ) (time : ℕ) → IsShardAt at
    → documents_at (entries_in v at) namespace time ≡ documents_at (history_in v) namespace time
shard_documents v at namespace time is = ap (λ l. documents_at l namespace time) (shard_entries v at is)

-- a time that a shard has passed all have passed
pub passed_by : (v : View) (at time : ℕ) → IsShardAt at → time ≤ v.bound at → HavePassed v time
passed_by v at time is le = subst (λ n. time ≤ v.bound n) is le

-- a time that all have passed each has passed
pub passed_of : (v : View) (at time : ℕ) → IsShardAt at → HavePassed v time → time ≤ v.bound at
passed_of v at time is passed = subst (λ n. time ≤ v.bound n) (sym is) passed

pub passed_later : (v w : View) (time : ℕ) → Later v w → HavePassed v time → HavePassed w time
passed_later v w time later passed = let le : v.bound first_shard ≤ w.bound first_shard = later.times first_shard in omega arith

-- each entry that is stored is of a time that all have passed
pub stored_passed : (v : View) (e : Entry) → IsWithin v.bound e → HavePassed v e.time
stored_passed v e is = passed_by v e.shard e.time is.0 is.1

-- WHAT STAYS

module _ (bound : ℕ → ℕ) where
  -- an entry is stored already; or it is new, and keeps the numbers of those that are stored
  abbrev pub IsStoredOrNew : List Entry → Entry → Type 0
  IsStoredOrNew old e = IsIn e old ⊎ (IsBeyond bound e × ((d : Entry) → IsIn d old → KeepsNumbers d e))

  one_more : (old : List Entry) (c e : Entry) → (IsBeyond bound e → KeepsNumbers c e) → IsStoredOrNew old e → IsStoredOrNew (c ∷ old) e
  one_more old c e keeps (inl i) = inl (in_later e c old i)
  one_more old c e keeps (inr (new, of_old)) = inr (new, λ d i. by_first d (in_cons d c old i))
    where
      by_first : (d : Entry) → (d ≡ c) ⊎ IsIn d old → KeepsNumbers d e
      by_first d (inl same) = subst (λ (x : Entry). KeepsNumbers x e) (sym same) (keeps new)
      by_first d (inr i) = of_old d i

  pub stored_or_new : (old new : List Entry) (e : Entry) → Extends (IsBeyond bound) old new → AreNumbered new → IsIn e new → IsStoredOrNew old e
  stored_or_new _ _ e extends_none numbered i = inl i
  stored_or_new _ _ e (entry_kept c old new more) numbered i = by_first (in_cons e c new i) (λ j. stored_or_new old new e more numbered.1 j)
    where
      by_first : (e ≡ c) ⊎ IsIn e new → (IsIn e new → IsStoredOrNew old e) → IsStoredOrNew (c ∷ old) e
      by_first (inl same) later = inl (subst (λ (x : Entry). IsIn x (c ∷ old)) (sym same) (in_first c old))
      by_first (inr j) later = one_more old c e (λ is. all_at (KeepsNumbers c) e new numbered.0 j) (later j)
  stored_or_new _ _ e (entry_comes c old new is none more) numbered i = by_first (in_cons e c new i) (λ j. stored_or_new old new e more numbered.1 j)
    where
      by_first : (e ≡ c) ⊎ IsIn e new → (IsIn e new → IsStoredOrNew old e) → IsStoredOrNew old e
      by_first (inl same) later = subst (λ (x : Entry). IsStoredOrNew old x) (sym same)
          (inr (
            is,
            λ d j. record {
              apart = λ shard. absurd (all_at (λ (x : Entry). x.shard ≢ c.shard) d old none j shard);
              rises = λ shard. absurd (all_at (λ (x : Entry). x.shard ≢ c.shard) d old none j shard);
            },
          ))
      by_first (inr j) later = later j

  -- the documents of a collection at a time for which no new entry counts
  rows_extended : (namespace : List ℕ) (time : ℕ) (old new : List Entry) (rows : Rows) → Extends (IsBeyond bound) old new
      → ((e : Entry) → IsIn e new → IsBeyond bound e → ¬ Counts namespace time e)
      → rows_after namespace rows (up_to time new) ≡ rows_after namespace rows (up_to time old)
  rows_extended namespace time _ _ rows extends_none none = refl
  rows_extended namespace time _ _ rows (entry_kept e old new more) none = by_time (nat_le e.time time)
      (λ others. rows_extended namespace time old new others more (λ d i is. none d (in_later d e new i) is))
    where
      by_time : (b : Bool) → ((others : Rows) → rows_after namespace others (up_to time new) ≡ rows_after namespace others (up_to time old))
          → rows_after namespace rows (if b then e ∷ up_to time new else up_to time new)
          ≡ rows_after namespace rows (if b then e ∷ up_to time old else up_to time old)
      by_time true later = later (row_written (bytes_eq e.namespace namespace) e (key_written e.operation) rows)
      by_time false later = later rows
  rows_extended namespace time _ _ rows (entry_comes e old new is others more) none =
      one_uncounted namespace time rows e new (none e (in_first e new) is)
      ∙ rows_extended namespace time old new rows more (λ d i more_is. none d (in_later d e new i) more_is)

  pub documents_extended : (namespace : List ℕ) (time : ℕ) (old new : List Entry) → Extends (IsBeyond bound) old new
      → ((e : Entry) → IsIn e new → IsBeyond bound e → ¬ Counts namespace time e)
      → documents_at new namespace time ≡ documents_at old namespace time
  documents_extended namespace time old new more none = ap (λ l. values_of l) (rows_extended namespace time old new [] more none)

-- an entry stays in a later history
pub history_stays : (v w : View) (e : Entry) → Later v w → IsIn e (history_in v) → IsIn e (history_in w)
history_stays v w e later i = stays (IsBeyond v.bound) (history_in v) (history_in w) e (history_extends v w later) i
