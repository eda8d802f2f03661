-- The greatest time that a journal stores.
use Rattle.std.proofs.Common.{◌≡◌, ℕ, ◌≤◌, List, [], ◌∷◌, ◌++◌, refl, ap, arith}
use Rattle.std.specs.Prelude.{max, map}
use Rattle.std.specs.List.{AllByRecursion}
use Rattle.chunk_model.specs.Changes.{Change, time_of}
use Rattle.history_model.specs.History.{Entry}
use Rattle.node_model.specs.Journal.{Kept, kept_table, kept_entry, kept_ceiling, kept_change, kept_none, kept_life, kept_block, entries_kept, changes_onto, changes_kept, time_kept, greatest_kept}
use Rattle.node_model.specs.ShardRows.{greatest_entry}
use Rattle.node_laws.proofs.Views.{IsAbove}

-- MORE IS STORED

pub greatest_both : (xs ys : List Kept) → greatest_kept (xs ++ ys) ≡ max (greatest_kept xs) (greatest_kept ys)
greatest_both [] ys = omega arith
greatest_both (k ∷ xs) ys = let more = greatest_both xs ys in omega (arith, more)

pub greatest_front : (xs ys : List Kept) → greatest_kept xs ≤ greatest_kept (xs ++ ys)
greatest_front xs ys = let both = greatest_both xs ys in omega (arith, both)

greatest_below : (bound : ℕ) (kept : List Kept) → AllByRecursion (λ k. time_kept k ≤ bound) kept → greatest_kept kept ≤ bound
greatest_below bound [] all = omega arith
greatest_below bound (k ∷ kept) all = let first = all.0 in let more = greatest_below bound kept all.1 in omega (arith, first, more)

-- what was stored by a time, and what is stored by a later one
pub within_more : (old written : List Kept) (early late : ℕ) → greatest_kept old ≤ early → early ≤ late → AllByRecursion (λ k. time_kept k ≤ late) written
    → greatest_kept (old ++ written) ≤ late
within_more old written early late below le all =
    let more = greatest_below late written all in
    let both = greatest_both old written in
    omega (arith, below, le, more, both)

pub above_less : (at low high : ℕ) (k : Kept) → low ≤ high → IsAbove at high k → IsAbove at low k
above_less at low high (kept_entry e) le above = let less = above.1 in (above.0, omega (arith, le, less), above.2)
above_less at low high (kept_change x) le above = let less = above.0 in (omega (arith, le, less), above.1)
above_less at low high (kept_ceiling n) le above = tt
above_less at low high (kept_none n) le above = tt
above_less at low high (kept_table t) le above = tt
above_less at low high (kept_life n) le above = tt
above_less at low high (kept_block n) le above = tt

-- ENTRIES AND CHANGES

entries_past : (bound : ℕ) (kept : List Kept) → greatest_kept kept ≤ bound → AllByRecursion (λ (e : Entry). e.time ≤ bound) (entries_kept kept)
entries_past bound [] le = tt
entries_past bound (kept_entry e ∷ kept) le = (omega (arith, le), entries_past bound kept (omega (arith, le)))
entries_past bound (kept_change x ∷ kept) le = entries_past bound kept (omega (arith, le))
entries_past bound (kept_ceiling n ∷ kept) le = entries_past bound kept (omega (arith, le))
entries_past bound (kept_none n ∷ kept) le = entries_past bound kept (omega (arith, le))
entries_past bound (kept_table t ∷ kept) le = entries_past bound kept (omega (arith, le))
entries_past bound (kept_life n ∷ kept) le = entries_past bound kept (omega (arith, le))
entries_past bound (kept_block n ∷ kept) le = entries_past bound kept (omega (arith, le))

-- no entry that is stored is above the greatest time
pub entries_within : (kept : List Kept) → AllByRecursion (λ (e : Entry). e.time ≤ greatest_kept kept) (entries_kept kept)
entries_within kept = entries_past (greatest_kept kept) kept (omega arith)

changes_past : (bound : ℕ) (older : List Change) (kept : List Kept) → AllByRecursion (λ x. time_of x ≤ bound) older → greatest_kept kept ≤ bound
    → AllByRecursion (λ x. time_of x ≤ bound) (changes_onto older kept)
changes_past bound older [] all le = all
changes_past bound older (kept_change x ∷ kept) all le = changes_past bound (x ∷ older) kept (omega (arith, le), all) (omega (arith, le))
changes_past bound older (kept_entry e ∷ kept) all le = changes_past bound older kept all (omega (arith, le))
changes_past bound older (kept_ceiling n ∷ kept) all le = changes_past bound older kept all (omega (arith, le))
changes_past bound older (kept_none n ∷ kept) all le = changes_past bound older kept all (omega (arith, le))
changes_past bound older (kept_table t ∷ kept) all le = changes_past bound older kept all (omega (arith, le))
changes_past bound older (kept_life n ∷ kept) all le = changes_past bound older kept all (omega (arith, le))
changes_past bound older (kept_block n ∷ kept) all le = changes_past bound older kept all (omega (arith, le))

-- nor is a change
pub changes_within : (kept : List Kept) → AllByRecursion (λ x. time_of x ≤ greatest_kept kept) (changes_kept kept)
changes_within kept = changes_past (greatest_kept kept) [] kept tt (omega arith)

-- OF A SHARD

pub greatest_entries : (xs ys : List Entry) → greatest_entry (xs ++ ys) ≡ max (greatest_entry xs) (greatest_entry ys)
greatest_entries [] ys = omega arith
greatest_entries (e ∷ xs) ys = let more = greatest_entries xs ys in omega (arith, more)

pub greatest_made : (entries : List Entry) → greatest_kept (map kept_entry entries) ≡ greatest_entry entries
greatest_made [] = refl
greatest_made (e ∷ entries) = ap (λ n. max e.time n) (greatest_made entries)
