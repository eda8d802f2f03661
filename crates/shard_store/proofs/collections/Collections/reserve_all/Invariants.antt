use Rattle.std.proofs.Common.{◌≡◌, ◌≤◌, ℕ, List, drop}
use Rattle.std.specs.List.{AllByRecursion}
use Rattle.bson_values.specs.Tree.{Datum}
use Rattle.shard_store.specs.Collections.{shown_in, last_under, room_under}
use Rattle.shard_store.specs.declared.entry.Planned.{Planned}
use Rattle.shard_store.proofs.collections.Collections.reserve_all.Given as goal

abbrev pub invariant-loop-entry : goal.invariant-loop-entry
invariant-loop-entry l = record {
  rooms : (n : List ℕ) (k : Datum) → room_under l.fn.self n k ≤ room_under l.self n k;
  shown : (n : List ℕ) (k : Datum) (t : ℕ) → shown_in l.self n k t ≡ shown_in l.fn.self n k t;
  last : (n : List ℕ) (k : Datum) → last_under l.self n k ≡ last_under l.fn.self n k;
  room : (rooms : Datum → ℕ) → ((k : Datum) → room_under l.self l.namespace k ≤ rooms k)
      → AllByRecursion (λ (p : Planned). 1 ≤ rooms p.key) (drop l.entry-index l.planned) → AllByRecursion (λ (p : Planned). 1 ≤ rooms p.key) l.planned;
}
