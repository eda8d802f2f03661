-- What the bytes of a journal's records replay to, and where they are refused (docs/JOURNAL.md, "Records").
use Rattle.std.specs.Prelude.{◌≡◌, ℕ, List, map, take, max, Bool, true, false, Some, None, slice_get}
use Rattle.std.specs.List.{AllByRecursion}
use Rattle.record_model.specs.RecordFormat.{IsSound, spelled}
use Rattle.record_model.specs.Records.{Record}
use Rattle.shard_records.specs.Readable.{IsHeld, IsReadable}
use Rattle.node_replay.specs.Durable.{DurableState}
use Rattle.node_replay.specs.Replays.{follow, replayed, latest_time, time_in}
use Rattle.journal_replay.specs.declared.fault.OpenFault.{OpenFault}
use Rattle.journal_replay.specs.declared.fault.OpenFault.TheVariants.{Refused, Memory}

-- whether a record followed; where it did the durable part and the greatest time are these
abbrev pub WasFollowed : DurableState → (time : ℕ) → Record → DurableState → (later : ℕ) → Bool → Type 0
WasFollowed d time r e later true = (follow d r ≡ Some e) × (later ≡ max time (time_in r))
WasFollowed d time r e later false = follow d r ≡ None

-- the bytes encode no record that may follow
abbrev pub RefusesNext : DurableState → List ℕ → Type 0
RefusesNext d bytes = (r : Record) → IsSound r → IsHeld r → spelled 1 r ≡ bytes → follow d r ≡ None

-- the bytes encode a record that may follow, after which the durable part and the greatest time are these
pub record IsRead (d : DurableState) (time : ℕ) (bytes : List ℕ) (e : DurableState) (later : ℕ) : Type 0 where
  pub next : Record
  pub sound : IsSound next
  pub held : IsHeld next
  pub encoded : spelled 1 next ≡ bytes
  pub leads : follow d next ≡ Some e
  pub latest : later ≡ max time (time_in next)

-- whether bytes were read as a record and it followed
abbrev pub IsTaken : DurableState → (time : ℕ) → List ℕ → DurableState → (later : ℕ) → Bool → Type 0
IsTaken d time bytes e later true = IsRead d time bytes e later
IsTaken d time bytes e later false = RefusesNext d bytes

-- The bytes encode records, one each, which lead from an empty journal to this durable part; this is the greatest time in them. Each is
-- read again as itself: so the bytes have one such list at most.
pub record IsReplayed (empty : DurableState) (bytes : List (List ℕ)) (d : DurableState) (time : ℕ) : Type 0 where
  pub records : List Record
  pub readable : AllByRecursion IsReadable records
  pub encoded : map (spelled 1) records ≡ bytes
  pub leads : replayed (Some empty) records ≡ Some d
  pub latest : time ≡ latest_time records

-- the bytes before the index encode records that replay, and those at the index encode none that may follow
pub record IsRefused (empty : DurableState) (bytes : List (List ℕ)) (index : ℕ) : Type 0 where
  pub d : DurableState
  pub time : ℕ
  pub next : List ℕ
  pub before : IsReplayed empty (take index bytes) d time
  pub here : slice_get bytes index ≡ Some next
  pub refused : RefusesNext d next

-- nothing is said where memory ran out
abbrev pub IsFault : DurableState → List (List ℕ) → OpenFault → Type 0
IsFault empty bytes (Refused index) = IsRefused empty bytes index
IsFault empty bytes Memory = Unit {0}
