-- What the memory forms are, as values.
use Rattle.std.specs.Prelude.{Bool, ℕ, ◌+◌, ◌-◌, min, List, [], ◌∷◌, ◌++◌, length, map, take, drop, replicate}
use Rattle.outside.specs.Notes.{Note, Sight}
use Rattle.outside_memory.specs.FaultPlan.{PlanState, fresh_plan, after_call, after_fault}
use Rattle.outside_memory.specs.declared.call.Call.{Call}
use Rattle.outside_memory.specs.declared.call.Call.TheVariants.{Cut, Sync}

-- a source: the bytes that are left, and the plan of its calls
pub record SourceState : Type 0 where
  pub left : List ℕ
  pub plan : PlanState

-- A disk: its bytes, how many it has room for before it allocates, and the plan of its calls; the bytes that it was
-- made of, the calls that changed it or made it stay, and the room of their list, which has memory for one more call if
-- its piece is shorter than this.
pub record DiskState : Type 0 where
  pub bytes : List ℕ
  pub room : ℕ
  pub plan : PlanState
  pub start : List ℕ
  pub calls : List Call
  pub list_room : ℕ

-- a sink: the bytes that it holds, how many it has room for before it allocates, the plan of its calls, and
-- the disks that were noted, as they were, each with the length of what it held
pub record SinkState : Type 0 where
  pub held : List ℕ
  pub room : ℕ
  pub plan : PlanState
  pub noted : List (DiskState × ℕ)

-- a link: where it takes from, where it puts to, whether it was closed, and the disks that were noted, as they were seen, each with the length of what it held
pub record LinkState : Type 0 where
  pub source : SourceState
  pub sink : SinkState
  pub closed : Bool
  pub seen : List (Sight × ℕ)

-- an acceptor: the links that are still to come, in order, and the plan of its calls
pub record AcceptorState : Type 0 where
  pub links : List LinkState
  pub plan : PlanState

-- a sink before the first call
abbrev pub fresh_sink : List ℕ → SinkState
fresh_sink numbers = record { held = []; room = 0; plan = fresh_plan numbers; noted = [] }

-- what is noted of a disk beside a length
abbrev pub note_of : DiskState × ℕ → Note
note_of noted = record { place = noted.0.start; moment = length noted.0.calls; length = noted.1 }

-- the notes of a sink, in order
abbrev pub notes_of : SinkState → List Note
notes_of s = map note_of s.noted

-- what is noted of a disk that was seen, beside a length
abbrev pub sight_note : Sight × ℕ → Note
sight_note seen = record { place = seen.0.place; moment = seen.0.moment; length = seen.1 }

-- the notes of a link, in order
abbrev pub link_notes : LinkState → List Note
link_notes l = map sight_note l.seen

-- how many bytes a source gives into a buffer of this length
abbrev pub taken_count : SourceState → ℕ → ℕ
taken_count s room = min room (length s.left)

-- a source after a call that gave n bytes
abbrev pub source_after : SourceState → ℕ → SourceState
source_after s n = record { left = drop n s.left; plan = after_call s.plan }

-- a source after a call that failed
abbrev pub source_failed : SourceState → SourceState
source_failed s = record { left = s.left; plan = after_fault s.plan }

-- The bytes of a disk after a write of a piece at an offset: what came before it, zeros for the gap after the disk's end,
-- the piece, and what came after it. A write of no bytes changes nothing.
abbrev pub written : List ℕ → ℕ → List ℕ → List ℕ
written bytes at [] = bytes
written bytes at (b ∷ piece) =
    take at bytes ++ replicate (at - length bytes) 0 ++ b ∷ piece ++ drop (at + length (b ∷ piece)) bytes

-- how many bytes a disk gives from an offset on into a buffer of this length
abbrev pub read_count : DiskState → ℕ → ℕ → ℕ
read_count d at room = min room (length (drop at d.bytes))

-- a disk before the first call
abbrev pub fresh_disk : List ℕ → ℕ → List ℕ → DiskState
fresh_disk bytes room numbers = record {
  bytes = bytes;
  room = room;
  plan = fresh_plan numbers;
  start = bytes;
  calls = [];
  list_room = 0;
}

-- a disk after a call that only looked at it
abbrev pub disk_passed : DiskState → DiskState
disk_passed d = record d { plan = after_call d.plan }

-- a disk after a cut to this length, which is listed, with this room in the list
abbrev pub disk_cut : DiskState → ℕ → ℕ → DiskState
disk_cut d len list_room =
    record d { bytes = take len d.bytes; plan = after_call d.plan; calls = d.calls ++ Cut len ∷ []; list_room = list_room }

-- a disk after a sync, which is listed, with this room in the list
abbrev pub disk_synced : DiskState → ℕ → DiskState
disk_synced d list_room =
    record d { plan = after_call d.plan; calls = d.calls ++ Sync ∷ []; list_room = list_room }

-- a disk after a call that failed
abbrev pub disk_failed : DiskState → DiskState
disk_failed d = record d { plan = after_fault d.plan }

-- an acceptor after a call that gave no link
abbrev pub acceptor_passed : AcceptorState → AcceptorState
acceptor_passed a = record { links = a.links; plan = after_call a.plan }

-- an acceptor after a call that failed
abbrev pub acceptor_failed : AcceptorState → AcceptorState
acceptor_failed a = record { links = a.links; plan = after_fault a.plan }
