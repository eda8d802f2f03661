-- The list of the calls of a disk in memory, as a value.
use Rattle.std.specs.Prelude.{ℕ, ◌+◌, List, Option, None, Some, if◌then◌else◌, nat_lt}
use Rattle.outside_memory.specs.declared.call.Call.{Call}

-- The bytes before the first of the calls, where they are kept; the calls in order; and the room: the list has memory for one
-- more call if its piece is shorter than this.
pub record ListState : Type 0 where
  pub start : Option (List ℕ)
  pub calls : List Call
  pub room : ℕ

-- the bytes that were kept, or else the bytes now
abbrev pub start_of : Option (List ℕ) → List ℕ → List ℕ
start_of None bytes = bytes
start_of (Some start) bytes = start

-- Room for one more of so many calls, and for its piece. There is none as long as the bytes of the start are not kept.
abbrev pub list_room : Option (List ℕ) → ℕ → ℕ → ℕ → ℕ
list_room None calls call_capacity piece_capacity = 0
list_room (Some start) calls call_capacity piece_capacity =
    if nat_lt calls call_capacity then piece_capacity + 1 else 0
