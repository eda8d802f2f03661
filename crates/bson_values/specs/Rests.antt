-- What remains after a reader.
use Rattle.std.specs.Prelude.{ℕ, ◌+◌, ◌≤◌, List, length}

-- the rest is no longer than the bytes, and no more was taken than the room
abbrev pub IsRest : List ℕ → ℕ → List ℕ → Type 0
IsRest bytes room rest = (length rest ≤ length bytes) × (length bytes ≤ length rest + room)
