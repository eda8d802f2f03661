-- A piece that is put into a sink.
use Rattle.std.specs.Prelude.{◌≡◌, ℕ, List, ◌++◌, Bool}
use Rattle.outside.specs.Streams.{Put}

-- a prefix of the bytes
abbrev pub IsPrefix : (prefix whole : List ℕ) → Type 0
IsPrefix prefix whole = (others : List ℕ) × (whole ≡ prefix ++ others)

-- a prefix of the piece was put
abbrev pub PutInPart : Bool → (held piece held_after : List ℕ) → Type 0
PutInPart tells held piece held_after = (part : List ℕ) × IsPrefix part piece × Put tells held part held_after
