-- What laws say about the bytes of a connection.
use Rattle.std.specs.Prelude.{ℕ, Option}
use Rattle.opmsg_model.specs.Outline.{FrameFault}

-- a fault and the offset of its message, or none
abbrev pub PlacedFault : Type 0
PlacedFault = Option (FrameFault × ℕ)
