-- The rest of bytes after their last whole request.
use Rattle.std.specs.Prelude.{◌≡◌, ℕ, List, length, Option}
use Rattle.opmsg_frames.specs.Requests.{Request}
use Rattle.opmsg_frames.specs.Outline.{FrameFault}
use Rattle.opmsg_frames.specs.Frames.{FramesFrom}

-- that many bytes come after the last whole request, wherever the bytes are
abbrev pub Unframed : List ℕ → ℕ → Type 0
Unframed bytes count =
    (offset : ℕ) → (requests : List Request) × (rest : List ℕ) × (fault : Option (FrameFault × ℕ)) × FramesFrom offset bytes requests rest fault
    × (count ≡ length rest)
