-- The chunks that a loop has still to copy for a move, whose donor's first one may be met already.
use Rattle.std.specs.Prelude.{ℕ, List, Bool, if◌then◌else◌}
use Rattle.chunk_model.specs.Versions.{Version}
use Rattle.chunk_model.specs.Tables.{Chunk}
use Rattle.chunk_model.specs.Changes.{with_lowest}

abbrev pub left_to_move : Bool → ℕ → Version → List Chunk → List Chunk
left_to_move is_raised donor version chunks = if is_raised then chunks else with_lowest donor version chunks
