-- What is returned for a half.
use Rattle.std.specs.Prelude.{◌≡◌, ℕ, List, Result, Ok, Err, Some, None}
use Rattle.bson_model.specs.Tree.{Fields}
use Rattle.node_model.specs.Letters.{HalfFault, half_overflow, half_excess}
use Rattle.node_model.specs.ShardRows.{IsTold}
use Rattle.pipeline_model.specs.Halves.{Half, IsHalf, Rows}
use Rattle.pipeline_model.specs.Lengths.{excess_of_half}
use Rattle.pipeline_model.specs.Runs.{Runs, overflowed}

-- rows that the half gives and that are not too much; or that its stages overflow, or how many bytes rows have that are too much
abbrev pub TellsHalf : Half → List Fields → Result Rows HalfFault → Type 0
TellsHalf half documents (Ok rows) = IsHalf half documents rows × (excess_of_half rows ≡ None)
TellsHalf half documents (Err half_overflow) = Runs half.stages documents overflowed
TellsHalf half documents (Err (half_excess n)) =
    (rows : Rows) × (length : ℕ) × IsHalf half documents rows × (excess_of_half rows ≡ Some length) × IsTold length n
