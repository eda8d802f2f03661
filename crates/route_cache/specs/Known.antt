-- Tables that are known, and for how many more there is room.
use Rattle.std.specs.Prelude.{ℕ, List}
use Rattle.chunk_model.specs.Tables.{Table}

pub record Known : Type 0 where
  pub tables : List Table
  pub room : ℕ
