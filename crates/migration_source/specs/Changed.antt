-- Keys that have a place among the changed ones, each with whether it changed.
use Rattle.std.specs.Prelude.{List, Bool, filter, map}
use Rattle.bson_values.specs.Tree.{Datum}

-- the changed keys, in key order
abbrev pub changed_among : List (Datum × Bool) → List Datum
changed_among marks = map (λ e. e.0) (filter (λ e. e.1) marks)
