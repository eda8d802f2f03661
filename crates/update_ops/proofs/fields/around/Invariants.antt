-- No field that was passed has the name.
use Rattle.std.proofs.Common.{◌≡◌, drop, take}
use Rattle.bson_model.specs.Tree.{Datum, joined}
use Rattle.bson_values.specs.View.{fields_of}
use Rattle.query_model.specs.Edits.{with_field, without_field}
use Rattle.update_ops.proofs.fields.around.Given as goal

abbrev pub invariant-loop-i : goal.invariant-loop-i
invariant-loop-i l = record {
  put : (d : Datum) → with_field l.name d (fields_of l.fields) ≡ joined (fields_of (take l.i l.fields)) (with_field l.name d (fields_of (drop l.i l.fields)));
  taken : without_field l.name (fields_of l.fields) ≡ joined (fields_of (take l.i l.fields)) (without_field l.name (fields_of (drop l.i l.fields)));
}
