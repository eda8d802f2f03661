-- The equalities appended, and those of what is left of the filter, are all.
use Rattle.std.proofs.Common.{◌≡◌, drop}
use Rattle.bson_model.specs.Tree.{joined}
use Rattle.bson_values.specs.View.{fields_of}
use Rattle.update_ops.specs.Starts.{equalities_in}
use Rattle.update_ops.proofs.filters.equalities.Given as goal

abbrev pub invariant-loop-field : goal.invariant-loop-field
invariant-loop-field l = joined l.start (equalities_in (fields_of (drop l.field-index l.field-items))) ≡ equalities_in l.filter
