-- The fields appended, and the kept ones of those that are left, are the kept ones of the whole.
use Rattle.std.proofs.Common.{◌≡◌, drop}
use Rattle.bson_model.specs.Tree.{joined}
use Rattle.bson_values.specs.View.{fields_of}
use Rattle.pipeline_model.specs.Projections.{fields_named, stays}
use Rattle.projection.proofs.projections.stored_fields.Given as goal

abbrev pub invariant-loop-stored : goal.invariant-loop-stored
invariant-loop-stored l =
    joined l.left (fields_named (stays l.projection) (fields_of (drop l.stored-index l.stored-items))) ≡ fields_named (stays l.projection) l.document
