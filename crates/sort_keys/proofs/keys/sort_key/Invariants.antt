-- The parts found, and those of the fields that are left, are the whole key.
use Rattle.std.proofs.Common.{◌≡◌, ◌++◌, drop}
use Rattle.pipeline_model.specs.SortKeys.{sort_key}
use Rattle.sort_keys.specs.View.{parts_of, sort_fields_of}
use Rattle.sort_keys.proofs.keys.sort_key.Given as goal

abbrev pub invariant-loop-field : goal.invariant-loop-field
invariant-loop-field l = parts_of l.parts.items ++ sort_key (sort_fields_of (drop l.field-index l.field-items)) l.document ≡ sort_key l.spec l.document
