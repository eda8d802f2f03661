-- Halves and merges as plain data.
use Rattle.std.specs.Arc.{arc_value}
use Rattle.pipeline_model.specs.Halves as model
use Rattle.pipeline_model.specs.Halves.{documents_end, partials_end, counted_end, joined_in_order, joined_groups, joined_counts, joined_as_they_come}
use Rattle.pipeline_lang.specs.declared.halves.Half.{Half}
use Rattle.pipeline_lang.specs.declared.halves.HalfEnd.{HalfEnd}
use Rattle.pipeline_lang.specs.declared.halves.HalfEnd.TheVariants as ends
use Rattle.pipeline_lang.specs.declared.halves.Joining.{Joining}
use Rattle.pipeline_lang.specs.declared.halves.Joining.TheVariants as joinings
use Rattle.pipeline_lang.specs.declared.halves.Merge.{Merge}

abbrev pub end_of : HalfEnd → model.HalfEnd
end_of ends.Docs = documents_end
end_of (ends.Partials spec) = partials_end (arc_value spec)
end_of ends.Counted = counted_end

abbrev pub half_of : Half → model.Half
half_of half = record { span = half.span; stages = half.stages; last = end_of half.last }

abbrev pub joining_of : Joining → model.Joining
joining_of (joinings.InOrder spec) = joined_in_order (arc_value spec)
joining_of (joinings.Groups spec) = joined_groups (arc_value spec)
joining_of (joinings.Counts name) = joined_counts name
joining_of joinings.AsTheyCome = joined_as_they_come

abbrev pub merge_of : Merge → model.Merge
merge_of merge = record { joining = joining_of merge.joining; stages = merge.stages }
