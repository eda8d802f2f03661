use Rattle.std.proofs.Common.{◌≡◌, drop, map}
use Rattle.value_compare.specs.Spans.{span_of}
use Rattle.chunk_model.specs.Targets.{meets_any}
use Rattle.chunk_table.proofs.span_targets.meets_any.Given as goal

abbrev pub invariant-loop-span : goal.invariant-loop-span
invariant-loop-span l = meets_any l.range (map span_of (drop l.span-index l.spans)) ≡ meets_any l.range (map span_of l.spans)
