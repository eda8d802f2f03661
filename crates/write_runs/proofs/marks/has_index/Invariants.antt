use Rattle.std.proofs.Common.{◌≡◌, drop}
use Rattle.node_model.specs.RouterRequests.{has_index}
use Rattle.write_runs.proofs.marks.has_index.Given as goal

abbrev pub invariant-loop-other : goal.invariant-loop-other
invariant-loop-other l = has_index (drop l.other-index l.indices) l.index ≡ has_index l.indices l.index
