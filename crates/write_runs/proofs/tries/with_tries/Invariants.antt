use Rattle.std.proofs.Common.{◌≡◌, drop}
use Rattle.node_model.specs.RouterRequests.{with_tries}
use Rattle.protocol_model.specs.Refusals.{try_view}
use Rattle.write_runs.specs.Runs.{all_tries_view}
use Rattle.write_runs.proofs.tries.with_tries.Given as goal

abbrev pub invariant-loop-index : goal.invariant-loop-index
invariant-loop-index l =
    with_tries (try_view l.one) (drop l.index-index l.indices) (all_tries_view l.more.items) ≡ with_tries (try_view l.one) l.indices (all_tries_view l.tries)
