use Rattle.std.proofs.Common.{◌≡◌, drop}
use Rattle.node_model.specs.RouterNext.{worn_out}
use Rattle.write_runs.specs.Runs.{all_tries_view, answers_view}
use Rattle.router_writes.proofs.stale.worn_out.Given as goal

abbrev pub invariant-loop-index : goal.invariant-loop-index
invariant-loop-index l =
    worn_out l.ordered (drop l.index-index l.indices) (all_tries_view l.tries) (answers_view l.worn.items)
    ≡ worn_out l.ordered l.indices (all_tries_view l.tries) (answers_view l.answers)
