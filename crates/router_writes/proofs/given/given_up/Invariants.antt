use Rattle.std.proofs.Common.{◌≡◌, drop}
use Rattle.command_replies.specs.Refusals.{refusal_view}
use Rattle.node_model.specs.RouterNext.{given_up}
use Rattle.write_runs.specs.Runs.{answers_view}
use Rattle.router_writes.proofs.given.given_up.Given as goal

abbrev pub invariant-loop-index : goal.invariant-loop-index
invariant-loop-index l =
    given_up l.ordered (refusal_view l.refusal) (drop l.index-index l.indices) (answers_view l.given.items)
    ≡ given_up l.ordered (refusal_view l.refusal) l.indices (answers_view l.answers)
