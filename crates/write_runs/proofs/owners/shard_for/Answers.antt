use Rattle.std.proofs.Common.{ap, sym, ◌∙◌, List}
use Rattle.node_model.specs.RouterRequests.{reaches}
use Rattle.reply_model.specs.Outcomes.{Try}
use Rattle.write_runs.proofs.Keys.{shard_some}
use Rattle.write_runs.specs.Runs.{all_tries_view}
use Rattle.write_runs.proofs.owners.shard_for.Goals as goal

pub returns : goal.returns
returns c = λ given id.
    shard_some c.args.table.now (all_tries_view c.args.tries.now) given id c.args.statement.now _
    (ap (λ (l : List Try). reaches c.args.table.now l) (sym c.tries_at.ensures) ∙ sym c.reaches.ensures ∙ c.if-not-reaches.false)
    (c.in_ok-owner_of_statement.ensures given id)
