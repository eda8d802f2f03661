use Rattle.std.proofs.Common.{◌<◌, ◌-◌, ◌^◌, rules}
use Rattle.command_replies.specs.AnswerMeanings.{answer_view}
use Rattle.router_requests.specs.Works.{open_view}
use Rattle.router_node.specs.RouterStates.{router_of}
use Rattle.router_node.proofs.Told.{may_excess}
use Rattle.router_node.proofs.node.RouterNode.plan_excess.Goals as goal

pub returns : goal.returns
returns c = λ m at telling documents late excess may.
    let n = c.args.self.now in
    let low : c.args.bytes < 2 ^ 64 - 1 = search rules in
    c.plan_answer.ensures m late
    (may_excess (router_of n) m (open_view n.me.0 n.life c.args.request.now) at telling documents c.args.bytes (answer_view c.excess_answer.result) may excess low c.excess_answer.ensures)
