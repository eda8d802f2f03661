use Rattle.std.proofs.Common.{rules, w32}
use mir.Val.{SFits}
use Rattle.command_replies.specs.AnswerMeanings.{answer_view}
use Rattle.command_model.specs.Answers.{answer_document}
use Rattle.node_model.specs.RouterRequests as requested
use Rattle.node_traits.specs.Lists.{listed}
use Rattle.router_requests.specs.Works.{open_view}
use Rattle.router_node.specs.RouterStates.{router_of}
use Rattle.router_node.proofs.Puts.{told_as}
use Rattle.router_node.proofs.Shown.{told_plain}
use Rattle.router_node.proofs.node.RouterNode.plan_answer.Goals as goal

pub returns : goal.returns
returns c = λ m late may.
    let n = c.args.self.now in
    let r = router_of n in
    let q = open_view n.me.0 n.life c.args.request.now in
    let answer = answer_view c.args.answer.now in
    let fits : SFits w32 c.args.request.now.number = search rules in
    told_plain r m c.hears.result c.args.time.0 late q answer (listed c.in_ok-reply.reply)
    (told_as _ (requested.id_of r q.count) (requested.heard r m) q.link q.number q.request (answer_document answer) fits (c.in_ok-reply.ensures (requested.id_of r q.count) (requested.heard r m)))
    c.hears.ensures may
