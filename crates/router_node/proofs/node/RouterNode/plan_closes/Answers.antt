use Rattle.command_replies.specs.AnswerMeanings.{answer_view}
use Rattle.node_model.specs.RouterNext as nexts
use Rattle.router_requests.specs.Works.{open_view}
use Rattle.router_node.specs.RouterStates.{router_of}
use Rattle.router_node.proofs.Heard.{heard_by}
use Rattle.router_node.proofs.Refused.{goes_told}
use Rattle.router_node.proofs.node.RouterNode.plan_closes.Goals as goal

pub returns : goal.returns
returns c = λ m late may.
    let n = c.args.self.now in
    let r = router_of n in
    let q = open_view n.me.0 n.life c.args.request.now in
    let time = c.args.time.0 in
    heard_by r m c.hears.result time late _ _ _ c.hears.ensures (λ e. e)
    (goes_told r m q (nexts.reply_to r time q (answer_view c.args.answer.now)) _ may (c.in_ok-reply.ensures time))
