use Rattle.std.proofs.Common.{refl, map}
use Rattle.std.specs.Arc.{arc_value}
use Rattle.command_replies.specs.AnswerMeanings.{answer_view}
use Rattle.router_requests.specs.Works.{open_view}
use Rattle.router_node.specs.RouterStates.{router_of}
use Rattle.router_node.proofs.Told.{may_batch, may_cursor}
use Rattle.router_node.proofs.node.RouterNode.plan_batch.Goals as goal

pub returns-in_ok-answer : goal.returns-in_ok-answer
returns-in_ok-answer c = λ m size documents late short is left may.
    let n = c.args.self.now in
    let q = open_view n.me.0 n.life c.args.request.now in
    c.plan_answer.ensures m late
    (may_batch (router_of n) m q c.args.at.0 size c.args.single documents (map arc_value c.args.batch.documents.items) (map arc_value c.args.batch.rest.items) short is left may
    (answer_view c.in_ok-answer.answer) (c.is_only.ensures.only c.if-is_only.true) (c.in_ok-answer.ensures q refl))

pub returns-else-is_only : goal.returns-else-is_only
returns-else-is_only c = λ m size documents late short is left may.
    let n = c.args.self.now in
    let q = open_view n.me.0 n.life c.args.request.now in
    let other = c.is_only.ensures.other c.if-is_only.false in
    c.plan_cursor.ensures m late other.0
    (may_cursor (router_of n) m q c.args.at.0 size c.args.single documents (map arc_value c.args.batch.documents.items) (map arc_value c.args.batch.rest.items) short is left may other.1 other.0)
