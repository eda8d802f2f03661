use Rattle.std.proofs.Common.{map}
use Rattle.std.specs.Arc.{arc_value}
use Rattle.command_replies.specs.AnswerMeanings.{answer_view}
use Rattle.pipeline_eval.specs.Rows.{rows_of}
use Rattle.pipeline_model.specs.Runs.{listed, overflowed}
use Rattle.pipeline_model.specs.Split.{split}
use Rattle.router_requests.specs.Works.{open_view, stages_of, telling_view}
use Rattle.router_node.specs.RouterStates.{router_of}
use Rattle.router_node.proofs.Told.{may_overflow, may_tell}
use Rattle.router_node.proofs.node.RouterNode.plan_merged.Goals as goal

pub returns-in-Ok : goal.returns-in-Ok
returns-in-Ok c = λ m late may.
    let n = c.args.self.now in
    let read = c.args.read.now in
    let q = open_view n.me.0 n.life c.args.request.now in
    c.plan_documents.ensures m late c.in-Ok.ensures.answers.1
    (may_tell (router_of n) m q read.at.0 (telling_view read.telling) _ (split (stages_of read.parts)).1 (map rows_of c.args.all.items) (listed (map arc_value c.in-Ok.documents.items))
    c.merge-by.ensures may c.in-Ok.ensures.answers.0)

pub returns-in-Err-Overflow : goal.returns-in-Err-Overflow
returns-in-Err-Overflow c = λ m late may.
    let n = c.args.self.now in
    let read = c.args.read.now in
    let q = open_view n.me.0 n.life c.args.request.now in
    let merges = rw c.in-Err-Overflow.field-0-is at c.in-Err-Overflow.ensures.answers in
    c.plan_answer.ensures m late
    (may_overflow (router_of n) m q read.at.0 (telling_view read.telling) (answer_view c.overflow_answer.result)
    (may_tell (router_of n) m q read.at.0 (telling_view read.telling) _ (split (stages_of read.parts)).1 (map rows_of c.args.all.items) overflowed c.merge-by.ensures may merges)
    c.overflow_answer.ensures)

pub returns-in-Err-TooMuch : goal.returns-in-Err-TooMuch
returns-in-Err-TooMuch c = λ m late may.
    let n = c.args.self.now in
    let read = c.args.read.now in
    let q = open_view n.me.0 n.life c.args.request.now in
    let merges = rw c.in-Err-TooMuch.field-0-is at c.in-Err-TooMuch.ensures.answers in
    c.plan_excess.ensures m read.at.0 (telling_view read.telling) merges.0 late merges.2
    (may_tell (router_of n) m q read.at.0 (telling_view read.telling) _ (split (stages_of read.parts)).1 (map rows_of c.args.all.items) (listed merges.0) c.merge-by.ensures may merges.1)
