use Rattle.std.proofs.Common.{map}
use Rattle.protocol_model.specs.Statements.{done_view}
use Rattle.reply_model.specs.Outcomes.{dones_from}
use Rattle.write_runs.specs.Runs.{answers_view}
use Rattle.router_writes.proofs.Joint.{dones_on}
use Rattle.router_writes.proofs.answers.dones_of.Goals as goal

pub loop-answer-preserved : goal.loop-answer-preserved
loop-answer-preserved c =
    dones_on c.args.answers.now c.loop-answer.answer-index c.loop-answer.index c.in_ok-next.next c.answer-item.result (map done_view c.loop-answer.dones.items)
    (map done_view c.add_done.new.dones.items) (dones_from 0 (answers_view c.args.answers.now))
    c.loop-answer-test.true c.answer-item.is c.in_ok-next.ensures c.in_ok-add_done.ensures c.loop-answer.invariant
