use Rattle.std.proofs.Common.{◌∙◌, ap}
use Rattle.shard_node.proofs.Planned.{empty_planned, skip_planned}
use Rattle.shard_node.proofs.node.ShardNode.plan_other.Goals as goal

pub returns-in-WriteAsk-clause-planned : goal.returns-in-WriteAsk-clause-planned
returns-in-WriteAsk-clause-planned c = λ m body timed.
    empty_planned _ m c.of_time.result c.in-WriteAsk.field-0 c.args.body c.in-WriteAsk.is c.requires.stands body (ap (λ t. t.0) c.of_time.ensures.time ∙ timed) c.of_time.ensures.change
    c.of_time.ensures.records c.of_time.ensures.mail

pub returns-in-TableAsk-clause-planned : goal.returns-in-TableAsk-clause-planned
returns-in-TableAsk-clause-planned c = λ m body timed.
    skip_planned _ m c.of_time-in-TableAsk.result c.args.body _ c.in-TableAsk.is tt body (ap (λ t. t.0) c.of_time-in-TableAsk.ensures.time) c.of_time-in-TableAsk.ensures.change c.of_time-in-TableAsk.ensures.records c.of_time-in-TableAsk.ensures.mail

pub returns-in-SplitAsk-clause-planned : goal.returns-in-SplitAsk-clause-planned
returns-in-SplitAsk-clause-planned c = λ m body timed.
    skip_planned _ m c.of_time-in-SplitAsk.result c.args.body _ c.in-SplitAsk.is tt body (ap (λ t. t.0) c.of_time-in-SplitAsk.ensures.time) c.of_time-in-SplitAsk.ensures.change c.of_time-in-SplitAsk.ensures.records c.of_time-in-SplitAsk.ensures.mail

pub returns-in-SplitDone-clause-planned : goal.returns-in-SplitDone-clause-planned
returns-in-SplitDone-clause-planned c = λ m body timed.
    skip_planned _ m c.of_time-in-SplitDone.result c.args.body _ c.in-SplitDone.is tt body (ap (λ t. t.0) c.of_time-in-SplitDone.ensures.time) c.of_time-in-SplitDone.ensures.change c.of_time-in-SplitDone.ensures.records c.of_time-in-SplitDone.ensures.mail

pub returns-in-WriteDone-clause-planned : goal.returns-in-WriteDone-clause-planned
returns-in-WriteDone-clause-planned c = λ m body timed.
    skip_planned _ m c.of_time-in-WriteDone.result c.args.body _ c.in-WriteDone.is tt body (ap (λ t. t.0) c.of_time-in-WriteDone.ensures.time) c.of_time-in-WriteDone.ensures.change c.of_time-in-WriteDone.ensures.records c.of_time-in-WriteDone.ensures.mail

pub returns-in-ReadRows-clause-planned : goal.returns-in-ReadRows-clause-planned
returns-in-ReadRows-clause-planned c = λ m body timed.
    skip_planned _ m c.of_time-in-ReadRows.result c.args.body _ c.in-ReadRows.is tt body (ap (λ t. t.0) c.of_time-in-ReadRows.ensures.time) c.of_time-in-ReadRows.ensures.change c.of_time-in-ReadRows.ensures.records c.of_time-in-ReadRows.ensures.mail

pub returns-clause-planned : goal.returns-clause-planned
returns-clause-planned c = λ m body timed.
    skip_planned _ m c.of_time-in-TimeTold.result c.args.body _ c.in-TimeTold.is tt body (ap (λ t. t.0) c.of_time-in-TimeTold.ensures.time) c.of_time-in-TimeTold.ensures.change c.of_time-in-TimeTold.ensures.records c.of_time-in-TimeTold.ensures.mail
