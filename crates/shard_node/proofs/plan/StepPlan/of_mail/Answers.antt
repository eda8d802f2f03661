use Rattle.std.proofs.Common.{refl}
use Rattle.shard_node.proofs.plan.StepPlan.of_mail.Goals as goal

pub returns-clause-time : goal.returns-clause-time
returns-clause-time c = refl

pub returns-clause-mail : goal.returns-clause-mail
returns-clause-mail c = refl

pub returns-clause-records : goal.returns-clause-records
returns-clause-records c = c.new.ensures.items

pub returns-clause-change : goal.returns-clause-change
returns-clause-change c = refl
