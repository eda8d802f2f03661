use Rattle.std.proofs.Common.{List, ap, refl}
use Rattle.std.specs.Prelude.{map}
use Rattle.protocol_model.specs.Messages.{letter_of}
use Rattle.protocol_model.specs.declared.message.Message.{Message}
use Rattle.shard_node.proofs.plan.StepPlan.of_message.Goals as goal

pub returns-clause-time : goal.returns-clause-time
returns-clause-time c = refl

pub returns-clause-mail : goal.returns-clause-mail
returns-clause-mail c = ap (λ (mail : List Message). map letter_of mail) c.of_one.ensures

pub returns-clause-records : goal.returns-clause-records
returns-clause-records c = c.new.ensures.items

pub returns-clause-change : goal.returns-clause-change
returns-clause-change c = refl
