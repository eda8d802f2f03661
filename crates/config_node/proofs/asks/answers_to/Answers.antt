use Rattle.std.proofs.Common.{ap, ◌∙◌}
use Rattle.std.specs.Prelude.{Option}
use Rattle.node_model.specs.Letters.{Body, Refused}
use Rattle.config_node.specs.Told.{letters, told_of}
use Rattle.config_node.proofs.asks.answers_to.Goals as goal

pub returns-in-Some : goal.returns-in-Some
returns-in-Some c =
    let is = rw c.in-Some.is at c.about_in.ensures in
    let to = c.args.message.sender.0 in
    (c.message_to.ensures ∙ ap (λ (o : Option Body). letters c.args.me.0 to c.args.time.0 o) c.answer_of.ensures)
    ∙ ap (λ (o : Option Refused). told_of c.args.me.0 to c.args.time.0 c.args.answer o) is
