use Rattle.std.proofs.Common.{ap, rules, refl}
use Rattle.node_model.specs.CatalogueRows.{catalogue_skip}
use Rattle.node_model.specs.Letters.{letter_input}
use Rattle.protocol_model.specs.Messages.{letter_of}
use Rattle.config_node.specs.State.{catalogue_of}
use Rattle.config_node.proofs.Plans.{stays, stays_other}
use Rattle.config_node.proofs.state.ConfigNode.plan_message.Goals as goal

pub returns-then-ne-clause-planned : goal.returns-then-ne-clause-planned
returns-then-ne-clause-planned c =
    let made = c.of_time.ensures in
    stays_other (catalogue_of c.args.self.now) c.of_time.result made.change made.answer made.records (letter_of c.args.message.now) (search rules)
    (ap (λ t. t.0) made.time)

pub returns-in-None-clause-planned : goal.returns-in-None-clause-planned
returns-in-None-clause-planned c =
    let n = catalogue_of c.args.self.now in
    let m = letter_of c.args.message.now in
    let made = c.of_time-in-None.ensures in
    stays n c.of_time-in-None.result made.change made.answer made.records (letter_input m) (letter_input m) refl (search rules)
    (catalogue_skip n m (search rules)) (ap (λ t. t.0) made.time)
