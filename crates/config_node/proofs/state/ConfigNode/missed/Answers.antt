use Rattle.std.proofs.Common.{refl}
use Rattle.protocol_model.proofs.Lacks.{are_missed}
use Rattle.protocol_model.specs.Inputs.{input_of}
use Rattle.config_node.specs.State.{catalogue_of, state_of}
use Rattle.config_node.proofs.state.ConfigNode.missed.Goals as goal

pub returns-clause-told : goal.returns-clause-told
returns-clause-told c =
    let asked = c.requested-asked in
    are_missed (state_of c.args.self.now) (input_of c.args.input) c.args.steps asked.result c.missed.result
    (asked.ensures (catalogue_of c.args.self.now) refl) c.missed.ensures.told
