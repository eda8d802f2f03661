use Rattle.std.proofs.Common.{ap, refl}
use Rattle.node_model.specs.States.{router_state}
use Rattle.protocol_model.specs.Inputs.{input_of}
use Rattle.router_node.proofs.Lacks.{tells_before}
use Rattle.router_node.specs.RouterStates.{state_of}
use Rattle.router_node.proofs.step.RouterNodeNode.step.Goals as goal

pub returns-in-Err-append_records-clause-missed : goal.returns-in-Err-append_records-clause-missed
returns-in-Err-append_records-clause-missed g c =
    let n = c.args.self.now in
    tells_before (state_of c.plan.new.self) (state_of n) (input_of c.args.input) c.get-steps.result n.steps c.missed.result c.without.result
    (ap router_state c.plan.ensures.same) c.get-steps.ensures c.without.ensures c.missed.ensures.told

pub returns-in-Err-plan-clause-missed : goal.returns-in-Err-plan-clause-missed
returns-in-Err-plan-clause-missed g c =
    let n = c.args.self.now in
    let told = c.missed-in-Err-plan in
    tells_before (state_of c.plan.new.self) (state_of n) (input_of c.args.input) c.get-steps.result n.steps told.result told.result
    (ap router_state c.plan.ensures.same) c.get-steps.ensures refl told.ensures.told

pub returns-in-Err-clause-missed : goal.returns-in-Err-clause-missed
returns-in-Err-clause-missed g c =
    let n = c.args.self.now in
    let told = c.missed-in-Err in
    tells_before (state_of n) (state_of n) (input_of c.args.input) c.get-steps.result n.steps told.result c.without-in-Err.result refl c.get-steps.ensures
    c.without-in-Err.ensures told.ensures.told
