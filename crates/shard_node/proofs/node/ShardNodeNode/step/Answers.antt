use Rattle.std.proofs.Common.{ap, refl}
use Rattle.node_traits.specs.States.{shard_state}
use Rattle.protocol_model.specs.Inputs.{input_of}
use Rattle.shard_node.proofs.Lacks.{tells_before}
use Rattle.shard_node.specs.State.{shard_view, state_of}
use Rattle.shard_node.proofs.node.ShardNodeNode.step.Goals as goal

pub returns-in-Err-append_records-clause-missed : goal.returns-in-Err-append_records-clause-missed
returns-in-Err-append_records-clause-missed g c =
    let n = c.args.self.now in
    tells_before (state_of c.plan.new.self) (state_of n) (input_of c.args.input) c.get-steps.result n.steps c.requested-asked.result c.missed.result
    c.without.result (ap shard_state c.plan.ensures.same) c.get-steps.ensures c.without.ensures (c.requested-asked.ensures (shard_view n) refl)
    c.missed.ensures.told

pub returns-in-Err-plan-clause-missed : goal.returns-in-Err-plan-clause-missed
returns-in-Err-plan-clause-missed g c =
    let n = c.args.self.now in
    let told = c.missed-in-Err-plan in
    tells_before (state_of c.plan.new.self) (state_of n) (input_of c.args.input) c.get-steps.result n.steps c.requested-asked.result told.result told.result
    (ap shard_state c.plan.ensures.same) c.get-steps.ensures refl (c.requested-asked.ensures (shard_view n) refl) told.ensures.told

pub returns-in-Err-clause-missed : goal.returns-in-Err-clause-missed
returns-in-Err-clause-missed g c =
    let n = c.args.self.now in
    let told = c.missed-in-Err in
    tells_before (state_of n) (state_of n) (input_of c.args.input) c.get-steps.result n.steps c.requested-asked.result told.result c.without-in-Err.result refl
    c.get-steps.ensures c.without-in-Err.ensures (c.requested-asked.ensures (shard_view n) refl) told.ensures.told
