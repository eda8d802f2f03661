use Rattle.std.proofs.Common.{ap, rules}
use Rattle.node_traits.specs.Letters.{client_input, letter_input, moment_input, opened_input}
use Rattle.node_traits.specs.ShardRows.{shard_client, shard_opened}
use Rattle.protocol_model.specs.Inputs.{input_of}
use Rattle.protocol_model.specs.Messages.{letter_of}
use Rattle.protocol_model.specs.Requests.{request_of}
use Rattle.shard_node.proofs.Planned.{ok_steps, other_step_of, quiet_step}
use Rattle.shard_node.specs.State.{shard_view}
use Rattle.shard_node.proofs.node.ShardNode.plan_input.Goals as goal

pub returns-then-ne-clause-planned : goal.returns-then-ne-clause-planned
returns-then-ne-clause-planned c =
    other_step_of (shard_view c.args.self.now) (letter_of c.in-Deliver.message) (input_of c.args.input) c.of_time.result (ap input_of c.in-Deliver.is) (search rules)
    (ap (λ t. t.0) c.of_time.ensures.time) c.of_time.ensures.change c.of_time.ensures.records c.of_time.ensures.mail

pub returns-in-Deliver-clause-planned : goal.returns-in-Deliver-clause-planned
returns-in-Deliver-clause-planned c =
    ok_steps (shard_view c.args.self.now) (letter_input (letter_of c.in-Deliver.message)) (input_of c.args.input) c.plan_message.result (ap input_of c.in-Deliver.is) (search rules)
    c.plan_message.ensures.planned

pub returns-in-Moment-clause-planned : goal.returns-in-Moment-clause-planned
returns-in-Moment-clause-planned c =
    ok_steps (shard_view c.args.self.now) (moment_input c.in-Moment.moment) (input_of c.args.input) c.plan_moment.result (ap input_of c.in-Moment.is) tt c.plan_moment.ensures.planned

pub returns-in-Client-clause-planned : goal.returns-in-Client-clause-planned
returns-in-Client-clause-planned c =
    let s = shard_view c.args.self.now in
    let i = client_input c.in-Client.link c.in-Client.number (request_of c.in-Client.request) in
    let told = c.of_time-in-Client.ensures in
    quiet_step s i (input_of c.args.input) c.of_time-in-Client.result (ap input_of c.in-Client.is) tt (shard_client s c.in-Client.link c.in-Client.number (request_of c.in-Client.request))
    (ap (λ t. t.0) told.time) told.change told.records told.mail

pub returns-clause-planned : goal.returns-clause-planned
returns-clause-planned c =
    let s = shard_view c.args.self.now in
    let told = c.of_time-in-Opened.ensures in
    quiet_step s opened_input (input_of c.args.input) c.of_time-in-Opened.result (ap input_of c.in-Opened.is) tt (shard_opened s) (ap (λ t. t.0) told.time) told.change told.records told.mail
