use Rattle.std.proofs.Common.{ap, subst, rules}
use Rattle.node_model.specs.Letters.{letter_input, moment_input, client_input}
use Rattle.protocol_model.specs.Inputs.{input_of}
use Rattle.protocol_model.specs.Messages.{letter_of}
use Rattle.protocol_model.specs.Requests.{request_of}
use Rattle.router_node.specs.RouterStates.{router_of}
use Rattle.std.proofs.Common.{w32, ℤ}
use Rattle.std.proofs.lemmas.Int.{to_z-of_z}
use mir.Val.{SFits}
use Rattle.std.specs.Prelude.{IfOk}
use Rattle.router_node.specs.StepPlans.{IsPlanned}
use Rattle.router_node.proofs.Started.{ok_same}
use Rattle.router_node.proofs.node.RouterNode.plan_input.Goals as goal

pub returns-in-Client : goal.returns-in-Client
returns-in-Client c =
    let r = router_of c.args.self.now in
    let request = request_of c.in-Client.request in
    let fits : SFits w32 c.in-Client.number = search rules in
    ok_same r c.plan_client.result (client_input c.in-Client.link c.in-Client.number request) (input_of c.args.input) (ap input_of c.in-Client.is)
    (subst (λ (z : ℤ). IfOk c.plan_client.result (λ p. IsPlanned r (client_input c.in-Client.link z request) p)) (to_z-of_z w32 c.in-Client.number fits) c.plan_client.ensures)

pub returns-in-Deliver : goal.returns-in-Deliver
returns-in-Deliver c = ok_same (router_of c.args.self.now) c.plan_message.result (letter_input (letter_of c.in-Deliver.message)) (input_of c.args.input) (ap input_of c.in-Deliver.is) c.plan_message.ensures

pub returns-in-Moment : goal.returns-in-Moment
returns-in-Moment c = ok_same (router_of c.args.self.now) c.plan_moment.result (moment_input c.in-Moment.moment) (input_of c.args.input) (ap input_of c.in-Moment.is) c.plan_moment.ensures
