use Rattle.std.proofs.Common.{refl, rules}
use Rattle.protocol_model.specs.Messages.{letter_of}
use Rattle.router_node.specs.RouterStates.{router_of}
use Rattle.router_node.proofs.Started.{ok_heard, other_is}
use Rattle.router_node.proofs.node.RouterNode.plan_message.Goals as goal

pub returns-then-ne : goal.returns-then-ne
returns-then-ne c = other_is (router_of c.args.self.now) c.late.result (letter_of c.args.message) (search rules) c.late.ensures

pub returns : goal.returns
returns c = ok_heard (router_of c.args.self.now) c.plan_body.result (letter_of c.args.message) (search rules) (c.plan_body.ensures (letter_of c.args.message) refl refl (search rules))
