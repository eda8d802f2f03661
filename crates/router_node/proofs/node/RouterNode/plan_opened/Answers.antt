use Rattle.std.proofs.Common.{ap, List, map}
use Rattle.protocol_model.specs.Messages.{letter_of}
use Rattle.protocol_model.specs.declared.message.Message.{Message}
use Rattle.router_node.specs.RouterStates.{router_of}
use Rattle.router_node.proofs.Started.{ok_opened}
use Rattle.router_node.proofs.node.RouterNode.plan_opened.Goals as goal

pub returns : goal.returns
returns c =
    ok_opened (router_of c.args.self.now) c.starts.result (map letter_of c.new-mail.result) c.args.self.now.quiet (ap (λ (ms : List Message). map letter_of ms) c.new-mail.ensures) c.starts.ensures
