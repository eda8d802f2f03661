use Rattle.std.proofs.Common.{◌≡◌, sym, ap, subst}
use Rattle.std.specs.Prelude.{Result, Err, IfOk}
use Rattle.command_model.specs.Command.{command_in, Command}
use Rattle.command_words.specs.Commands.{Answers, command_view}
use Rattle.command_words.specs.declared.fault.CommandFault.{CommandFault}
use Rattle.base_model.specs.Refusals.{Refusal}
use Rattle.node_model.specs.RouterRequests as requested
use Rattle.opmsg_frames.specs.RequestMeanings.{form_view}
use Rattle.protocol_model.specs.Requests.{body_of}
use Rattle.router_replies.specs.Plans.{plan_view}
use Rattle.router_node.specs.RouterStates.{router_of}
use Rattle.router_node.specs.Rows.{started}
use Rattle.router_replies.proofs.TakenBodies.{taken_small}
use Rattle.router_node.proofs.node.RouterNode.plan_taken.Goals as goal

pub plan_command-requires : goal.plan_command-requires
plan_command-requires c =
    taken_small (form_view c.args.sent) c.args.body (command_view c.in-Ok.command) c.requires (c.in-Ok.ensures (body_of c.args.body) c.requires.meant)

pub returns-in-Ok : goal.returns-in-Ok
returns-in-Ok c = λ id.
    subst (λ (x : Result Command Refusal). IfOk c.plan_command.result (λ plan. plan_view id plan ≡ requested.plan_of (started (router_of c.args.self.now)) id c.args.silent x))
    (sym (c.in-Ok.ensures (body_of c.args.body) c.requires.meant)) (c.plan_command.ensures id)

pub returns-in-Err-Refused : goal.returns-in-Err-Refused
returns-in-Err-Refused c = λ id.
    let told = subst (λ (e : CommandFault). Answers (Err e) (command_in (form_view c.args.sent) (body_of c.args.body))) c.in-Err-Refused.field-0-is
    (c.in-Err-Refused.ensures (body_of c.args.body) c.requires.meant) in
    sym (ap (λ (x : Result Command Refusal). requested.plan_of (started (router_of c.args.self.now)) id c.args.silent x) told)
