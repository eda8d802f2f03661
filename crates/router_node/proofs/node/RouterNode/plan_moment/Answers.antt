use Rattle.std.proofs.Common.{map, rules}
use Rattle.std.specs.Prelude.{None}
use Rattle.node_model.specs.Letters.{moment_input}
use Rattle.protocol_model.specs.Messages.{letter_of}
use Rattle.router_node.specs.RouterStates.{router_of}
use Rattle.router_node.specs.declared.step_plan.Change.TheVariants.{Learns}
use Rattle.router_node.proofs.AllSteps.{took_moment}
use Rattle.router_node.proofs.Started.{ok_starts}
use Rattle.router_node.proofs.node.RouterNode.plan_moment.Goals as goal

pub returns : goal.returns
returns c =
    let n = c.args.self.now in
    let r = router_of n in
    let all = c.in_ok-all.all in
    let time = c.max-time.result.0 in
    ok_starts r c.starts_all.result n.quiet (moment_input c.args.moment) time c.args.moment (Learns None all.fates) (map letter_of all.mail) all.replies tt tt (λ e. absurd (cc e))
    (took_moment r all _ (c.as_slice.ensures r.me r.life) c.args.moment time (search rules) c.in_ok-all.ensures)
    c.starts_all.ensures
