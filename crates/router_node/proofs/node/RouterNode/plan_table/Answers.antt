use Rattle.router_node.specs.RouterStates.{router_of}
use Rattle.router_node.proofs.AllSteps.{took_learn}
use Rattle.router_node.proofs.Heard.{heard_by}
use Rattle.router_node.proofs.node.RouterNode.plan_table.Goals as goal

pub returns : goal.returns
returns c = λ m is late.
    let r = router_of c.args.self.now in
    heard_by r m c.hears_all.result c.args.time.0 late _ _ _ c.hears_all.ensures (λ e. e)
    (took_learn r c.in_ok-all.all _ (c.as_slice.ensures r.me r.life) m c.args.told c.args.time.0 is late c.in_ok-all.ensures)
