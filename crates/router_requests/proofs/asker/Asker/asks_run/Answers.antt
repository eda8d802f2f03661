use Rattle.std.proofs.Common.{refl, ap, ◌∙◌, [], ◌∷◌}
use Rattle.command_replies.specs.Kinds.{given_view}
use Rattle.node_model.specs.Letters.{Letter}
use Rattle.node_model.specs.RouterRequests.{id_of}
use Rattle.router_requests.specs.Askers.{asker_view}
use Rattle.router_requests.proofs.asker.Asker.asks_run.Goals as goal

pub returns : goal.returns
returns c =
    let told = rw c.deref.ensures.value at (c.in_ok-statements.ensures (given_view c.args.write.now.number) (id_of (asker_view c.args.self) c.args.count)) in
    ap (λ (m : Letter). m ∷ []) (c.says.ensures ∙ rw (c.id.ensures, c.in_ok-copy.ensures, c.in_ok-turn_of.ensures, told) refl)
