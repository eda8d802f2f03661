use Rattle.std.proofs.Common.{◌≡◌, subst}
use Rattle.node_model.specs.Letters.{refused}
use Rattle.protocol_model.specs.Refusals.{about_view, cause_view}
use Rattle.protocol_model.specs.declared.refused.About.{About}
use Rattle.protocol_model.specs.declared.refused.About.TheVariants as abouts
use Rattle.protocol_model.specs.declared.refused.Cause.{Cause}
use Rattle.router_node.specs.RouterStates.{router_of}
use Rattle.router_node.proofs.Heard.{heard_late}
use Rattle.router_node.proofs.Refused.{table_late}
use Rattle.router_node.proofs.node.RouterNode.plan_refused.Goals as goal

pub returns-in-Request : goal.returns-in-Request
returns-in-Request c = λ m from is late.
    c.plan_request_refused.ensures m from (subst (λ (a : About). m.body ≡ refused (about_view a) (cause_view c.args.told.cause)) c.in-Request.is is) late

pub returns-in-Stale : goal.returns-in-Stale
returns-in-Stale c = λ m from is late.
    let r = router_of c.args.self.now in
    heard_late r m c.late.result c.args.time.0 late c.late.ensures
    (table_late r m _ _ _ _ (subst (λ (x : Cause). m.body ≡ refused (about_view (abouts.Table c.in-Table.namespace c.in-Table.create c.in-Table.at)) (cause_view x)) c.in-Stale.is
    (subst (λ (a : About). m.body ≡ refused (about_view a) (cause_view c.args.told.cause)) c.in-Table.is is)))

pub returns : goal.returns
returns c = λ m from is late.
    c.plan_table_refused.ensures m
    (subst (λ (x : Cause). m.body ≡ refused (about_view (abouts.Table c.in-Table.namespace c.in-Table.create c.in-Table.at)) (cause_view x)) c.in-Lack.is
    (subst (λ (a : About). m.body ≡ refused (about_view a) (cause_view c.args.told.cause)) c.in-Table.is is)) late
