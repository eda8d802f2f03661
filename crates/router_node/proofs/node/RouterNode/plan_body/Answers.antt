use Rattle.std.proofs.Common.{ap, sym, subst, ◌∙◌}
use Rattle.node_model.specs.Letters.{Body}
use Rattle.node_model.specs.RouterRows as rows
use Rattle.protocol_model.specs.Bodies.{body_view}
use Rattle.router_node.specs.RouterStates.{router_of}
use Rattle.router_node.proofs.Started.{skipped}
use Rattle.router_node.proofs.node.RouterNode.plan_body.Goals as goal

pub returns-in-TableAsk : goal.returns-in-TableAsk
returns-in-TableAsk c = λ m from is late.
    skipped (router_of c.args.self.now) c.late.result m (subst (λ (b : Body). rows.TellsNothing b) (sym (is ∙ ap body_view c.in-TableAsk.is)) tt) c.late.ensures

pub returns-in-SplitAsk : goal.returns-in-SplitAsk
returns-in-SplitAsk c = λ m from is late.
    skipped (router_of c.args.self.now) c.late-in-SplitAsk.result m (subst (λ (b : Body). rows.TellsNothing b) (sym (is ∙ ap body_view c.in-SplitAsk.is)) tt) c.late-in-SplitAsk.ensures

pub returns-in-WriteAsk : goal.returns-in-WriteAsk
returns-in-WriteAsk c = λ m from is late.
    skipped (router_of c.args.self.now) c.late-in-WriteAsk.result m (subst (λ (b : Body). rows.TellsNothing b) (sym (is ∙ ap body_view c.in-WriteAsk.is)) tt) c.late-in-WriteAsk.ensures

pub returns-in-ReadAsk : goal.returns-in-ReadAsk
returns-in-ReadAsk c = λ m from is late.
    skipped (router_of c.args.self.now) c.late-in-ReadAsk.result m (subst (λ (b : Body). rows.TellsNothing b) (sym (is ∙ ap body_view c.in-ReadAsk.is)) tt) c.late-in-ReadAsk.ensures

pub returns-in-HalfAsk : goal.returns-in-HalfAsk
returns-in-HalfAsk c = λ m from is late.
    skipped (router_of c.args.self.now) c.late-in-HalfAsk.result m (subst (λ (b : Body). rows.TellsNothing b) (sym (is ∙ ap body_view c.in-HalfAsk.is)) tt) c.late-in-HalfAsk.ensures

pub returns : goal.returns
returns c = λ m from is late.
    skipped (router_of c.args.self.now) c.late-in-TimeAsk.result m (subst (λ (b : Body). rows.TellsNothing b) (sym (is ∙ ap body_view c.in-TimeAsk.is)) tt) c.late-in-TimeAsk.ensures
