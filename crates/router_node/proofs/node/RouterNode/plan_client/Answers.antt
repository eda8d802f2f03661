use Rattle.std.proofs.Common.{ap, sym, ◌∙◌}
use Rattle.opmsg_frames.specs.declared.request.Body.{Body}
use Rattle.opmsg_model.specs.Requests as wire
use Rattle.protocol_model.specs.Heads.{head_request}
use Rattle.protocol_model.specs.Requests.{body_of}
use Rattle.router_node.proofs.node.RouterNode.plan_client.Goals as goal

-- the limit is that of the request whose head is kept
pub invariant_of-asked : goal.invariant_of-asked
invariant_of-asked c = record {
  limited = c.in_ok-limit.ensures.limit (head_request c.of-head.result.0)
      (ap (λ (x : wire.Request). x.body) c.of-head.ensures.request ∙ ap (λ (b : Body). body_of b) (sym c.of-head.ensures.body));
}

pub invariant_of-asked-in-Needs : goal.invariant_of-asked-in-Needs
invariant_of-asked-in-Needs c = record {
  limited = c.in_ok-limit.ensures.limit (head_request c.of-head.result.0)
      (ap (λ (x : wire.Request). x.body) c.of-head.ensures.request ∙ ap (λ (b : Body). body_of b) (sym c.of-head.ensures.body));
}

pub invariant_of-asked-in-NeedsBatch : goal.invariant_of-asked-in-NeedsBatch
invariant_of-asked-in-NeedsBatch c = record {
  limited = c.in_ok-limit.ensures.limit (head_request c.of-head.result.0)
      (ap (λ (x : wire.Request). x.body) c.of-head.ensures.request ∙ ap (λ (b : Body). body_of b) (sym c.of-head.ensures.body));
}

pub invariant_of-asked-in-NeedsEnd : goal.invariant_of-asked-in-NeedsEnd
invariant_of-asked-in-NeedsEnd c = record {
  limited = c.in_ok-limit.ensures.limit (head_request c.of-head.result.0)
      (ap (λ (x : wire.Request). x.body) c.of-head.ensures.request ∙ ap (λ (b : Body). body_of b) (sym c.of-head.ensures.body));
}
