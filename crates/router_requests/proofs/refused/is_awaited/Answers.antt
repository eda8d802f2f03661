use Rattle.std.proofs.Common.{ap, sym, ◌∙◌, map, Bool, ◌&&◌}
use Rattle.std.specs.Prelude.{is_some, not}
use Rattle.node_model.specs.RouterNext.{part_of}
use Rattle.read_parts.specs.Parts.{part_view, target_view}
use Rattle.router_requests.proofs.GivenUp.{target_awaited}
use Rattle.router_requests.proofs.refused.is_awaited.Goals as goal

pub returns-then-is_target : goal.returns-then-is_target
returns-then-is_target c =
    let targets = map target_view c.args.targets.now in
    let parts = map part_view c.args.parts.now in
    let came = is_some (part_of c.args.shard.0 parts) in
    ap (λ (b : Bool). not b) c.has_part.ensures
    ∙ sym (ap (λ (b : Bool). b && not came) (sym c.is_target.ensures ∙ c.if-is_target.true))
    ∙ target_awaited c.args.shard.0 targets parts

pub returns-else-is_target : goal.returns-else-is_target
returns-else-is_target c =
    let targets = map target_view c.args.targets.now in
    let parts = map part_view c.args.parts.now in
    let came = is_some (part_of c.args.shard.0 parts) in
    c.if-is_target.false
    ∙ sym (ap (λ (b : Bool). b && not came) (sym c.is_target.ensures ∙ c.if-is_target.false))
    ∙ target_awaited c.args.shard.0 targets parts
