use Rattle.std.proofs.Common.{ℕ, List, ap, ◌∙◌}
use Rattle.std.specs.Prelude.{map}
use Rattle.std.specs.Arc.{arc_value}
use Rattle.bson_values.specs.Tree.{Fields}
use Rattle.node_model.specs.Service.{documents_at}
use Rattle.node_traits.specs.Letters.{half_ask}
use Rattle.node_traits.specs.ShardRows.{says}
use Rattle.node_traits.specs.Ids.{id_view}
use Rattle.pipeline_lang.specs.Halves.{half_of}
use Rattle.pipeline_model.specs.Halves.{kept_at_head}
use Rattle.pipeline_lang.specs.declared.halves.Half.{Half}
use Rattle.shard_node.specs.State.{shard_view}
use Rattle.shard_node.proofs.node.ShardNode.half_message.Goals as goal

pub returns : goal.returns
returns c =
    let s = shard_view c.args.self.now in
    let ask = c.args.ask.now in
    let half = half_of (arc_value ask.half) in
    let documents = map (λ d. arc_value d) c.in_ok-documents.documents.items in
    c.message.ensures
    ∙ ap (λ (n : List ℕ). says s s.me c.args.time.0 (half_ask (id_view ask.id) ask.turn n ask.at.0 (half_of (arc_value c.in_ok-try_clone.field-0)) documents)) c.in_ok-copy.ensures
    ∙ ap (λ (h : Half). says s s.me c.args.time.0 (half_ask (id_view ask.id) ask.turn ask.namespace ask.at.0 (half_of h) documents)) c.in_ok-try_clone.ensures
    ∙ ap (λ (ds : List Fields). says s s.me c.args.time.0 (half_ask (id_view ask.id) ask.turn ask.namespace ask.at.0 half ds)) (c.in_ok-documents.ensures
    ∙ ap (λ (ds : List Fields). kept_at_head (half_of c.deref-asked.result.now).stages ds) c.in_ok-found.ensures
    ∙ ap (λ (h : Half). documents_at s.entries ask.namespace ask.at.0 (half_of h)) c.deref-asked.ensures)
