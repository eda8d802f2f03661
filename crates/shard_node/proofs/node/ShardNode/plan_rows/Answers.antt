use Rattle.std.proofs.Common.{ap, subst}
use Rattle.std.specs.Prelude.{map}
use Rattle.std.specs.Arc.{arc_value}
use Rattle.node_traits.specs.Letters.{letter_input, read_rows}
use Rattle.node_traits.specs.ShardRows.{heard}
use Rattle.node_traits.specs.Ids.{id_view}
use Rattle.pipeline_lang.specs.Halves.{half_of}
use Rattle.pipeline_lang.specs.declared.halves.Half.{Half}
use Rattle.protocol_model.specs.Bodies.{rows_view}
use Rattle.shard_requests.specs.Halves.{TellsHalf}
use Rattle.shard_node.proofs.HalvesTold.{half_row}
use Rattle.shard_node.proofs.Planned.{told_planned}
use Rattle.shard_node.specs.State.{shard_view}
use Rattle.shard_node.proofs.node.ShardNode.plan_rows.Goals as goal

pub returns-clause-planned : goal.returns-clause-planned
returns-clause-planned c = λ m body timed.
    let s = shard_view c.args.self.now in
    let ask = c.args.ask in
    let told = rows_view c.in_ok-rows.rows in
    let tells =
    subst (λ (h : Half). TellsHalf (half_of h) (map (λ d. arc_value d) ask.documents.items) told) c.deref.ensures c.in_ok-rows.ensures in
    told_planned s (letter_input m) c.of_message.result ask.id.router.0 c.args.time.0 (heard s m) (read_rows (id_view ask.id) ask.turn told) _
    (ap (λ t. t.0) c.of_message.ensures.time) timed c.of_message.ensures.change c.of_message.ensures.records c.of_message.ensures.mail c.message-message.ensures
    (half_row s m (id_view ask.id) ask.turn ask.namespace ask.at.0 (half_of (arc_value ask.half)) (map (λ d. arc_value d) ask.documents.items) told body tells)
