use Rattle.std.proofs.Common.{ap}
use Rattle.std.specs.Arc.{arc_value}
use Rattle.chunk_table.specs.VerdictMeanings.{sent_view}
use Rattle.node_traits.specs.Ids.{id_view}
use Rattle.node_traits.specs.Letters.{letter_input}
use Rattle.node_traits.specs.ShardRows.{heard, shard_read}
use Rattle.pipeline_lang.specs.Halves.{half_of}
use Rattle.shard_node.proofs.Planned.{told_planned}
use Rattle.shard_node.specs.Plans.{half_wanted}
use Rattle.shard_node.specs.State.{shard_view}
use Rattle.shard_node.proofs.node.ShardNode.plan_covered.Goals as goal

pub returns-clause-planned : goal.returns-clause-planned
returns-clause-planned c = λ m body timed.
    let s = shard_view c.args.self.now in
    let ask = c.args.ask.now in
    let planned = c.of_message.ensures in
    told_planned s (letter_input m) c.of_message.result s.me c.args.time.0 (heard s m) (half_wanted s ask) _
    (ap (λ t. t.0) planned.time) timed planned.change planned.records planned.mail c.in_ok-message.ensures
    (shard_read s m (id_view ask.id) ask.turn ask.namespace ask.at.0 (half_of (arc_value ask.half)) (sent_view ask.sent) body c.requires.fits
    c.requires.covered)
