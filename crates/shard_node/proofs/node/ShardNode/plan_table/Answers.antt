use Rattle.std.proofs.Common.{Some, sym, ap, ◌∙◌}
use Rattle.chunk_table.specs.Tables.{Table, table_of}
use Rattle.std.specs.Arc.{arc_value}
use Rattle.node_traits.specs.Letters.{letter_input}
use Rattle.node_traits.specs.ShardRows.{heard, is_news, shard_known}
use Rattle.shard_node.proofs.Planned.{quiet_planned}
use Rattle.shard_node.specs.State.{shard_view}
use Rattle.shard_node.proofs.node.ShardNode.plan_table.Goals as goal

pub learn-requires : goal.learn-requires
learn-requires c = record {
  news = ap (λ (t : Table). is_news t (table_of t.namespace c.args.self.now.tables.tables)) (sym c.deref.ensures) ∙ sym c.is_news.ensures ∙ c.if-is_news.true;
}

pub returns-clause-planned : goal.returns-clause-planned
returns-clause-planned c = λ m namespace create at body timed.
    let s = shard_view c.args.self.now in
    let planned = c.of_time.ensures in
    quiet_planned s (letter_input m) c.of_time.result (heard s m) (ap (λ t. t.0) planned.time ∙ timed) planned.change planned.records planned.mail
    (shard_known s m namespace create at (Some (arc_value c.args.table)) body
    (ap (λ (t : Table). is_news t (table_of t.namespace s.tables)) (sym c.deref.ensures) ∙ sym c.is_news.ensures ∙ c.if-is_news.false))
