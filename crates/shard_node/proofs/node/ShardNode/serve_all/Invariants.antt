use Rattle.std.proofs.Common.{◌≡◌, ◌<◌, ◌+◌, [], drop, length, map}
use Rattle.command_replies.specs.Kinds.{given_view}
use Rattle.node_model.specs.Lacks.{last_time}
use Rattle.node_traits.specs.Ids.{id_view}
use Rattle.protocol_model.specs.Statements.{done_view, statement_view}
use Rattle.shard_store.specs.Plans.{IsPlan, made_by, planned_in, time_of}
use Rattle.shard_store.specs.Stores.{entries_of, last_of}
use Rattle.shard_node.specs.Progress.{GoesOn}
use Rattle.shard_node.specs.Writes.{AreKept}
use Rattle.shard_node.proofs.node.ShardNode.serve_all.Given as goal

abbrev pub invariant-loop-statement : goal.invariant-loop-statement
invariant-loop-statement l = record {
  plan : IsPlan (entries_of l.self.store) (last_of l.self.store) l.ask.namespace l.entries;
  id : l.entries.id ≡ l.ask.id;
  number : l.entries.number ≡ l.ask.number;
  early : time_of l.entries < last_time + length l.all.dones.items;
  first : l.all.dones.items ≡ [] → planned_in l.entries ≡ [];
  begun : l.all.dones.items ≡ [] → l.statement-index ≡ 0;
  kept : AreKept (made_by l.self.me.0 l.ask.namespace l.entries) l.all.records.items;
  goes : GoesOn l.self.me.0 l.ask.namespace l.ask.ordered (entries_of l.self.store) (time_of l.fn.entries) (map (statement_view (given_view l.ask.number) (id_view l.ask.id)) l.ask.statements.items)
      (map (statement_view (given_view l.ask.number) (id_view l.ask.id)) (drop l.statement-index l.statement-items)) (map (λ d. done_view d) l.all.dones.items)
      (made_by l.self.me.0 l.ask.namespace l.entries) (time_of l.entries);
}
