use Rattle.chunk_table.proofs.ShardPlaces.{added}
use Rattle.chunk_table.proofs.span_targets.add_shard.Goals as goal

pub returns-in_ok-insert : goal.returns-in_ok-insert
returns-in_ok-insert c = added c.args.found.now.items c.deref.result.now c.insert.new.self.items c.in-Some.place c.args.shard c.deref.ensures.value c.in-Some.ensures.1 c.in_ok-insert.ensures.items
