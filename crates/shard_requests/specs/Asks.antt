-- The requests of the definitions that those of the program are.
use Rattle.chunk_table.specs.VerdictMeanings.{sent_view}
use Rattle.node_model.specs.ShardRows as rows
use Rattle.node_traits.specs.Ids.{id_view}
use Rattle.shard_requests.specs.declared.asks.Ask.{Ask}

abbrev pub ask_view : Ask → rows.Ask
ask_view a = record { id = id_view a.id; turn = a.turn; first = a.first; namespace = a.namespace.now; sent = sent_view a.sent }
