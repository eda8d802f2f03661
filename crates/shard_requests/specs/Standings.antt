-- How messages relate to the tables that a shard knows.
use Rattle.std.specs.Prelude.{◌≡◌, ℕ, List, Some, None}
use Rattle.chunk_table.specs.Meanings.{version_view}
use Rattle.chunk_model.specs.Tables.{Table, table_of}
use Rattle.chunk_model.specs.Verdicts.{Verdict, fits, router_is_old, shard_is_old, verdict_of}
use Rattle.node_model.specs.Letters.{Body}
use Rattle.node_model.specs.ShardRows.{Ask, ask_in}
use Rattle.shard_requests.specs.declared.standings.Standing.{Standing}
use Rattle.shard_requests.specs.declared.standings.Standing.TheVariants.{NoAsk, Fits, ShardOld, RouterOld}

-- it requests documents, and this is found in the versions that it was sent with
abbrev pub Finds : ℕ → List Table → Verdict → Body → Type 0
Finds me tables verdict b = (a : Ask) × (ask_in b ≡ Some a) × (verdict_of a.sent me (table_of a.namespace tables) ≡ verdict)

abbrev pub Stands : ℕ → List Table → Standing → Body → Type 0
Stands me tables NoAsk b = ask_in b ≡ None
Stands me tables Fits b = Finds me tables fits b
Stands me tables ShardOld b = Finds me tables shard_is_old b
Stands me tables (RouterOld met) b = Finds me tables (router_is_old (version_view met)) b
