-- What the journal of a router says of it.
use Rattle.std.specs.Prelude.{◌≡◌, Bool, true, false, Option, Some, None}
use Rattle.record_model.specs.Records.{Record, life_record, block_record}
use Rattle.node_replay.specs.Durable.{DurableRouter}
use Rattle.node_replay.specs.Follow.{router_follow}
use Rattle.router_replay.specs.declared.part.RouterPart.{RouterPart}
use Rattle.router_replay.specs.declared.kind.RouterRecord.{RouterRecord}
use Rattle.router_replay.specs.declared.kind.RouterRecord.TheVariants.{Life, Block, Other}

abbrev pub part_of : RouterPart → DurableRouter
part_of p = record { me = p.me.0; shards = p.shards; life = p.life; blocks = p.blocks }

-- whether a record followed, and what it led to
abbrev pub Leads : Option DurableRouter → DurableRouter → Bool → Type 0
Leads after part true = after ≡ Some part
Leads after part false = after ≡ None

-- what the record is, and that no record of another node may follow
abbrev pub IsKind : Record → RouterRecord → Type 0
IsKind r (Life number) = r ≡ life_record number
IsKind r (Block number) = r ≡ block_record number
IsKind r Other = (d : DurableRouter) → router_follow d r ≡ None
