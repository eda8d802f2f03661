-- Requests to the database `admin`, to try the definitions on.
use Rattle.std.specs.Prelude.{ℕ, List, codes}
use Rattle.bson_model.specs.Tree.{Datum, string_value, document_value, Fields, joined}
use Rattle.opmsg_model.specs.Requests.{Request}
use Rattle.command_laws.specs.SampleCommands.{id_only, message, number_one}
use Rattle.command_laws.specs.SampleReads.{only}

-- {name: own, .., $db: database}
abbrev pub sent_to : (database name : List ℕ) → (own : Datum) → Fields → Request
sent_to database name own more = message (joined (only name own) (joined more (only (codes "$db") (string_value database))))

-- {shardCollection: own, .., $db: "admin"}
abbrev pub shard_with : (own : Datum) → Fields → Request
shard_with own more = sent_to (codes "admin") (codes "shardCollection") own more

-- {split: "d.c", .., $db: "admin"}
abbrev pub split_with : Fields → Request
split_with more = sent_to (codes "admin") (codes "split") (string_value (codes "d.c")) more

abbrev pub named_dc : Datum
named_dc = string_value (codes "d.c")

-- {key: {_id: 1}}
abbrev pub by_id : Fields
by_id = only (codes "key") (document_value (id_only number_one))

-- {middle: {_id: value}}
abbrev pub at_value : Datum → Fields
at_value value = only (codes "middle") (document_value (id_only value))
