-- Requests that read, to try the definitions on.
use Rattle.std.specs.Prelude.{ℕ, List, [], ◌∷◌, map, Option, None, Result, false, codes}
use Rattle.bson_model.specs.Tree.{Datum, string_value, document_value, array_value, timestamp_value, no_items, Fields, no_fields, field, joined}
use Rattle.opmsg_model.specs.Requests.{Request}
use Rattle.base_model.specs.Refusals.{Refusal}
use Rattle.pipeline_model.specs.Stages.{Stage}
use Rattle.command_model.specs.Reading.{Reading}
use Rattle.command_model.specs.Command.{Command, find_command, command_of}
use Rattle.command_laws.specs.SampleCommands.{database_d, message, number_one}

-- {name: value}
abbrev pub only : List ℕ → Datum → Fields
only name value = field name value no_fields

-- {find: "c", .., $db: "d"} and the like
abbrev pub find_with : Fields → Request
find_with more = message (field (codes "find") (string_value (codes "c")) (joined more database_d))

abbrev pub aggregate_with : Fields → Request
aggregate_with more = message (field (codes "aggregate") (string_value (codes "c")) (joined more database_d))

abbrev pub count_with : Fields → Request
count_with more = message (field (codes "count") (string_value (codes "c")) (joined more database_d))

abbrev pub more_with : Datum → Fields → Request
more_with cursor more = message (field (codes "getMore") cursor (joined more database_d))

abbrev pub kill_with : Fields → Request
kill_with more = message (field (codes "killCursors") (string_value (codes "c")) (joined more database_d))

-- pipeline: [], cursor: {}, ..
abbrev pub plain_pipeline : Fields → Fields
plain_pipeline more = field (codes "pipeline") (array_value no_items) (field (codes "cursor") (document_value no_fields) more)

-- readConcern: {..}
abbrev pub concern : Fields → Fields
concern ms = only (codes "readConcern") (document_value ms)

-- level: level, atClusterTime: Timestamp(0, 7)
abbrev pub at_seven : Datum → Fields
at_seven level = field (codes "level") level (only (codes "atClusterTime") (timestamp_value 7))

-- the five requests that read, with one more field
abbrev pub five_with : List ℕ → Datum → List Request
five_with name value =
    find_with (only name value)
    ∷ aggregate_with (plain_pipeline (only name value))
    ∷ count_with (only name value)
    ∷ more_with number_one (field (codes "collection") (string_value (codes "c")) (only name value))
    ∷ kill_with (field (codes "cursors") (array_value no_items) (only name value))
    ∷ []

-- finds with one of four options
abbrev pub four_with : Datum → List Request
four_with value =
    find_with (only (codes "returnKey") value)
    ∷ find_with (only (codes "showRecordId") value)
    ∷ find_with (only (codes "tailable") value)
    ∷ find_with (only (codes "awaitData") value)
    ∷ []

abbrev pub told_each : List Request → List (Result Command Refusal)
told_each requests = map command_of requests

-- a read of d.c
abbrev pub read_of : List Stage → (at after : Option ℕ) → Reading
read_of stages at after = record { namespace = codes "d.c"; stages = stages; at = at; after = after }

-- the same in batches of any size
abbrev pub found : List Stage → (at after : Option ℕ) → Command
found stages at after = find_command (record { reading = read_of stages at after; batches = record { size = None; single = false } })
