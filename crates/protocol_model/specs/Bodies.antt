-- The contents of the program's messages, by the definitions.
use Rattle.std.specs.Prelude.{map, Result, Ok, Err}
use Rattle.std.specs.Arc.{arc_value}
use Rattle.std.specs.Option.{option_map}
use Rattle.chunk_table.specs.VerdictMeanings.{sent_view}
use Rattle.command_replies.specs.Kinds.{given_view}
use Rattle.node_traits.specs.Ids.{id_view}
use Rattle.pipeline_model.specs.Halves as halves
use Rattle.pipeline_lang.specs.Halves.{half_of}
use Rattle.pipeline_eval.specs.Rows.{rows_of}
use Rattle.pipeline_eval.specs.declared.rows.Rows.{Rows}
use Rattle.node_model.specs.Letters as letters
use Rattle.node_model.specs.Letters.{half_overflow, half_excess, table_ask, table_told, split_ask, split_done, write_ask, write_done, read_ask, half_ask, read_rows, time_ask, time_told}
use Rattle.protocol_model.specs.declared.tables.TableAsk.{TableAsk}
use Rattle.protocol_model.specs.declared.tables.TableTold.{TableTold}
use Rattle.protocol_model.specs.declared.splits.SplitAsk.{SplitAsk}
use Rattle.protocol_model.specs.declared.splits.SplitDone.{SplitDone}
use Rattle.protocol_model.specs.declared.writes.WriteAsk.{WriteAsk}
use Rattle.protocol_model.specs.declared.writes.WriteDone.{WriteDone}
use Rattle.protocol_model.specs.declared.reads.HalfFault.{HalfFault}
use Rattle.protocol_model.specs.declared.reads.HalfFault.TheVariants.{Overflow, TooMuch}
use Rattle.protocol_model.specs.declared.reads.ReadAsk.{ReadAsk}
use Rattle.protocol_model.specs.declared.reads.HalfAsk.{HalfAsk}
use Rattle.protocol_model.specs.declared.reads.ReadRows.{ReadRows}
use Rattle.protocol_model.specs.declared.reads.TimeAsk.{TimeAsk}
use Rattle.protocol_model.specs.declared.reads.TimeTold.{TimeTold}
use Rattle.protocol_model.specs.declared.body.Body.{Body}
use Rattle.protocol_model.specs.declared.body.Body.TheVariants as bodies
use Rattle.protocol_model.specs.Refusals.{refused_view}
use Rattle.protocol_model.specs.Statements.{done_view, statement_view}
use Rattle.protocol_model.specs.Tables.{at_view}

abbrev pub half_fault_view : HalfFault → letters.HalfFault
half_fault_view Overflow = half_overflow
half_fault_view (TooMuch bytes) = half_excess bytes

abbrev pub rows_view : Result Rows HalfFault → Result halves.Rows letters.HalfFault
rows_view (Ok rows) = Ok (rows_of rows)
rows_view (Err fault) = Err (half_fault_view fault)

abbrev pub table_ask_view : TableAsk → letters.Body
table_ask_view a = table_ask a.namespace a.create (at_view a.at)

abbrev pub table_told_view : TableTold → letters.Body
table_told_view t = table_told t.namespace t.create (at_view t.at) (option_map (λ table. arc_value table) t.table)

abbrev pub split_ask_view : SplitAsk → letters.Body
split_ask_view a = split_ask (id_view a.id) a.namespace a.middle

abbrev pub split_done_view : SplitDone → letters.Body
split_done_view d = split_done (id_view d.id) d.found

abbrev pub write_ask_view : WriteAsk → letters.Body
write_ask_view a =
    write_ask (id_view a.id) a.turn a.ordered a.namespace (map (statement_view (given_view a.number) (id_view a.id)) a.statements.items)
    (sent_view a.sent)

abbrev pub write_done_view : WriteDone → letters.Body
write_done_view d = write_done (id_view d.id) (map done_view d.dones.items)

abbrev pub read_ask_view : ReadAsk → letters.Body
read_ask_view a = read_ask (id_view a.id) a.turn a.namespace a.at.0 (half_of (arc_value a.half)) (sent_view a.sent)

abbrev pub half_ask_view : HalfAsk → letters.Body
half_ask_view a = half_ask (id_view a.id) a.turn a.namespace a.at.0 (half_of (arc_value a.half)) (map (λ d. arc_value d) a.documents.items)

abbrev pub read_rows_view : ReadRows → letters.Body
read_rows_view r = read_rows (id_view r.id) r.turn (rows_view r.rows)

abbrev pub time_ask_view : TimeAsk → letters.Body
time_ask_view a = time_ask (id_view a.id)

abbrev pub time_told_view : TimeTold → letters.Body
time_told_view t = time_told (id_view t.id)

abbrev pub body_view : Body → letters.Body
body_view (bodies.TableAsk ask) = table_ask_view ask
body_view (bodies.TableTold told) = table_told_view told
body_view (bodies.SplitAsk ask) = split_ask_view ask
body_view (bodies.SplitDone done) = split_done_view done
body_view (bodies.WriteAsk ask) = write_ask_view ask
body_view (bodies.WriteDone done) = write_done_view done
body_view (bodies.ReadAsk ask) = read_ask_view ask
body_view (bodies.HalfAsk ask) = half_ask_view ask
body_view (bodies.ReadRows rows) = read_rows_view rows
body_view (bodies.Refused refused) = refused_view refused
body_view (bodies.TimeAsk ask) = time_ask_view ask
body_view (bodies.TimeTold told) = time_told_view told
