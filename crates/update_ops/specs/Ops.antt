-- Statements of the program, and their effects, as plain data.
use Rattle.std.specs.Prelude.{Result}
use Rattle.value_compare.specs.declared.words.OpWords.{OpWords}
use Rattle.value_compare.specs.declared.words.OpWords.TheVariants as words
use Rattle.query_model.specs.Queries.{QueryFault}
use Rattle.query_model.specs.Writes.{Write, insert_write, update_write, delete_write, read_insert, read_update, read_delete}
use Rattle.query_model.specs.Effects.{Effect}
use Rattle.update_ops.specs.declared.statement.Op.{Op}
use Rattle.update_ops.specs.declared.statement.Op.TheVariants.{Insert, Update, Delete}
use Rattle.update_ops.specs.declared.effect.Applied.{Applied}
use Rattle.update_ops.specs.View.{change_of}

abbrev pub write_of : Op → Write
write_of (Insert document) = insert_write document
write_of (Update filter change upsert) = update_write filter (change_of change) upsert
write_of (Delete filter) = delete_write filter

-- the write that the operands read as, or the first fault
abbrev pub read_words : OpWords → Result Write QueryFault
read_words (words.Insert document) = read_insert document
read_words (words.Update filter change upsert) = read_update filter change upsert
read_words (words.Delete filter) = read_delete filter

abbrev pub effect_shown : Applied → Effect
effect_shown a = record { after = a.after; count = a.reply.n; modified = a.reply.modified; upserted = a.reply.upserted }
