use Rattle.std.proofs.Common.{arith, sym}
use Rattle.command_replies.specs.Kinds.{kind_view}
use Rattle.command_model.specs.Writes.{statement_form}
use Rattle.command_fields.proofs.Copied.{some_sequence}
use Rattle.command_fields.proofs.write_fields.has_documents.Goals as goal

pub returns-in-len1-up : goal.returns-in-len1-up
returns-in-len1-up c =
    some_sequence (statement_form (kind_view c.args.kind)) c.args.document.now c.args.sequences.now (omega (arith, c.in-len1-up.len_at_least)) (sym (rw c.statements_name.ensures at c.in-None.ensures))
