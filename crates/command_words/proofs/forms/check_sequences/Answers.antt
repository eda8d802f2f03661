use Rattle.std.proofs.Common.{arith}
use Rattle.command_model.specs.Fields.{names_of}
use Rattle.command_words.proofs.Sequences.{two_known}
use Rattle.command_words.proofs.forms.check_sequences.Goals as goal

pub returns-in-None : goal.returns-in-None
returns-in-None g c = two_known (g.F.CommandForm.form c.args.form.now).sequence (names_of c.args.document.now) c.args.sequences.now c.first-item-2.result (omega (arith, c.in-len2-up.len_at_least)) c.first-item-2.is c.in-None.ensures
