use Rattle.std.proofs.Common.{◌∙◌, sym}
use Rattle.command_fields.specs.Words.{word_view}
use Rattle.command_words.proofs.WordRules.{count_behind}
use Rattle.command_words.proofs.count.CountFormCommandForm.read_fields.Goals as goal

pub returns-in-Some : goal.returns-in-Some
returns-in-Some c = λ own value others named is. sym (count_behind (word_view c.in_ok-query.query) c.args.document.now own value others c.in_ok-query.ensures is) ∙ sym (c.in-Some.ensures own value others is)

pub returns-in-None : goal.returns-in-None
returns-in-None c = λ own value others named is. (sym (count_behind (word_view c.in_ok-query.query) c.args.document.now own value others c.in_ok-query.ensures is) ∙ sym (c.in-None.ensures own value others is), c.in_ok-query.ensures)
