use Rattle.std.proofs.Common.{◌∙◌, sym}
use Rattle.command_words.proofs.WordRules.{find_behind}
use Rattle.command_words.proofs.find.FindFormCommandForm.read_fields.Goals as goal

pub returns-in-Some : goal.returns-in-Some
returns-in-Some c = λ own value others named is. sym (find_behind c.in_ok-words.words c.args.document.now own value others c.in_ok-words.ensures is) ∙ sym (c.in-Some.ensures own value others is)

pub returns-in-None : goal.returns-in-None
returns-in-None c = λ own value others named is. (sym (find_behind c.in_ok-words.words c.args.document.now own value others c.in_ok-words.ensures is) ∙ sym (c.in-None.ensures own value others is), c.in_ok-words.ensures)
