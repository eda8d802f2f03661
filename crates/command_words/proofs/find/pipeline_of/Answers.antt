use Rattle.command_words.proofs.WordRules.{find_parts}
use Rattle.command_words.proofs.find.pipeline_of.Goals as goal

pub returns : goal.returns
returns c = λ are.
    rw (c.of.ensures, c.in_ok-put_word-3.ensures, c.in_ok-put_numbers.ensures, c.in_ok-put_word-2.ensures, c.in_ok-put_word.ensures, c.new-stages.ensures.items) (find_parts c.args.words c.args.document.now are)
