use Rattle.command_fields.specs.Verdicts.{verdict_view}
use Rattle.command_words.proofs.Middles.{middle_read}
use Rattle.command_words.proofs.split.SplitFormCommandForm.read_fields.Goals as goal

pub returns : goal.returns
returns c = λ own value others named is.
    middle_read own value others c.args.document.now c.passed.result (verdict_view c.check_behind_own.result) named is (c.check_behind_own.ensures own value others is) c.passed.ensures
