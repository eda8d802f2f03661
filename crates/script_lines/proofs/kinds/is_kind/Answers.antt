use Rattle.script_lines.proofs.KindTexts.{none_among}
use Rattle.script_lines.proofs.kinds.is_kind.Goals as goal

pub returns-in-Err : goal.returns-in-Err
returns-in-Err c = none_among c.args.word.now c.in-Err.ensures.cases.0
