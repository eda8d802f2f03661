use Rattle.std.proofs.Common.{rules}
use Rattle.script_lines.proofs.Cuts.{no_cut, numbers_cut}
use Rattle.script_lines.proofs.words.numbers_of.Goals as goal

pub returns-in_default-clause-none : goal.returns-in_default-clause-none
returns-in_default-clause-none c e m n are = no_cut 32 c.args.words.now are.first are.second (c.in_default.ensures.none (search rules)) are.whole

pub returns-in_default-number_of-clause-none : goal.returns-in_default-number_of-clause-none
returns-in_default-number_of-clause-none c e m n are =
    c.in_default-number_of.not-Some m (c.number_of.ensures.only m (numbers_cut c.args.words.now _ _ m n c.in-Some.ensures.found are).0)

pub returns-in-None-clause-none : goal.returns-in-None-clause-none
returns-in-None-clause-none c e m n are =
    let is = c.in-None.ensures.only n (numbers_cut c.args.words.now _ _ m n c.in-Some.ensures.found are).1 in absurd (cc is)
