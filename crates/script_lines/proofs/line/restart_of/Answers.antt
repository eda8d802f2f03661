use Rattle.std.proofs.Common.{rules}
use Rattle.script_lines.specs.Lines.{says_restart}
use Rattle.script_lines.proofs.Reading.{first_refused, node_refused}
use Rattle.script_lines.proofs.line.restart_of.Goals as goal

pub returns-in-Some-number_of-clause-says : goal.returns-in-Some-number_of-clause-says
returns-in-Some-number_of-clause-says c = says_restart c.args.rest.now c.in-Some-number_of.node c.in-Some-number_of.ensures.is

pub returns-in-None-clause-refused : goal.returns-in-None-clause-refused
returns-in-None-clause-refused c e other =
    node_refused c.args.rest.now (c.in_default.ensures.none (search rules)) (λ node is. let some = c.in-None.ensures.only node is in absurd (cc some)) other

pub returns-in-None-number_of-clause-refused : goal.returns-in-None-number_of-clause-refused
returns-in-None-number_of-clause-refused c e other =
    first_refused c.args.rest.now _ _ c.in-Some.ensures.found (λ node is. let some = c.in-None-number_of.ensures.only node is in absurd (cc some)) other
