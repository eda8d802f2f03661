use Rattle.std.proofs.Common.{rules}
use Rattle.script_lines.proofs.Reading.{moment_refused}
use Rattle.script_lines.specs.Lines.{says_moment}
use Rattle.script_lines.proofs.line.moment_of.Goals as goal

pub returns-in-None-clause-refused : goal.returns-in-None-clause-refused
returns-in-None-clause-refused c e other = moment_refused c.args.rest.now (c.in-None.ensures.none (search rules)) other

pub returns-in-Some-clause-says : goal.returns-in-Some-clause-says
returns-in-Some-clause-says c = says_moment c.args.rest.now c.in-Some.node c.in-Some.moment c.in-Some.ensures.are
