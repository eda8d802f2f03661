use Rattle.std.proofs.Common.{rules}
use Rattle.script_lines.proofs.Reading.{deliver_refused}
use Rattle.script_lines.specs.Lines.{says_deliver}
use Rattle.script_lines.proofs.line.deliver_of.Goals as goal

pub returns-in-None-clause-refused : goal.returns-in-None-clause-refused
returns-in-None-clause-refused c e other = deliver_refused c.args.rest.now (c.in-None.ensures.none (search rules)) other

pub returns-in-Some-clause-says : goal.returns-in-Some-clause-says
returns-in-Some-clause-says c = says_deliver c.args.rest.now c.in-Some.node c.in-Some.k c.in-Some.ensures.are
