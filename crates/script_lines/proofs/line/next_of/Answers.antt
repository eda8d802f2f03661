use Rattle.std.proofs.Common.{rules}
use Rattle.script_lines.proofs.Reading.{next_refused, next_said}
use Rattle.script_lines.proofs.line.next_of.Goals as goal

pub returns-in-Ok-clause-says : goal.returns-in-Ok-clause-says
returns-in-Ok-clause-says c = next_said c.args.rest.now c.in-Ok.kind.items c.in-Ok.ensures.is.0 c.in-Ok.ensures.is.1

pub returns-in-Err-clause-refused : goal.returns-in-Err-clause-refused
returns-in-Err-clause-refused c e other = next_refused c.args.rest.now (λ is. c.in-Err.ensures.refused (search rules) is) other
