use Rattle.std.proofs.Common.{arith}
use Rattle.std.proofs.lemmas.Str.Pattern.{strip_prefix_char}
use Rattle.projection.proofs.RulesRead.{not_computed}
use Rattle.projection.proofs.parser.parse_computed.Goals as goal

pub returns-in_default : goal.returns-in_default
returns-in_default c =
    let none = rw c.in_default.is at (strip_prefix_char 36 c.args.text.now c.strip_prefix.result c.strip_prefix.ensures.cases (omega arith)) in
    record { gives = not_computed c.args.text.now none }
