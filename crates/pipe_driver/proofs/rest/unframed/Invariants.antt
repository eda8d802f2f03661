use Rattle.std.proofs.Common.{length}
use Rattle.bson_values.specs.Grammar.{AreBytes}
use Rattle.pipe_driver.proofs.RestLengths.{Leads}
use Rattle.pipe_driver.proofs.rest.unframed.Given as goal

abbrev pub decreases-loop-whole : goal.decreases-loop-whole
decreases-loop-whole l = length l.rest

-- only whole requests were passed
abbrev pub invariant-loop-whole : goal.invariant-loop-whole
invariant-loop-whole l = Leads l.bytes l.rest × AreBytes l.rest
