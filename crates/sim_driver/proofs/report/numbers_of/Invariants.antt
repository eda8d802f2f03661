use Rattle.std.proofs.Common.{◌≡◌, ◌++◌, drop}
use Rattle.sim_driver.specs.Scripts.{numbers_of}
use Rattle.sim_driver.proofs.report.numbers_of.Given as goal

-- the numbers of the links before
abbrev pub invariant-links : goal.invariant-links
invariant-links l = l.numbers.items ++ numbers_of (drop l.link-index l.links) ≡ numbers_of l.links
