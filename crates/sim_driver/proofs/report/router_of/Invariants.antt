use Rattle.std.proofs.Common.{◌≡◌, drop}
use Rattle.sim_driver.specs.Scripts.{router_from}
use Rattle.sim_driver.proofs.report.router_of.Given as goal

-- those before have another link
abbrev pub invariant-numbers : goal.invariant-numbers
invariant-numbers l = router_from l.router (drop l.router l.numbers) l.number ≡ router_from 0 l.numbers l.number
