use Rattle.std.proofs.Common.{◌≡◌}
use Rattle.sim_driver.specs.Scripts.{links_from}
use Rattle.sim_driver.proofs.script.new_links.Given as goal

abbrev pub invariant-links : goal.invariant-links
invariant-links l = l.links.items ≡ links_from 0 l.number
