use Rattle.sim_driver.proofs.NewLinks.{links_next}
use Rattle.sim_driver.proofs.script.new_links.Goals as goal

pub links-preserved : goal.links-preserved
links-preserved c = links_next c.links.number c.links.links.items _ c.new.result c.links.invariant c.new.ensures c.in_ok-push.ensures.items
