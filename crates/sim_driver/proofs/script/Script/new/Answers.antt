use Rattle.std.proofs.Common.{◌∙◌, List, ap, arith, length}
use Rattle.sim_driver.specs.Links.{LinkView}
use Rattle.sim_driver.proofs.NewLinks.{links_count}
use Rattle.sim_driver.proofs.script.Script.new.Goals as goal

pub returns-in-Ok-new_links-clause-links : goal.returns-in-Ok-new_links-clause-links
returns-in-Ok-new_links-clause-links c =
    let all = ap (λ (l : List LinkView). length l) c.in-Ok-new_links.ensures ∙ links_count 0 c.in-Ok.opened in
    omega (arith, all, c.in-Ok-new_links.links.ok.0, c.in-Ok.ensures)
