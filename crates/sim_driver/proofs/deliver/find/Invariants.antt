use Rattle.std.proofs.Common.{◌≡◌, drop, map}
use Rattle.sim_driver.specs.Scripts.{place_from}
use Rattle.sim_driver.proofs.deliver.find.Given as goal

-- what comes before the place is passed
abbrev pub invariant-sent : goal.invariant-sent
invariant-sent g l =
    place_from l.at l.node l.left (drop l.at (map (λ m. g.M.Mail.letter m) l.sent.items)) ≡ place_from 0 l.node l.k (map
    (λ m. g.M.Mail.letter m) l.sent.items)
