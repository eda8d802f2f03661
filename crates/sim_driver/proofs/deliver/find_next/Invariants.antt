use Rattle.std.proofs.Common.{◌≡◌, ◌-◌, drop, map}
use Rattle.std.specs.VecDeque.{deque_len}
use Rattle.sim_driver.specs.Scripts.{next_from}
use Rattle.sim_driver.proofs.deliver.find_next.Given as goal

abbrev pub decreases-sent : goal.decreases-sent
decreases-sent g l = deque_len l.sent - l.at

-- what was sent before the place was delivered, or is of another kind
abbrev pub invariant-sent : goal.invariant-sent
invariant-sent g l =
    next_from l.at l.kind l.delivered (drop l.at (map (λ m. g.M.Mail.letter m) l.sent.items)) ≡ next_from 0 l.kind l.delivered (map
    (λ m. g.M.Mail.letter m) l.sent.items)
