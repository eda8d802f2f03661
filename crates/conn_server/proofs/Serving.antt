-- What was served, from the same start under another name; and counts that rose.
use Rattle.std.proofs.Common.{◌≡◌, ℕ, ◌≤◌, List, subst, arith}
use Rattle.outside.specs.Causes.{Rose}
use Rattle.outside.specs.declared.exchange.Spoken.{Spoken}
use Rattle.driver_steps.specs.declared.seat.Seat.{Seat}
use Rattle.node_cell.specs.declared.view.Placed.{Placed}
use Rattle.node_cell.specs.Courses.{NodeFacts}
use Rattle.conn_server.specs.Conversations.{AreServed, LinkFacts}

pub served_as : {N L M I S : Type 0} (f : NodeFacts N L M I) (bytes : LinkFacts S) (routers other : ℕ) (seats others : List (Seat N L)) (ended : List (Placed N L))
    (links : List (Spoken S)) → routers ≡ other → seats ≡ others → AreServed f bytes routers seats ended links → AreServed f bytes other others ended links
served_as {N} {L} {M} {I} {S} f bytes routers other seats others ended links same both served =
    subst (λ (k : ℕ). AreServed f bytes k others ended links) same (subst (λ (l : List (Seat N L)). AreServed f bytes routers l ended links) both served)

-- a count that did not fall and then rose rose
pub rose_since : (before between after : ℕ) → before ≤ between → Rose between after → Rose before after
rose_since before between after later rose = omega arith
