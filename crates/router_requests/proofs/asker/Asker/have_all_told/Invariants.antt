use Rattle.std.proofs.Common.{◌≡◌, []}
use Rattle.node_model.specs.RouterRequests.{places_from, untold}
use Rattle.router_requests.specs.Works.{numbers_of}
use Rattle.router_requests.proofs.asker.Asker.have_all_told.Given as goal

abbrev pub invariant-loop-i : goal.invariant-loop-i
invariant-loop-i l = untold (numbers_of l.told) (places_from 1 l.i) ≡ []
