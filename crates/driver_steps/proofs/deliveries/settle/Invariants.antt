use Rattle.std.proofs.Common.{◌≡◌, ℕ, ◌+◌, ◌*◌, ◌^◌, List, IsTrue, map}
use Rattle.std.specs.Prelude.{vec_len}
use Rattle.node_model.specs.World.{World}
use Rattle.node_traits.specs.declared.outputs.ToLink.{ToLink}
use Rattle.driver_steps.specs.Crashes.{Since}
use Rattle.driver_steps.specs.Moves.{costs_of}
use Rattle.driver_steps.specs.Seats.{AreOpen, HasMore, faults_of, left_of, places_of, seat_since}
use Rattle.driver_steps.specs.Together.{hosted}
use Rattle.driver_steps.specs.Worlds.{StandsFor, network_view}
use Rattle.driver_steps.proofs.Runs.{IsSettling}
use Rattle.driver_steps.proofs.deliveries.settle.Given as goal

abbrev pub invariant-messages : goal.invariant-messages
invariant-messages g l = record {
  len : vec_len l.seats ≡ vec_len l.fn.seats;
  are_open : AreOpen g.L.Log.facts.is_open l.seats.items;
  faults : faults_of g.L.Log.facts.fault_count l.seats.items ≡ faults_of g.L.Log.facts.fault_count l.fn.seats.items;
  places : places_of g.L.Log.facts.place l.seats.items ≡ places_of g.L.Log.facts.place l.fn.seats.items;
  held : g.K.Sink.held l.out ≡ g.K.Sink.held l.fn.out;
  sink : g.K.Sink.fault_count l.out ≡ g.K.Sink.fault_count l.fn.out;
  noted : IsTrue g.K.Sink.tells → HasMore (g.K.Sink.noted l.fn.out) (g.K.Sink.noted l.out);
  run : (since : Since g.row.L.Denot) (w : World) (next : ℕ) (handed : List ToLink) → StandsFor
      (seat_since g.N.Node.state g.N.Node.steps g.L.Log.facts since)
      (hosted g.K.Sink.tells g.L.Log.facts since (g.K.Sink.noted l.fn.out) l.fn.seats.items) (network_view (λ m. g.N.Mail.Mail.letter m) l.fn.network) handed w next
      → IsSettling (seat_since g.N.Node.state g.N.Node.steps g.L.Log.facts since) (hosted g.K.Sink.tells g.L.Log.facts since (g.K.Sink.noted l.out) l.seats.items)
      (network_view (λ m. g.N.Mail.Mail.letter m) l.network) handed w next;
}

abbrev pub decreases-messages : goal.decreases-messages
decreases-messages g l = left_of g.N.Node.steps l.seats.items * 2 ^ 66 + costs_of (map (λ m. g.N.Mail.Mail.letter m) l.network.waiting.items)
