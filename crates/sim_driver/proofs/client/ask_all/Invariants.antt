use Rattle.std.proofs.Common.{◌≡◌, List, IsTrue, length}
use Rattle.std.specs.Prelude.{None, vec_len}
use Rattle.node_model.specs.World.{IsRouter, World}
use Rattle.node_traits.specs.declared.outputs.ToLink.{ToLink}
use Rattle.driver_steps.specs.Crashes.{Since}
use Rattle.driver_steps.specs.Seats.{AreOpen, HasMore, faults_of, places_of, seat_since}
use Rattle.driver_steps.specs.Together.{hosted}
use Rattle.driver_steps.specs.Worlds.{StandsFor, network_view}
use Rattle.pipe_driver.specs.Progress.{AreAskedAsRead}
use Rattle.sim_driver.proofs.Asks.{AreAsking}
use Rattle.sim_driver.proofs.client.ask_all.Given as goal

abbrev pub decreases-requests : goal.decreases-requests
decreases-requests g l = length l.framer.bytes

abbrev pub invariant-requests : goal.invariant-requests
invariant-requests g l = record {
  len : vec_len l.seats ≡ vec_len l.fn.seats;
  are_open : AreOpen g.L.Log.facts.is_open l.seats.items;
  fault : l.framer.fault ≡ None;
  disks_calm : faults_of g.L.Log.facts.fault_count l.seats.items ≡ faults_of g.L.Log.facts.fault_count l.fn.seats.items;
  places : places_of g.L.Log.facts.place l.seats.items ≡ places_of g.L.Log.facts.place l.fn.seats.items;
  held : g.K.Sink.held l.out ≡ g.K.Sink.held l.fn.out;
  sink : g.K.Sink.fault_count l.out ≡ g.K.Sink.fault_count l.fn.out;
  noted : IsTrue g.K.Sink.tells → HasMore (g.K.Sink.noted l.fn.out) (g.K.Sink.noted l.out);
  went : AreAskedAsRead g.N.Node.asks → (since : Since g.row.L.Denot) (w : World) (handed : List ToLink) → IsRouter w.nodes l.at
      → StandsFor (seat_since g.N.Node.state g.N.Node.steps g.L.Log.facts since)
      (hosted g.K.Sink.tells g.L.Log.facts since (g.K.Sink.noted l.fn.out) l.fn.seats.items)
      (network_view (λ m. g.N.Mail.Mail.letter m) l.fn.network) handed w 0
      → AreAsking (seat_since g.N.Node.state g.N.Node.steps g.L.Log.facts since) (hosted g.K.Sink.tells g.L.Log.facts since
      (g.K.Sink.noted l.out) l.seats.items)
      (network_view (λ m. g.N.Mail.Mail.letter m) l.network) handed w l.at l.link l.fn.replied l.fn.framer.bytes l.framer.bytes l.replied;
}
