use Rattle.std.proofs.Common.{◌≡◌, ℕ, List, ◌+◌, ◌≤◌, ◌++◌, length}
use Rattle.std.specs.Prelude.{None, vec_len}
use Rattle.node_model.specs.World.{World}
use Rattle.driver_steps.specs.Crashes.{Since, with_notes}
use Rattle.driver_steps.specs.Seats.{AreOpen, faults_of, places_of, seat_since}
use Rattle.driver_steps.specs.Together.{hosted}
use Rattle.driver_steps.specs.Worlds.{network_view}
use Rattle.pipe_driver.specs.Acknowledgements.{AreNoted, WithNotes}
use Rattle.pipe_driver.specs.Progress.{AreAskedAsRead, Serving}
use Rattle.pipe_driver.specs.Schedules.{MayServe}
use Rattle.pipe_driver.proofs.requests.answer_all.Given as goal

abbrev pub decreases-requests : goal.decreases-requests
decreases-requests g l = length l.framer.bytes

-- the requests that the framer gave were served
abbrev pub invariant-requests : goal.invariant-requests
invariant-requests g l = record {
  len : vec_len l.seats ≡ vec_len l.fn.seats;
  are_open : AreOpen g.L.Log.facts.is_open l.seats.items;
  fed : l.framer.offset + length l.framer.bytes ≡ l.fn.framer.offset + length l.fn.framer.bytes;
  fault : l.framer.fault ≡ None;
  count : l.replied ≤ l.framer.offset;
  sink_calm : g.K.Sink.fault_count l.out ≡ g.K.Sink.fault_count l.fn.out;
  disks_calm : faults_of g.L.Log.facts.fault_count l.seats.items ≡ faults_of g.L.Log.facts.fault_count l.fn.seats.items;
  places : places_of g.L.Log.facts.place l.seats.items ≡ places_of g.L.Log.facts.place l.fn.seats.items;
  served : AreAskedAsRead g.N.Node.asks → (since : Since g.row.L.Denot) (first : World) → MayServe first l.router → (held_before consumed : List ℕ) →
      Serving (seat_since g.N.Node.state g.N.Node.steps g.L.Log.facts since)
      (hosted g.K.Sink.tells g.L.Log.facts since (g.K.Sink.noted l.fn.out) l.fn.seats.items) (network_view (λ m. g.N.Mail.Mail.letter m) l.fn.network)
      (g.C.Clock.gives l.clock) l.router first g.K.Sink.tells since.noted held_before (g.K.Sink.held l.fn.out) consumed l.fn.replied
      → AreNoted g.K.Sink.tells (g.K.Sink.noted l.fn.out) (places_of g.L.Log.facts.place l.fn.seats.items) since.noted
      → WithNotes g.K.Sink.tells (g.K.Sink.noted l.out) (places_of g.L.Log.facts.place l.seats.items)
      (λ noted. (more : List ℕ) × (consumed ++ l.fn.framer.bytes ≡ more ++ l.framer.bytes)
      × Serving (seat_since g.N.Node.state g.N.Node.steps g.L.Log.facts (with_notes since noted))
      (hosted g.K.Sink.tells g.L.Log.facts since (g.K.Sink.noted l.out) l.seats.items) (network_view (λ m. g.N.Mail.Mail.letter m) l.network)
      (g.C.Clock.gives l.clock) l.router first g.K.Sink.tells noted held_before (g.K.Sink.held l.out) more l.replied);
}
