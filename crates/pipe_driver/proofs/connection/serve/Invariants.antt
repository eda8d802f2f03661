use Rattle.std.proofs.Common.{◌≡◌, ℕ, List, [], ◌+◌, ◌-◌, ◌≤◌, ◌++◌, length}
use Rattle.std.specs.Prelude.{None, vec_len}
use Rattle.outside.specs.Streams.{Took}
use Rattle.opmsg_frames.specs.Outline.{outline, partial_outline}
use Rattle.node_model.specs.World.{World}
use Rattle.driver_steps.specs.Crashes.{Since, with_notes}
use Rattle.driver_steps.specs.Seats.{AreOpen, faults_of, places_of, seat_since}
use Rattle.driver_steps.specs.Together.{hosted}
use Rattle.driver_steps.specs.Worlds.{network_view}
use Rattle.pipe_driver.specs.Acknowledgements.{AreNoted, WithNotes}
use Rattle.pipe_driver.specs.Buffers.{piece_room}
use Rattle.pipe_driver.specs.Progress.{AreAskedAsRead, Serving}
use Rattle.pipe_driver.specs.Schedules.{MayServe}
use Rattle.pipe_driver.proofs.connection.serve.Given as goal

abbrev pub decreases-pieces : goal.decreases-pieces
decreases-pieces g l = l.limit - l.taken

-- what was taken is requests that were served, and what the framer has left, which begins no whole one
abbrev pub invariant-pieces : goal.invariant-pieces
invariant-pieces g l = record {
  most : l.taken ≤ l.limit;
  partial : outline l.framer.bytes ≡ partial_outline;
  fed : l.framer.offset + length l.framer.bytes ≡ l.taken;
  fault : l.framer.fault ≡ None;
  count : l.puts ≤ l.framer.offset;
  room : vec_len l.piece ≡ piece_room;
  len : vec_len l.seats ≡ vec_len l.fn.seats;
  are_open : AreOpen g.L.Log.facts.is_open l.seats.items;
  source_calm : g.S.Source.fault_count l.input ≡ g.S.Source.fault_count l.fn.input;
  sink_calm : g.K.Sink.fault_count l.out ≡ g.K.Sink.fault_count l.fn.out;
  disks_calm : faults_of g.L.Log.facts.fault_count l.seats.items ≡ faults_of g.L.Log.facts.fault_count l.fn.seats.items;
  places : places_of g.L.Log.facts.place l.seats.items ≡ places_of g.L.Log.facts.place l.fn.seats.items;
  went : AreAskedAsRead g.N.Node.asks → (since : Since g.row.L.Denot) (first : World) → MayServe first l.router
      → Serving (seat_since g.N.Node.state g.N.Node.steps g.L.Log.facts since)
      (hosted g.K.Sink.tells g.L.Log.facts since (g.K.Sink.noted l.fn.out) l.fn.seats.items) (network_view (λ m. g.N.Mail.Mail.letter m) l.fn.network)
      (g.C.Clock.gives l.clock) l.router first g.K.Sink.tells since.noted (g.K.Sink.held l.fn.out) (g.K.Sink.held l.fn.out) [] 0
      → AreNoted g.K.Sink.tells (g.K.Sink.noted l.fn.out) (places_of g.L.Log.facts.place l.fn.seats.items) since.noted
      → WithNotes g.K.Sink.tells (g.K.Sink.noted l.out) (places_of g.L.Log.facts.place l.seats.items)
      (λ noted. (consumed : List ℕ) × (length consumed + length l.framer.bytes ≡ l.taken)
      × Took g.S.Source.tells (g.S.Source.left l.fn.input) (consumed ++ l.framer.bytes) (g.S.Source.left l.input)
      × Serving (seat_since g.N.Node.state g.N.Node.steps g.L.Log.facts (with_notes since noted))
      (hosted g.K.Sink.tells g.L.Log.facts since (g.K.Sink.noted l.out) l.seats.items) (network_view (λ m. g.N.Mail.Mail.letter m) l.network)
      (g.C.Clock.gives l.clock) l.router first g.K.Sink.tells noted (g.K.Sink.held l.fn.out) (g.K.Sink.held l.out) consumed l.puts);
}
