use Rattle.std.proofs.Common.{◌≡◌, ℕ, List, [], ◌+◌, ◌-◌, ◌≤◌, ◌++◌, length}
use Rattle.std.specs.Prelude.{IsTrue, vec_len}
use Rattle.outside.specs.Streams.{Took}
use Rattle.node_model.specs.World.{World}
use Rattle.driver_steps.specs.Crashes.{Since, with_notes}
use Rattle.driver_steps.specs.Restarts.{HaveParts}
use Rattle.driver_steps.specs.Seats.{AreOpen, faults_of, places_of, seat_since}
use Rattle.driver_steps.specs.Together.{hosted}
use Rattle.driver_steps.specs.Worlds.{network_view}
use Rattle.pipe_driver.specs.Acknowledgements.{AreNoted, WithNotes}
use Rattle.pipe_driver.specs.Buffers.{piece_room}
use Rattle.pipe_driver.specs.Progress.{AreAskedAsRead}
use Rattle.script_lines.specs.Words.{HasNone}
use Rattle.sim_driver.specs.Moves.{MayPlay}
use Rattle.sim_driver.specs.Progress.{Playing}
use Rattle.sim_driver.specs.Scripts.{new_script, script_view}
use Rattle.sim_driver.specs.Simulations.{newline, router_count}
use Rattle.sim_driver.proofs.simulation.play_all.Given as goal

abbrev pub decreases-pieces : goal.decreases-pieces
decreases-pieces g l = l.limit - l.taken

-- what was taken is lines that were played, and the beginning of one
abbrev pub invariant-pieces : goal.invariant-pieces
invariant-pieces g l = record {
  most : l.taken ≤ l.limit;
  begun : HasNone newline l.begun.items;
  router : l.script.first_router ≡ l.first_router;
  links : l.first_router + vec_len l.script.links ≡ vec_len l.fn.seats;
  room : vec_len l.piece ≡ piece_room;
  len : vec_len l.seats ≡ vec_len l.fn.seats;
  are_open : AreOpen g.L.Log.facts.is_open l.seats.items;
  source_calm : g.S.Source.fault_count l.input ≡ g.S.Source.fault_count l.fn.input;
  sink_calm : g.K.Sink.fault_count l.out ≡ g.K.Sink.fault_count l.fn.out;
  disks_calm : faults_of g.L.Log.facts.fault_count l.seats.items ≡ faults_of g.L.Log.facts.fault_count l.fn.seats.items;
  places : places_of g.L.Log.facts.place l.seats.items ≡ places_of g.L.Log.facts.place l.fn.seats.items;
  went : AreAskedAsRead g.N.Node.asks → IsTrue g.L.Log.facts.tells → (since : Since g.row.L.Denot) (first : World) → MayPlay l.first_router first → HaveParts
      (g.O.Opens.part l.opener) first.nodes
      → Playing (seat_since g.N.Node.state g.N.Node.steps g.L.Log.facts since)
      (hosted g.K.Sink.tells g.L.Log.facts since (g.K.Sink.noted l.fn.out) l.fn.seats.items) (network_view (λ m. g.N.Mail.Mail.letter m) l.fn.network)
      l.first_router first g.K.Sink.tells since.noted (g.K.Sink.held l.fn.out)
      (g.K.Sink.held l.fn.out) (new_script l.first_router (router_count l.first_router first)) []
      → AreNoted g.K.Sink.tells (g.K.Sink.noted l.fn.out) (places_of g.L.Log.facts.place l.fn.seats.items) since.noted
      → WithNotes g.K.Sink.tells (g.K.Sink.noted l.out) (places_of g.L.Log.facts.place l.seats.items)
      (λ noted. (consumed : List ℕ) × (length consumed + length l.begun.items ≡ l.taken)
      × Took g.S.Source.tells (g.S.Source.left l.fn.input) (consumed ++ l.begun.items) (g.S.Source.left l.input)
      × Playing (seat_since g.N.Node.state g.N.Node.steps g.L.Log.facts (with_notes since noted))
      (hosted g.K.Sink.tells g.L.Log.facts since (g.K.Sink.noted l.out) l.seats.items) (network_view (λ m. g.N.Mail.Mail.letter m) l.network) l.first_router
      first g.K.Sink.tells noted (g.K.Sink.held l.fn.out)
      (g.K.Sink.held l.out)
      (script_view l.script) consumed);
}
