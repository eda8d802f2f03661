use Rattle.std.proofs.Common.{◌≡◌, ℕ, List, ◌++◌, length}
use Rattle.std.specs.Prelude.{IsTrue, vec_len}
use Rattle.node_model.specs.World.{World}
use Rattle.driver_steps.specs.Crashes.{Since, with_notes}
use Rattle.driver_steps.specs.Restarts.{HaveParts}
use Rattle.driver_steps.specs.Seats.{AreOpen, faults_of, places_of, seat_since}
use Rattle.driver_steps.specs.Together.{hosted}
use Rattle.driver_steps.specs.Worlds.{network_view}
use Rattle.pipe_driver.specs.Acknowledgements.{AreNoted, WithNotes}
use Rattle.pipe_driver.specs.Progress.{AreAskedAsRead}
use Rattle.script_lines.specs.Words.{HasNone}
use Rattle.sim_driver.specs.Moves.{MayPlay}
use Rattle.sim_driver.specs.Progress.{Playing}
use Rattle.sim_driver.specs.Scripts.{script_view}
use Rattle.sim_driver.specs.Simulations.{newline}
use Rattle.sim_driver.proofs.lines.play_piece.Given as goal

abbrev pub decreases-lines : goal.decreases-lines
decreases-lines g l = length l.rest

-- the lines that ended were played
abbrev pub invariant-lines : goal.invariant-lines
invariant-lines g l = record {
  begun : HasNone newline l.begun.items;
  len : vec_len l.seats ≡ vec_len l.fn.seats;
  are_open : AreOpen g.L.Log.facts.is_open l.seats.items;
  router : l.script.first_router ≡ l.fn.script.first_router;
  links : vec_len l.script.links ≡ vec_len l.fn.script.links;
  sink_calm : g.K.Sink.fault_count l.out ≡ g.K.Sink.fault_count l.fn.out;
  disks_calm : faults_of g.L.Log.facts.fault_count l.seats.items ≡ faults_of g.L.Log.facts.fault_count l.fn.seats.items;
  places : places_of g.L.Log.facts.place l.seats.items ≡ places_of g.L.Log.facts.place l.fn.seats.items;
  went : AreAskedAsRead g.N.Node.asks → IsTrue g.L.Log.facts.tells → (since : Since g.row.L.Denot) (first_router : ℕ) (first : World)
      → MayPlay first_router first → HaveParts (g.O.Opens.part l.opener) first.nodes →
      (held_before consumed : List ℕ) →
      Playing (seat_since g.N.Node.state g.N.Node.steps g.L.Log.facts since)
      (hosted g.K.Sink.tells g.L.Log.facts since (g.K.Sink.noted l.fn.out) l.fn.seats.items) (network_view (λ m. g.N.Mail.Mail.letter m) l.fn.network)
      first_router first g.K.Sink.tells since.noted held_before
      (g.K.Sink.held l.fn.out)
      (script_view l.fn.script) consumed
      → AreNoted g.K.Sink.tells (g.K.Sink.noted l.fn.out) (places_of g.L.Log.facts.place l.fn.seats.items) since.noted
      → WithNotes g.K.Sink.tells (g.K.Sink.noted l.out) (places_of g.L.Log.facts.place l.seats.items)
      (λ noted. (more : List ℕ) × (consumed ++ (l.fn.begun.items ++ l.piece) ≡ more ++ (l.begun.items ++ l.rest))
      × Playing (seat_since g.N.Node.state g.N.Node.steps g.L.Log.facts (with_notes since noted))
      (hosted g.K.Sink.tells g.L.Log.facts since (g.K.Sink.noted l.out) l.seats.items) (network_view (λ m. g.N.Mail.Mail.letter m) l.network) first_router
      first g.K.Sink.tells noted held_before (g.K.Sink.held l.out)
      (script_view l.script) more);
}
