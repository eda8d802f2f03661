use Rattle.std.proofs.Common.{◌≡◌, ℕ, ◌<◌, ◌++◌, IsTrue, length, take}
use Rattle.std.specs.Prelude.{Some}
use Rattle.std.specs.List.{slice_get}
use Rattle.outside.specs.Logs.{IsDurable}
use Rattle.driver_steps.specs.Seats.{notes_of}
use Rattle.driver_steps.specs.declared.seat.Seat.{Seat}
use Rattle.driver_steps.proofs.notes.note_disks.Given as goal

-- the disks of the first logs were noted
abbrev pub invariant-hosts : goal.invariant-hosts
invariant-hosts g l = record {
  noted : IsTrue g.K.Sink.tells → g.K.Sink.noted l.out ≡ g.K.Sink.noted l.fn.out
      ++ notes_of g.L.Log.facts (length (g.K.Sink.held l.fn.out)) (take l.seat-index l.seat-items);
  held : g.K.Sink.held l.out ≡ g.K.Sink.held l.fn.out;
  faults : g.K.Sink.fault_count l.out ≡ g.K.Sink.fault_count l.fn.out;
  durable : (at : ℕ) (s : Seat g.row.N.Denot g.row.L.Denot) → at < l.seat-index → slice_get l.seat-items at ≡ Some s
      → IsTrue (g.L.Log.facts.is_open s.log) → IsDurable g.L.Log.facts s.log;
}
