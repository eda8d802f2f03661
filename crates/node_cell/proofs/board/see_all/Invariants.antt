use Rattle.std.proofs.Common.{◌≡◌, ◌<◌, ℕ, IsTrue, take}
use Rattle.std.specs.Prelude.{Some, vec_capacity, vec_len}
use Rattle.std.specs.List.{slice_get}
use Rattle.outside.specs.Logs.{IsDurable}
use Rattle.driver_steps.specs.declared.seat.Seat.{Seat}
use Rattle.node_cell.specs.Board.{pairs_of}
use Rattle.node_cell.specs.Views.{sights_of}
use Rattle.node_cell.proofs.board.see_all.Given as goal

abbrev pub invariant-seats : goal.invariant-seats
invariant-seats g l = record {
  seen : pairs_of l.seen.items ≡ sights_of g.L.Log.facts (take l.seat-index l.seat-items);
  len : vec_len l.seen ≡ l.seat-index;
  capacity : vec_capacity l.seen ≡ vec_capacity l.fn.seen;
  durable : (at : ℕ) (s : Seat g.row.N.Denot g.row.L.Denot) → at < l.seat-index → slice_get l.seat-items at ≡ Some s
      → IsTrue (g.L.Log.facts.is_open s.log) → IsDurable g.L.Log.facts s.log;
}
