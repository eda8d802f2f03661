use Rattle.std.proofs.Common.{◌≡◌}
use Rattle.std.specs.Prelude.{vec_len}
use Rattle.node_cell.specs.Standing.{IsPart}
use Rattle.node_cell.proofs.Closing.{Joined}
use Rattle.node_cell.specs.Views.{IsFree}
use Rattle.node_cell.proofs.close.learn.Given as goal

abbrev pub invariant-notes : goal.invariant-notes
invariant-notes g l = record {
  table : l.pass.table_id ≡ g.K.Numbering.table;
  free : IsFree l.pass.me;
  held : l.pass.me.0.held ≡ l.fn.pass.me.0.held;
  kept : IsPart l.fn.pass.me.0 l.pass.me.0;
  joined : Joined l.fn.notes.items l.notes.items l.pass.me.0;
}

abbrev pub decreases-notes : goal.decreases-notes
decreases-notes g l = vec_len l.notes
