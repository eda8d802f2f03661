use Rattle.std.proofs.Common.{◌≡◌, drop, map}
use Rattle.node_model.specs.RouterNext.{noted}
use Rattle.protocol_model.specs.Statements.{done_view}
use Rattle.router_writes.specs.Places.{first_open}
use Rattle.router_writes.proofs.Places.{AreChanged}
use Rattle.write_runs.specs.Runs.{answers_view}
use Rattle.router_writes.proofs.noted.note.Given as goal

abbrev pub invariant-loop-done : goal.invariant-loop-done
invariant-loop-done l = record {
  first : l.first ≡ first_open (answers_view l.noted.items);
  rest : noted l.ordered (answers_view l.noted.items) (map done_view (drop l.done-index l.dones)) ≡ noted l.ordered (answers_view l.answers) (map done_view l.dones);
  changed : AreChanged l.changed (answers_view l.answers) (answers_view l.noted.items);
}
