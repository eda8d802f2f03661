use Rattle.std.proofs.Common.{◌≡◌, ◌++◌, drop, map}
use Rattle.protocol_model.specs.Statements.{done_view}
use Rattle.protocol_model.proofs.lists.copy_dones.Given as goal

abbrev pub invariant-loop-done : goal.invariant-loop-done
invariant-loop-done l = map done_view l.list.items ++ map done_view (drop l.done-index l.dones) ≡ map done_view l.dones
