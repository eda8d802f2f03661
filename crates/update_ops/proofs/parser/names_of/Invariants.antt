-- The names that were read, and the parts that are left, are the path.
use Rattle.std.proofs.Common.{◌≡◌, ◌++◌, drop}
use Rattle.update_ops.proofs.parser.names_of.Given as goal

abbrev pub invariant-loop-part : goal.invariant-loop-part
invariant-loop-part l = l.names.items ++ drop l.part-index l.part-items ≡ l.path
