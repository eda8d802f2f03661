use Rattle.std.proofs.Common.{◌≡◌, ◌++◌, drop}
use Rattle.bson_values.specs.View.{items_of}
use Rattle.command_model.specs.KillCursors.{numbers_in}
use Rattle.command_words.proofs.kill_cursors.numbers_in.Given as goal

abbrev pub invariant-loop-value : goal.invariant-loop-value
invariant-loop-value l = l.numbers.items ++ numbers_in (items_of (drop l.value-index l.values)) ≡ numbers_in (items_of l.values)
