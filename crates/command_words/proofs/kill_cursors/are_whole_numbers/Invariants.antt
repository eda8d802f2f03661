use Rattle.std.proofs.Common.{◌≡◌, drop}
use Rattle.bson_values.specs.View.{items_of}
use Rattle.command_model.specs.KillCursors.{are_whole_numbers}
use Rattle.command_words.proofs.kill_cursors.are_whole_numbers.Given as goal

abbrev pub invariant-loop-value : goal.invariant-loop-value
invariant-loop-value l = are_whole_numbers (items_of (drop l.value-index l.values)) ≡ are_whole_numbers (items_of l.values)
