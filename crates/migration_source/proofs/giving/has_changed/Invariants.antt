use Rattle.std.proofs.Common.{◌≡◌}
use Rattle.move_model.specs.Sources.{has_some}
use Rattle.migration_source.specs.Changed.{changed_among}
use Rattle.migration_source.proofs.giving.has_changed.Given as goal

-- what is left tells
abbrev pub invariant-loop-key : goal.invariant-loop-key
invariant-loop-key l = has_some (changed_among l.key-iterator) ≡ has_some (changed_among l.initial.key-iterator)
