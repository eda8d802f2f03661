use Rattle.std.proofs.Common.{rules}
use Rattle.field_paths.proofs.walk.+gap.Goals as goal

pub gap_from-returns-in_default-value : goal.gap_from-returns-in_default-value
gap_from-returns-in_default-value t c = search rules
