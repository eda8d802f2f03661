-- Entry by entry.
use Rattle.history_laws.proofs.Merging.{rising_merged}
use Rattle.history_laws.proofs.Growth.{any_first}
use Rattle.history_laws.proofs.laws.merged_is_rising.Goals as goal

pub returns-clause-rising : goal.returns-clause-rising
returns-clause-rising c = rising_merged

pub returns-clause-any_first : goal.returns-clause-any_first
returns-clause-any_first c = any_first
