-- Journal by journal, and entry by entry from the last one on.
use Rattle.history_laws.proofs.Extended.{go_on}
use Rattle.history_laws.proofs.laws.journals_go_on.Goals as goal

pub returns : goal.returns
returns c = go_on
