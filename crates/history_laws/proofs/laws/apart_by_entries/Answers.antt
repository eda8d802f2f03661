-- Two entries that write one key write each other's.
use Rattle.history_laws.proofs.Documents.{apart_by_own}
use Rattle.history_laws.proofs.laws.apart_by_entries.Goals as goal

pub returns : goal.returns
returns c = apart_by_own
