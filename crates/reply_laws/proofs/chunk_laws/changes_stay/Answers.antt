-- The part of the changes stays with more in front of it.
use Rattle.reply_laws.proofs.StandingChanges.{created_stays, split_stays}
use Rattle.reply_laws.proofs.chunk_laws.changes_stay.Goals as goal

pub returns-clause-created : goal.returns-clause-created
returns-clause-created c more changes namespace before time was later = created_stays more changes namespace before time was later

pub returns-clause-split : goal.returns-clause-split
returns-clause-split c more changes namespace key before time was later = split_stays more changes namespace key before time was later
