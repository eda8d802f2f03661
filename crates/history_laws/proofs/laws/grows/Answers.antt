-- The entry is placed among the merged entries before.
use Rattle.history_laws.proofs.Merging.{stays}
use Rattle.history_laws.proofs.Growth.{grown_by_one, other_keys, earlier_times, same_until}
use Rattle.history_laws.proofs.laws.grows.Goals as goal

pub returns-clause-one_more : goal.returns-clause-one_more
returns-clause-one_more c = grown_by_one

pub returns-clause-stay : goal.returns-clause-stay
returns-clause-stay c = stays

pub returns-clause-other_keys : goal.returns-clause-other_keys
returns-clause-other_keys c = other_keys

pub returns-clause-earlier : goal.returns-clause-earlier
returns-clause-earlier c = earlier_times

pub returns-clause-until : goal.returns-clause-until
returns-clause-until c = same_until
