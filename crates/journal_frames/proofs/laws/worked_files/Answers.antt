use Rattle.journal_frames.proofs.Worked.{closed_is_whole, closed_stands, cut_short_is_damaged, empty_has_none, empty_stands, one_stands}
use Rattle.journal_frames.proofs.laws.worked_files.Goals as goal

pub returns-clause-empty : goal.returns-clause-empty
returns-clause-empty c = (empty_stands, empty_has_none)

pub returns-clause-closed : goal.returns-clause-closed
returns-clause-closed c = (closed_stands, closed_is_whole)

pub returns-clause-one : goal.returns-clause-one
returns-clause-one c = one_stands

pub returns-clause-cut_short : goal.returns-clause-cut_short
returns-clause-cut_short c = cut_short_is_damaged
