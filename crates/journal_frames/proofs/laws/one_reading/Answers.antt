use Rattle.journal_frames.proofs.Listed.{listed}
use Rattle.journal_frames.proofs.Unique.{not_both, one_list, one_offset}
use Rattle.journal_frames.proofs.laws.one_reading.Goals as goal

pub returns-clause-records : goal.returns-clause-records
returns-clause-records c = one_list

pub returns-clause-damage : goal.returns-clause-damage
returns-clause-damage c = one_offset

pub returns-clause-list : goal.returns-clause-list
returns-clause-list c = listed

pub returns-clause-apart : goal.returns-clause-apart
returns-clause-apart c = not_both
