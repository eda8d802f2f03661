-- By whether the note belongs to the session, its transaction is greater, and it has the number.
use Rattle.history_model.proofs.Noted.{one_more_note, noted_again}
use Rattle.history_model.proofs.laws.one_more_note.Goals as goal

pub returns-clause-others : goal.returns-clause-others
returns-clause-others g c = one_more_note

pub returns-clause-own : goal.returns-clause-own
returns-clause-own g c = noted_again
