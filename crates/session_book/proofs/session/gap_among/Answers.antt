use Rattle.session_book.proofs.session.gap_among.Goals as goal

-- none has the index
pub returns-in-Ok : goal.returns-in-Ok
returns-in-Ok c = absurd (c.in-Ok.ensures.found.some c.requires.none)
