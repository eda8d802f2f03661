use Rattle.std.proofs.Common.{sym}
use Rattle.session_book.proofs.Rising.{found_in_gap}
use Rattle.session_book.proofs.session.find_among.Goals as goal

-- none has the index
pub returns-in-Err : goal.returns-in-Err
returns-in-Err c = sym (found_in_gap _ _ _ c.in-Err.ensures.absent)
