use Rattle.std.proofs.Common.{◌∙◌, sym, ap}
use Rattle.history_model.specs.Merges.{seen_by_both}
use Rattle.history_model.specs.Notes.{seen}
use Rattle.session_book.specs.Records.{session_notes}
use Rattle.session_book.proofs.laws.floors_make_the_book.Goals as goal

-- in a new book each number is new
pub returns : goal.returns
returns c = λ own other after floors none are merged n.
    merged n ∙ ap (λ x. seen_by_both x (seen (session_notes floors.sessions.items) n)) (none n) ∙ sym (are n)
