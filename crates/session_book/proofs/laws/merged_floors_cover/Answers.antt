use Rattle.std.proofs.Common.{◌∙◌, sym}
use Rattle.history_model.specs.Notes.{seen}
use Rattle.history_model.proofs.Merged.{new_by_both}
use Rattle.session_book.specs.Books.{seen_in}
use Rattle.session_book.specs.Records.{session_notes}
use Rattle.session_book.proofs.laws.merged_floors_cover.Goals as goal

pub returns : goal.returns
returns c = λ own other after floors are merged n new.
    let both = new_by_both (seen_in own n) (seen (session_notes floors.sessions.items) n) (sym (merged n) ∙ new) in
    (both.0, are n ∙ both.1)
