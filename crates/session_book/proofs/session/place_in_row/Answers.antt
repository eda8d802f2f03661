use Rattle.std.proofs.Common.{rules, ◌<◌, length}
use Rattle.session_book.proofs.Rising.{holds_at}
use Rattle.session_book.proofs.session.place_in_row.Goals as goal

-- the note at that place has the index
pub returns-in-Some : goal.returns-in-Some
returns-in-Some c =
    let in_range : c.in_ok-place.field-0 < length c.args.notes.now = search rules in
    holds_at c.args.notes.now c.requires c.args.index c.in_ok-place.field-0 in_range (λ d. search rules)
