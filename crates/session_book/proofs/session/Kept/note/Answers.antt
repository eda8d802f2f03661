use Rattle.std.proofs.Common.{◌≡◌, ◌∙◌, ℕ}
use Rattle.std.specs.Prelude.{if◌then◌else◌, Some, ◌==◌}
use Rattle.std.proofs.Math.Facts.{to_z-of_z}
use Rattle.session_book.specs.Statements.{with_index, notes_in}
use Rattle.session_book.proofs.Noting.{after_note, none_in}
use Rattle.session_book.proofs.session.Kept.note.Goals as goal

pub put-requires-clause-new : goal.put-requires-clause-new
put-requires-clause-new c =
    let notes : c.begin.new.self.notes ≡ notes_in c.args.txn c.args.self.now = rw (to_z-of_z c.ranges.txn) at c.begin.ensures.notes in
    rw notes (none_in c.args.self.now c.args.txn c.args.noted.index c.requires.new)

pub returns-clause-seen : goal.returns-clause-seen
returns-clause-seen c =
    let transaction : c.put.new.self.transaction ≡ c.args.txn = c.put.ensures.transaction ∙ c.begin.ensures.transaction ∙ to_z-of_z c.ranges.txn in
    let notes : c.begin.new.self.notes ≡ notes_in c.args.txn c.args.self.now = rw (to_z-of_z c.ranges.txn) at c.begin.ensures.notes in
    let finds : (q : ℕ) →
    with_index q c.put.new.self.notes ≡ (if c.args.noted.index == q then Some c.args.noted else with_index q (notes_in c.args.txn c.args.self.now)) =
    λ q. rw (← notes) (c.put.ensures.notes q) in
    after_note c.args.self.now c.put.new.self c.args.txn c.args.noted transaction finds c.requires.new
