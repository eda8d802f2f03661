use Rattle.std.proofs.Common.{◌≡◌, ◌∙◌, sym}
use Rattle.std.proofs.Math.Facts.{to_z-of_z}
use Rattle.statement_views.specs.Views.{session_view}
use Rattle.session_book.specs.Books.{is_new, kept_of, seen_in, seen_of}
use Rattle.session_book.specs.Records.{statement_note}
use Rattle.session_book.proofs.Merging.{is_known, is_new_one, known_merges, new_merges}
use Rattle.session_book.proofs.book.Book.merge_statement.Goals as goal

pub returns-then-is_new-clause-seen : goal.returns-then-is_new-clause-seen
unfolding seen_in
returns-then-is_new-clause-seen c = λ n.
    let note = statement_note (session_view c.args.session) c.args.txn c.args.statement in
    let tested : c.is_new.result ≡ is_new (seen_of (kept_of c.args.self.now (session_view c.args.session)) note.number) = rw (to_z-of_z c.ranges.txn) at c.is_new.ensures in
    let noted = rw (to_z-of_z c.ranges.txn) at c.note.ensures.seen n in
    noted ∙ new_merges (kept_of c.args.self.now) note n (is_new_one _ (sym tested ∙ c.if-is_new.true))

pub returns-else-is_new-clause-seen : goal.returns-else-is_new-clause-seen
unfolding seen_in
returns-else-is_new-clause-seen c = λ n.
    let note = statement_note (session_view c.args.session) c.args.txn c.args.statement in
    let tested : c.is_new.result ≡ is_new (seen_of (kept_of c.args.self.now (session_view c.args.session)) note.number) = rw (to_z-of_z c.ranges.txn) at c.is_new.ensures in
    known_merges (kept_of c.args.self.now) note n (is_known _ (sym tested ∙ c.if-is_new.false))
