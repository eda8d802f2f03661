use Rattle.history_model.specs.Notes.{same_session}
use Rattle.statement_views.specs.Views.{session_view}
use Rattle.session_book.proofs.Joined.{length_one_more, room_more, statement_joined}
use Rattle.session_book.proofs.book.Book.merge_session.Goals as goal

pub loop-statement-preserved : goal.loop-statement-preserved
loop-statement-preserved c = (
  tt,
  tt,
  (λ n. statement_joined _ _ _ _ _ c.loop-statement.yielded c.in-Some.statement n (c.loop-statement.invariant.2 n) (c.merge_statement.ensures.seen n)),
  (λ t. room_more (same_session (session_view c.args.record.session) (session_view t)) _ _ _ _ _ (length_one_more c.loop-statement.yielded c.in-Some.statement) (c.loop-statement.invariant.3 t) (c.merge_statement.ensures.room t)),
)
