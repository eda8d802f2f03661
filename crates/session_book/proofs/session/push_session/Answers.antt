use Rattle.std.proofs.Common.{◌∙◌, inr, refl, rules}
use Rattle.std.specs.Prelude.{FitsSigned}
use Rattle.std.specs.Int.{w64}
use Rattle.std.proofs.Math.Facts.{to_z-of_z}
use Rattle.session_book.proofs.Joined.{pushed}
use Rattle.session_book.proofs.session.push_session.Goals as goal

pub returns-in_ok-push : goal.returns-in_ok-push
returns-in_ok-push c =
    let fits : FitsSigned w64 c.transaction.result = search rules in
    record { items = inr (_, c.in_ok-push.ensures.items, refl, c.in_ok-statements.ensures.rising); notes = rw c.in_ok-push.ensures.items (pushed c.args.sessions.now.items _ c.args.kept.now.transaction c.args.kept.now.notes (to_z-of_z fits ∙ c.transaction.ensures) c.in_ok-statements.ensures.copies) }
