-- A cursor is there for good, if only with no documents.
use Rattle.std.proofs.Common.{subst, [], ◌∷◌, ◌++◌}
use Rattle.reply_laws.proofs.CursorBatches.{behind, unrolled, opened, there_still}
use Rattle.reply_laws.proofs.StandingCursors.{another_number}
use Rattle.reply_laws.proofs.cursor_laws.numbers_are_apart.Goals as goal
use Rattle.reply_model.specs.OneHistory.{AreRight}

pub returns : goal.returns
returns c account before later back s t find other first second one all opens opens_later router same =
    let front = behind account [] before (s ∷ (later ++ t ∷ back)) (subst (λ l. AreRight account [] l) all one.right) in
    let step = unrolled account front.0 (s ∷ (later ++ t ∷ back)) front.1 in
    let first_shown = opened account s find first front.0 step.0 opens step.1 in
    let so = there_still account s find first later (t ∷ back) step.0 first_shown.rest step.2 first_shown.there in
    let then = unrolled account so.cursors (t ∷ back) so.right in
    let new = opened account t other second so.cursors then.0 opens_later then.1 in
    another_number s.id.router s.id.life first.cursor first.namespace first.time t.id second.cursor so.left so.cursors so.there new.new router same
