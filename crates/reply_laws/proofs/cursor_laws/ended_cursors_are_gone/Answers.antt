-- One of which no documents remain stays so.
use Rattle.std.proofs.Common.{[], ◌∷◌, ◌++◌, refl, subst}
use Rattle.reply_laws.proofs.CursorBatches.{IsThere, behind, unrolled, opened, shown_there, ends_there, there_still, gone}
use Rattle.reply_laws.proofs.cursor_laws.ended_cursors_are_gone.Goals as goal
use Rattle.reply_model.specs.OneHistory.{AreRight}

pub returns : goal.returns
returns c account before later middle back s u t find first shown one all opens shows ends asks =
    let front = behind account [] before (s ∷ (later ++ u ∷ (middle ++ t ∷ back))) (subst (λ l. AreRight account [] l) all one.right) in
    let step = unrolled account front.0 (s ∷ (later ++ u ∷ (middle ++ t ∷ back))) front.1 in
    let first_shown = opened account s find first front.0 step.0 opens step.1 in
    let last = shown_there account s find first later shown
    (u ∷ (middle ++ t ∷ back)) step.0 first_shown.rest opens.opens first_shown.some shows step.2 first_shown.there in
    let end = unrolled account last.cursors (u ∷ (middle ++ t ∷ back)) last.right in
    let ended = ends_there account s find first u
    last.cursors end.0 last.left opens.opens last.some ends end.1 last.there in
    let so = there_still account s find first middle (t ∷ back) end.0 [] end.2 ended in
    let then = unrolled account so.cursors (t ∷ back) so.right in
    gone account s find first t so.cursors then.0 asks then.1
    (subst (λ l. IsThere account s find first l so.cursors) (so.stays_ended refl) so.there)
