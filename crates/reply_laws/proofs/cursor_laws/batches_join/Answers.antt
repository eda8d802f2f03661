-- What remains of the cursor comes after what was shown.
use Rattle.std.proofs.Common.{◌≡◌, ◌≢◌, ◌⊎◌, inl, inr, pos, List, [], ◌∷◌, ◌++◌, refl, ap, subst, ◌∙◌}
use Rattle.bson_model.specs.Tree.{Fields}
use Rattle.command_model.specs.Cursors.{Batch}
use Rattle.pipeline_model.specs.Runs.{listed}
use Rattle.reply_model.specs.Cursors.{number_left}
use Rattle.reply_model.specs.Reads.{MayGive}
use Rattle.reply_laws.proofs.CursorBatches.{behind, unrolled, opened, shown_there, next_shown}
use Rattle.reply_laws.proofs.cursor_laws.batches_join.Goals as goal
use Rattle.reply_model.specs.OneHistory.{AreRight}

pub returns-clause-prefix : goal.returns-clause-prefix
returns-clause-prefix c account before later back s find first shown one all opens shows =
    let front = behind account [] before (s ∷ (later ++ back)) (subst (λ l. AreRight account [] l) all one.right) in
    let step = unrolled account front.0 (s ∷ (later ++ back)) front.1 in
    let first_shown = opened account s find first front.0 step.0 opens step.1 in
    let last = shown_there account s find first later shown
    back step.0 first_shown.rest opens.opens first_shown.some shows step.2 first_shown.there in (
      last.left,
      last.some,
      subst (λ (l : List Fields). MayGive account.history find.reading first.time (listed (first.documents ++ l))) last.split first_shown.gives,
    )

told_number : (first next : Batch) (left : List Fields) → next.cursor ≡ number_left first.cursor left → ((left ≡ []) × (next.cursor ≡ pos 0))
    ⊎ ((left ≢ []) × (next.cursor ≡ first.cursor))
told_number first next [] is = inl (refl, is)
told_number first next (document ∷ documents) is = inr ((λ e. cc), is)

pub returns-clause-next : goal.returns-clause-next
returns-clause-next c account before later back s t find first shown one all opens shows asks =
    let front = behind account [] before (s ∷ (later ++ t ∷ back)) (subst (λ l. AreRight account [] l) all one.right) in
    let step = unrolled account front.0 (s ∷ (later ++ t ∷ back)) front.1 in
    let first_shown = opened account s find first front.0 step.0 opens step.1 in
    let last = shown_there account s find first later shown
    (t ∷ back) step.0 first_shown.rest opens.opens first_shown.some shows step.2 first_shown.there in
    let then = unrolled account last.cursors (t ∷ back) last.right in
    let next = next_shown account s find first t last.cursors then.0 last.left asks last.some then.1 last.there in (
      next.batch,
      next.left,
      next.says,
      next.name,
      next.time,
      subst (λ (l : List Fields). MayGive account.history find.reading first.time (listed (first.documents ++ l)))
          (last.split ∙ ap (λ (l : List Fields). shown ++ l) next.split) first_shown.gives,
      told_number first next.batch next.left next.number,
    )
