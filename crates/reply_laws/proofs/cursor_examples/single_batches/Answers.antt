-- No cursor is opened.
use Rattle.std.proofs.Common.{◌≡◌, pos, inr, [], ◌∷◌, refl, codes}
use Rattle.std.specs.Prelude.{true, false, None}
use Rattle.bson_model.specs.Tree.{no_fields}
use Rattle.command_laws.specs.SampleRequests.{with_id}
use Rattle.reply_model.specs.Cursors.{opens_none}
use Rattle.reply_model.specs.Right.{right_no_cursor}
use Rattle.reply_laws.specs.SampleReads.{all_three, asks_more, batch, going_on, kept, one, single_batch, sorting, three, told_first, told_next, two}
use Rattle.reply_laws.proofs.SortedFinds.{one_is, none_is, first_right, first_shows, opens_zero, never_shows}
use Rattle.reply_laws.proofs.cursor_examples.single_batches.Goals as goal

pub returns-clause-one : goal.returns-clause-one
returns-clause-one c =
    first_right [] [] [] (sorting false 1 single_batch) (told_first (sorting false 1 single_batch) (pos 0) (with_id one ∷ [])) 1 true
    (batch (pos 0) (with_id one ∷ [])) refl refl refl [] refl refl
    (record { batch_of = one_is; opens = opens_none (with_id two ∷ with_id three ∷ []) (inr refl) })

pub returns-clause-none : goal.returns-clause-none
returns-clause-none c =
    first_right [] [] [] (sorting false 0 single_batch) (told_first (sorting false 0 single_batch) (pos 0) []) 0 true
    (batch (pos 0) []) refl refl refl [] refl refl
    (record { batch_of = none_is; opens = opens_none all_three (inr refl) })

pub returns-clause-numbered : goal.returns-clause-numbered
returns-clause-numbered c next right =
    let shows = first_shows [] [] [] (sorting false 1 single_batch) (told_first (sorting false 1 single_batch) (pos 1) (with_id one ∷ [])) 1 true
    (batch (pos 1) (with_id one ∷ [])) refl refl refl next right in
    let e : pos 1 ≡ pos 0 = opens_zero _ _ _ _ _ _ _ next refl shows.opens in cc

pub returns-clause-gone : goal.returns-clause-gone
returns-clause-gone c = right_no_cursor (asks_more (codes "d.c") None) refl refl refl

pub returns-clause-silent : goal.returns-clause-silent
returns-clause-silent c =
    first_right [] [] [] (sorting true 1 no_fields) (told_first (sorting true 1 no_fields) (pos 0) (with_id one ∷ [])) 1 false
    (batch (pos 0) (with_id one ∷ [])) refl refl refl [] refl refl
    (record { batch_of = one_is; opens = opens_none (with_id two ∷ with_id three ∷ []) (inr refl) })

pub returns-clause-silent_numbered : goal.returns-clause-silent_numbered
returns-clause-silent_numbered c next right =
    let shows = first_shows [] [] [] (sorting true 1 no_fields) (told_first (sorting true 1 no_fields) (pos 1) (with_id one ∷ [])) 1 false
    (batch (pos 1) (with_id one ∷ [])) refl refl refl next right in
    let e : pos 1 ≡ pos 0 = opens_zero _ _ _ _ _ _ _ next refl shows.opens in cc

pub returns-clause-never_shown : goal.returns-clause-never_shown
returns-clause-never_shown c next right =
    never_shows kept [] [] [] (going_on false 2 3 (codes "c") no_fields)
    (told_next (going_on false 2 3 (codes "c") no_fields) (pos 0) (with_id two ∷ with_id three ∷ [])) (asks_more (codes "d.c") None) refl next
    (batch (pos 0) (with_id two ∷ with_id three ∷ [])) refl refl right
