-- Nothing is shown, and all remains.
use Rattle.std.proofs.Common.{◌≡◌, pos, [], ◌∷◌, refl, arith, codes}
use Rattle.std.specs.Prelude.{false, Some, None}
use Rattle.bson_model.specs.Tree.{no_fields}
use Rattle.command_laws.specs.SampleRequests.{with_id}
use Rattle.reply_model.specs.Cursors.{opens_one}
use Rattle.reply_model.specs.Right.{right_more}
use Rattle.reply_laws.specs.SampleReads.{all_three, asks_more, batch, one, open_with, sorting, told_first}
use Rattle.reply_laws.proofs.KeyFinds.{opens_nothing}
use Rattle.reply_laws.proofs.SortedFinds.{none_is, rest_is, three_small, first_right, first_shows, first_documents}
use Rattle.reply_laws.proofs.cursor_examples.empty_batches.Goals as goal

pub returns-clause-first : goal.returns-clause-first
returns-clause-first c =
    first_right [] [] [] (sorting false 0 no_fields) (told_first (sorting false 0 no_fields) (pos 1) []) 0 false (batch (pos 1) []) refl refl refl
    (open_with all_three ∷ []) refl refl
    (record { batch_of = none_is; opens = opens_one all_three (pos 1) (λ e. cc) refl ((1, omega arith, refl), tt) })

pub returns-clause-ended : goal.returns-clause-ended
returns-clause-ended c next right =
    let shows = first_shows [] [] [] (sorting false 0 no_fields) (told_first (sorting false 0 no_fields) (pos 0) []) 0 false
    (batch (pos 0) []) refl refl refl next right in
    let none : all_three ≡ [] = opens_nothing _ _ _ _ _ _ _ next refl refl shows.opens in cc

pub returns-clause-shown : goal.returns-clause-shown
returns-clause-shown c next right =
    let same : with_id one ∷ [] ≡ [] =
    first_documents [] [] [] (sorting false 0 no_fields) (told_first (sorting false 0 no_fields) (pos 1) (with_id one ∷ [])) 0 false
    (batch (pos 1) (with_id one ∷ [])) refl refl refl next [] none_is right in cc

pub returns-clause-again : goal.returns-clause-again
returns-clause-again c =
    right_more (asks_more (codes "d.c") (Some 0)) (open_with all_three) (batch (pos 1) []) (open_with all_three ∷ []) refl refl
    (record { batch_of = none_is; number = refl; name = refl; time = refl; rest = refl }) refl

pub returns-clause-rest : goal.returns-clause-rest
returns-clause-rest c =
    right_more (asks_more (codes "d.c") None) (open_with all_three) (batch (pos 0) all_three) (open_with [] ∷ []) refl refl
    (record { batch_of = rest_is all_three refl three_small; number = refl; name = refl; time = refl; rest = refl }) refl
