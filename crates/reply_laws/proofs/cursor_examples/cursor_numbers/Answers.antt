-- Of all lives of a router.
use Rattle.std.proofs.Common.{◌≡◌, ◌≢◌, pos, List, [], ◌∷◌, refl, arith}
use Rattle.std.specs.Prelude.{true, false}
use Rattle.bson_model.specs.Tree.{Fields, no_fields}
use Rattle.command_laws.specs.SampleRequests.{with_id}
use Rattle.reply_model.specs.Exchanges.{Asked}
use Rattle.reply_model.specs.Cursors.{opens_one}
use Rattle.reply_laws.specs.SampleReads.{another_router, batch, one, open_with, sorting, three, told_first, two}
use Rattle.reply_laws.proofs.SortedFinds.{two_is, first_right, first_shows, opens_new}
use Rattle.reply_laws.proofs.cursor_examples.cursor_numbers.Goals as goal

abbrev two_shown : List Fields
two_shown = with_id one ∷ with_id two ∷ []

pub returns-clause-second : goal.returns-clause-second
returns-clause-second c =
    first_right [] [] (open_with (with_id three ∷ []) ∷ []) (sorting false 2 no_fields) (told_first (sorting false 2 no_fields) (pos 2) two_shown) 2 false
    (batch (pos 2) two_shown) refl refl refl _ refl refl
    (record { batch_of = two_is; opens = opens_one (with_id three ∷ []) (pos 2) (λ e. cc) refl ((2, omega arith, refl), (refl, tt)) })

pub returns-clause-again : goal.returns-clause-again
returns-clause-again c next right =
    let shows = first_shows [] [] (open_with (with_id three ∷ []) ∷ []) (sorting false 2 no_fields)
    (told_first (sorting false 2 no_fields) (pos 1) two_shown) 2 false (batch (pos 1) two_shown) refl refl refl next right in
    let some : with_id three ∷ [] ≢ [] = λ e. cc in
    let new = opens_new _ _ _ _ _ (with_id three ∷ []) (pos 1) next refl some shows.opens in
    let e : true ≡ false = new.1.0 in cc

pub returns-clause-ended : goal.returns-clause-ended
returns-clause-ended c next right =
    let shows = first_shows [] [] (open_with [] ∷ []) (sorting false 2 no_fields) (told_first (sorting false 2 no_fields) (pos 1) two_shown) 2 false
    (batch (pos 1) two_shown) refl refl refl next right in
    let some : with_id three ∷ [] ≢ [] = λ e. cc in
    let new = opens_new _ _ _ _ _ (with_id three ∷ []) (pos 1) next refl some shows.opens in
    let e : true ≡ false = new.1.0 in cc

abbrev later_life : Asked
later_life = record (sorting false 2 no_fields) { id = record { router = 2; life = 2; count = 1 } }

pub returns-clause-another_life : goal.returns-clause-another_life
returns-clause-another_life c next right =
    let shows = first_shows [] [] (open_with [] ∷ []) later_life (told_first later_life (pos 1) two_shown) 2 false
    (batch (pos 1) two_shown) refl refl refl next right in
    let some : with_id three ∷ [] ≢ [] = λ e. cc in
    let new = opens_new _ _ _ _ _ (with_id three ∷ []) (pos 1) next refl some shows.opens in
    let e : true ≡ false = new.1.0 in cc

pub returns-clause-another_router : goal.returns-clause-another_router
returns-clause-another_router c =
    first_right [] [] (another_router ∷ []) (sorting false 2 no_fields) (told_first (sorting false 2 no_fields) (pos 1) two_shown) 2 false
    (batch (pos 1) two_shown) refl refl refl _ refl refl
    (record { batch_of = two_is; opens = opens_one (with_id three ∷ []) (pos 1) (λ e. cc) refl ((1, omega arith, refl), (refl, tt)) })
