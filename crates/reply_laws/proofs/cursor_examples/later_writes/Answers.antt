-- What remains of the cursor was read at its time.
use Rattle.std.proofs.Common.{◌≡◌, pos, List, [], ◌∷◌, refl, arith, codes}
use Rattle.std.specs.Prelude.{false, None}
use Rattle.bson_model.specs.Tree.{Fields, no_fields}
use Rattle.base_model.specs.Times.{timestamp}
use Rattle.command_laws.specs.SampleRequests.{with_id}
use Rattle.reply_model.specs.Right.{right_more}
use Rattle.reply_laws.specs.SampleReads.{asks_more, batch, changed_later, four, going_on, open_with, three, told_later, told_next, two}
use Rattle.reply_laws.proofs.SortedFinds.{rest_is, left_small, next_shows}
use Rattle.reply_laws.proofs.cursor_examples.later_writes.Goals as goal

abbrev two_left : List Fields
two_left = with_id two ∷ with_id three ∷ []

pub returns-clause-stays : goal.returns-clause-stays
returns-clause-stays c =
    right_more (asks_more (codes "d.c") None) (open_with two_left) (batch (pos 0) two_left) (open_with [] ∷ []) refl refl
    (record { batch_of = rest_is two_left refl left_small; number = refl; name = refl; time = refl; rest = refl }) refl

pub returns-clause-without_deleted : goal.returns-clause-without_deleted
returns-clause-without_deleted c next right =
    let shows = next_shows changed_later [] [] (open_with two_left ∷ []) (going_on false 2 5 (codes "c") no_fields)
    (told_next (going_on false 2 5 (codes "c") no_fields) (pos 0) (with_id two ∷ [])) (asks_more (codes "d.c") None) refl next
    (open_with two_left) (batch (pos 0) (with_id two ∷ [])) refl refl right in
    let e : pos 0 ≡ pos 1 = shows.1.number in cc

pub returns-clause-with_new : goal.returns-clause-with_new
returns-clause-with_new c next right =
    let shows = next_shows changed_later [] [] (open_with two_left ∷ []) (going_on false 2 5 (codes "c") no_fields)
    (told_next (going_on false 2 5 (codes "c") no_fields) (pos 0) (with_id two ∷ with_id four ∷ [])) (asks_more (codes "d.c") None) refl next
    (open_with two_left) (batch (pos 0) (with_id two ∷ with_id four ∷ [])) refl refl right in
    let e : with_id two ∷ with_id four ∷ [] ≡ with_id two ∷ with_id three ∷ [] = shows.1.batch_of.front in cc

pub returns-clause-later_time : goal.returns-clause-later_time
returns-clause-later_time c next right =
    let shows = next_shows changed_later [] [] (open_with two_left ∷ []) (going_on false 2 5 (codes "c") no_fields)
    (told_later (going_on false 2 5 (codes "c") no_fields) two_left) (asks_more (codes "d.c") None) refl next
    (open_with two_left) (record (batch (pos 0) two_left) { time = timestamp 1000 6 }) refl refl right in
    let e : timestamp 1000 6 ≡ timestamp 1000 4 = shows.1.time in omega (arith, e)
