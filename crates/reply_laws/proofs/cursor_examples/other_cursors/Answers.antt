-- By router, life, number and collection.
use Rattle.std.proofs.Common.{◌≡◌, pos, inl, [], ◌∷◌, refl, arith, codes}
use Rattle.std.specs.Prelude.{false, None}
use Rattle.bson_model.specs.Tree.{no_fields}
use Rattle.command_laws.specs.SampleRequests.{with_id}
use Rattle.reply_model.specs.Right.{right_more, right_no_cursor}
use Rattle.reply_laws.specs.SampleReads.{another_router, asks_more, batch, going_on, kept, open_with, three, told_next, two}
use Rattle.reply_laws.proofs.SortedFinds.{rest_is, next_shows}
use Rattle.reply_laws.proofs.cursor_examples.other_cursors.Goals as goal

pub returns-clause-namespace : goal.returns-clause-namespace
returns-clause-namespace c = right_no_cursor (asks_more (codes "d.b") None) refl refl refl

pub returns-clause-router : goal.returns-clause-router
returns-clause-router c = right_no_cursor (asks_more (codes "d.c") None) refl refl refl

pub returns-clause-life : goal.returns-clause-life
returns-clause-life c = right_no_cursor (asks_more (codes "d.c") None) refl refl refl

pub returns-clause-own : goal.returns-clause-own
returns-clause-own c =
    right_more (asks_more (codes "d.c") None) another_router (batch (pos 0) (with_id three ∷ []))
    (open_with (with_id two ∷ []) ∷ record another_router { remaining = [] } ∷ []) refl refl
    (record { batch_of = rest_is (with_id three ∷ []) refl (inl (omega arith)); number = refl; name = refl; time = refl; rest = refl }) refl

pub returns-clause-not_own : goal.returns-clause-not_own
returns-clause-not_own c next right =
    let shows = next_shows kept [] [] (open_with (with_id two ∷ []) ∷ another_router ∷ []) (going_on false 3 1 (codes "c") no_fields)
    (told_next (going_on false 3 1 (codes "c") no_fields) (pos 0) (with_id two ∷ []))
    (asks_more (codes "d.c") None) refl next another_router (batch (pos 0) (with_id two ∷ [])) refl refl right in
    let e : with_id two ∷ [] ≡ with_id three ∷ [] = shows.1.batch_of.front in cc
