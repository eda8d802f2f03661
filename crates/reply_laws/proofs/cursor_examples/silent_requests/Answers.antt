-- What is not put leaves the cursor.
use Rattle.std.proofs.Common.{pos, List, [], ◌∷◌, refl, codes}
use Rattle.std.specs.Prelude.{false, None}
use Rattle.bson_model.specs.Tree.{Fields, no_fields}
use Rattle.command_laws.specs.SampleRequests.{with_id}
use Rattle.reply_model.specs.Cursors.{kills_none, kills}
use Rattle.reply_model.specs.Right.{right_more, right_kill}
use Rattle.reply_laws.specs.SampleReads.{asks_more, batch, going_on, kept, open_with, three, told_gone, two}
use Rattle.reply_laws.proofs.SortedFinds.{rest_is, left_small, never_gone}
use Rattle.reply_laws.proofs.cursor_examples.silent_requests.Goals as goal

abbrev two_left : List Fields
two_left = with_id two ∷ with_id three ∷ []

pub returns-clause-shown : goal.returns-clause-shown
returns-clause-shown c =
    right_more (asks_more (codes "d.c") None) (open_with two_left) (batch (pos 0) two_left) (open_with [] ∷ []) refl refl
    (record { batch_of = rest_is two_left refl left_small; number = refl; name = refl; time = refl; rest = refl }) refl

pub returns-clause-shown_again : goal.returns-clause-shown_again
returns-clause-shown_again c =
    right_more (asks_more (codes "d.c") None) (open_with two_left) (batch (pos 0) two_left) (open_with [] ∷ []) refl refl
    (record { batch_of = rest_is two_left refl left_small; number = refl; name = refl; time = refl; rest = refl }) refl

pub returns-clause-not_gone : goal.returns-clause-not_gone
returns-clause-not_gone c next right =
    never_gone kept [] [] (open_with two_left ∷ []) (going_on false 2 4 (codes "c") no_fields) (told_gone (going_on false 2 4 (codes "c") no_fields))
    (asks_more (codes "d.c") None) refl next (open_with two_left) refl refl right

pub returns-clause-closed : goal.returns-clause-closed
returns-clause-closed c =
    right_kill (record { namespace = codes "d.c"; cursors = pos 1 ∷ [] }) (pos 1 ∷ []) [] (open_with [] ∷ []) refl
    (kills (open_with (with_id two ∷ []) ∷ []) (open_with [] ∷ []) (pos 1) [] [] [] (open_with (with_id two ∷ [])) refl (kills_none (open_with [] ∷ []))) refl
