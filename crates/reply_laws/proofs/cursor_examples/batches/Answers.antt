-- By the one batch of each size.
use Rattle.std.proofs.Common.{◌≡◌, ◌≢◌, pos, inl, inr, List, [], ◌∷◌, refl, arith, codes}
use Rattle.std.specs.Prelude.{false, negsuc, None}
use Rattle.bson_model.specs.Tree.{Fields, no_fields}
use Rattle.command_laws.specs.SampleRequests.{with_id}
use Rattle.base_model.specs.Times.{timestamp}
use Rattle.history_model.specs.History.{Entry, done}
use Rattle.history_model.proofs.Lists.{in_first, in_later}
use Rattle.reply_model.specs.Exchanges.{Asked, Answered}
use Rattle.reply_model.specs.Cursors.{opens_one}
use Rattle.reply_model.specs.Right.{IsRight, right_more, right_no_cursor}
use Rattle.reply_model.specs.OneHistory.{WasMet, nothing_told, then_told}
use Rattle.reply_laws.specs.SampleExchanges.{entry_at, account_of}
use Rattle.reply_laws.specs.SampleReads.{asks_more, batch, first_asked, first_replies, going_on, kept, one, open_with, sorting, three, told_first, told_gone, told_next, two}
use Rattle.reply_laws.proofs.KeyFinds.{opens_nothing}
use Rattle.reply_laws.proofs.SortedFinds.{two_is, rest_is, first_right, first_shows, first_documents, opens_new, next_shows, never_shows}
use Rattle.reply_laws.proofs.cursor_examples.batches.Goals as goal

abbrev two_shown : List Fields
two_shown = with_id one ∷ with_id two ∷ []

abbrev first_kept : Entry
first_kept = entry_at 2 2 1 0 one done

abbrev second_kept : Entry
second_kept = entry_at 3 2 1 1 two done

abbrev third_kept : Entry
third_kept = entry_at 4 2 1 2 three done

met_four : WasMet (account_of kept [] []) (timestamp 1000 4)
met_four = inr (inr (inr (
  third_kept,
  in_later third_kept first_kept (second_kept ∷ third_kept ∷ []) (in_later third_kept second_kept (third_kept ∷ []) (in_first third_kept [])),
  omega arith,
)))

first_turn : (asked : List Asked) (answered : List Answered)
    → IsRight (account_of kept asked answered) [] (sorting false 2 no_fields) (told_first (sorting false 2 no_fields) (pos 1) two_shown)
    (open_with (with_id three ∷ []) ∷ [])
first_turn asked answered =
    first_right asked answered [] (sorting false 2 no_fields) (told_first (sorting false 2 no_fields) (pos 1) two_shown) 2 false
    (batch (pos 1) two_shown) refl refl refl (open_with (with_id three ∷ []) ∷ []) refl refl
    (record { batch_of = two_is; opens = opens_one (with_id three ∷ []) (pos 1) (λ e. cc) refl ((1, omega arith, refl), tt) })

next_turn : (asked : List Asked) (answered : List Answered)
    → IsRight (account_of kept asked answered) (open_with (with_id three ∷ []) ∷ []) (going_on false 2 3 (codes "c") no_fields)
    (told_next (going_on false 2 3 (codes "c") no_fields) (pos 0) (with_id three ∷ [])) (open_with [] ∷ [])
next_turn asked answered =
    right_more (asks_more (codes "d.c") None) (open_with (with_id three ∷ [])) (batch (pos 0) (with_id three ∷ [])) (open_with [] ∷ []) refl refl
    (record { batch_of = rest_is (with_id three ∷ []) refl (inl (omega arith)); number = refl; name = refl; time = refl; rest = refl }) refl

last_turn : (asked : List Asked) (answered : List Answered)
    → IsRight (account_of kept asked answered) (open_with [] ∷ []) (going_on false 2 4 (codes "c") no_fields)
    (told_gone (going_on false 2 4 (codes "c") no_fields)) (open_with [] ∷ [])
last_turn asked answered = right_no_cursor (asks_more (codes "d.c") None) refl refl refl

pub returns-clause-first : goal.returns-clause-first
returns-clause-first c = first_turn [] []

pub returns-clause-ended_early : goal.returns-clause-ended_early
returns-clause-ended_early c next right =
    let shows = first_shows [] [] [] (sorting false 2 no_fields) (told_first (sorting false 2 no_fields) (pos 0) two_shown) 2 false
    (batch (pos 0) two_shown) refl refl refl next right in
    let none : with_id three ∷ [] ≡ [] = opens_nothing _ _ _ _ _ _ _ next refl refl shows.opens in cc

pub returns-clause-too_few : goal.returns-clause-too_few
returns-clause-too_few c next right =
    let same : with_id one ∷ [] ≡ two_shown =
    first_documents [] [] [] (sorting false 2 no_fields) (told_first (sorting false 2 no_fields) (pos 1) (with_id one ∷ [])) 2 false
    (batch (pos 1) (with_id one ∷ [])) refl refl refl next two_shown two_is right in cc

pub returns-clause-negative : goal.returns-clause-negative
returns-clause-negative c next right =
    let shows = first_shows [] [] [] (sorting false 2 no_fields) (told_first (sorting false 2 no_fields) (negsuc 0) two_shown) 2 false
    (batch (negsuc 0) two_shown) refl refl refl next right in
    let some : with_id three ∷ [] ≢ [] = λ e. cc in
    let new = opens_new _ _ _ _ _ (with_id three ∷ []) (negsuc 0) next refl some shows.opens in
    let e : negsuc 0 ≡ pos new.0.0 = new.0.2 in cc

pub returns-clause-another_order : goal.returns-clause-another_order
returns-clause-another_order c next right =
    let same : with_id two ∷ with_id one ∷ [] ≡ two_shown =
    first_documents [] [] [] (sorting false 2 no_fields) (told_first (sorting false 2 no_fields) (pos 1) (with_id two ∷ with_id one ∷ [])) 2 false
    (batch (pos 1) (with_id two ∷ with_id one ∷ [])) refl refl refl next two_shown two_is right in cc

pub returns-clause-next : goal.returns-clause-next
returns-clause-next c = next_turn [] []

pub returns-clause-none_shown : goal.returns-clause-none_shown
returns-clause-none_shown c next right =
    let shows = next_shows kept [] [] (open_with (with_id three ∷ []) ∷ []) (going_on false 2 3 (codes "c") no_fields)
    (told_next (going_on false 2 3 (codes "c") no_fields) (pos 0) []) (asks_more (codes "d.c") None) refl next
    (open_with (with_id three ∷ [])) (batch (pos 0) []) refl refl right in
    let e : pos 0 ≡ pos 1 = shows.1.number in cc

pub returns-clause-shown_again : goal.returns-clause-shown_again
returns-clause-shown_again c next right =
    let shows = next_shows kept [] [] (open_with (with_id three ∷ []) ∷ []) (going_on false 2 3 (codes "c") no_fields)
    (told_next (going_on false 2 3 (codes "c") no_fields) (pos 0) (with_id two ∷ with_id three ∷ [])) (asks_more (codes "d.c") None) refl next
    (open_with (with_id three ∷ [])) (batch (pos 0) (with_id two ∷ with_id three ∷ [])) refl refl right in
    let e : with_id two ∷ with_id three ∷ [] ≡ with_id three ∷ [] = shows.1.batch_of.front in cc

pub returns-clause-still_open : goal.returns-clause-still_open
returns-clause-still_open c next right =
    let shows = next_shows kept [] [] (open_with (with_id three ∷ []) ∷ []) (going_on false 2 3 (codes "c") no_fields)
    (told_next (going_on false 2 3 (codes "c") no_fields) (pos 1) (with_id three ∷ [])) (asks_more (codes "d.c") None) refl next
    (open_with (with_id three ∷ [])) (batch (pos 1) (with_id three ∷ [])) refl refl right in
    let e : pos 1 ≡ pos 0 = shows.1.number in cc

pub returns-clause-gone : goal.returns-clause-gone
returns-clause-gone c = last_turn [] []

pub returns-clause-not_gone : goal.returns-clause-not_gone
returns-clause-not_gone c next right =
    never_shows kept [] [] (open_with [] ∷ []) (going_on false 2 4 (codes "c") no_fields) (told_next (going_on false 2 4 (codes "c") no_fields) (pos 0) [])
    (asks_more (codes "d.c") None) refl next (batch (pos 0) []) refl refl right

pub returns-clause-all : goal.returns-clause-all
returns-clause-all c =
    then_told [] (open_with (with_id three ∷ []) ∷ []) (told_first (sorting false 2 no_fields) (pos 1) two_shown) _
    (record {
      request = sorting false 2 no_fields;
      taken = in_first (sorting false 2 no_fields) _;
      own = refl;
      link = refl;
      number = refl;
      same = refl;
      came = omega arith;
      risen = omega arith;
      met = met_four;
      right = first_turn first_asked first_replies;
    })
    (then_told (open_with (with_id three ∷ []) ∷ []) (open_with [] ∷ []) (told_next (going_on false 2 3 (codes "c") no_fields) (pos 0) (with_id three ∷ [])) _
    (record {
      request = going_on false 2 3 (codes "c") no_fields;
      taken = in_later _ (sorting false 2 no_fields) _ (in_first (going_on false 2 3 (codes "c") no_fields) (going_on false 2 4 (codes "c") no_fields ∷ []));
      own = refl;
      link = refl;
      number = refl;
      same = refl;
      came = omega arith;
      risen = omega arith;
      met = met_four;
      right = next_turn first_asked first_replies;
    })
    (then_told (open_with [] ∷ []) (open_with [] ∷ []) (told_gone (going_on false 2 4 (codes "c") no_fields)) []
    (record {
      request = going_on false 2 4 (codes "c") no_fields;
      taken = in_later _ (sorting false 2 no_fields) _ (in_later _ (going_on false 2 3 (codes "c") no_fields) _
          (in_first (going_on false 2 4 (codes "c") no_fields) []));
      own = refl;
      link = refl;
      number = refl;
      same = refl;
      came = omega arith;
      risen = omega arith;
      met = met_four;
      right = last_turn first_asked first_replies;
    })
    (nothing_told (open_with [] ∷ []))))
