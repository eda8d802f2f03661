use Rattle.std.proofs.Common.{◌≡◌, ◌∙◌, ◌+◌, ◌≤◌, ◌∷◌, drop, suc, add-one, drop-cons, arith, sym, ap, true}
use Rattle.history_model.specs.Notes.{same_session}
use Rattle.history_model.proofs.Noted.{same_session_is}
use Rattle.statement_views.specs.Views.{session_view}
use Rattle.session_book.specs.Books.{kept_of, room_in, room_of}
use Rattle.session_book.specs.Records.{count_of, counted}
use Rattle.session_book.proofs.Counts.{counted_on, room_step}
use Rattle.session_book.proofs.book.Book.reserve_merge.Goals as goal

pub loop-record-preserved : goal.loop-record-preserved
unfolding room_in
loop-record-preserved c =
    let items = c.deref-record-items.result.now in
    let at = c.loop-record.record-index in
    let r = c.record-item.result in
    let cut : drop c.loop-record.record-index c.deref-record-items.result.now ≡ c.record-item.result ∷ drop (c.loop-record.record-index + 1) c.deref-record-items.result.now =
    rw add-one (drop-cons items at r c.loop-record-test.true ∙ ap (λ first. first ∷ drop (suc at) items) (sym c.record-item.is)) in
    record {
      whole = c.loop-record.invariant.whole;
      counts = λ x. counted_on _ _ _ _ _ (ap (λ rs. count_of x rs) cut) (c.in_ok-count.ensures.counts x) (c.loop-record.invariant.counts x);
      room = λ t.
          let s = session_view c.record-item.result.session in
          let more = c.in_ok-count.ensures.counts (session_view t) in
          rw more (room_step (same_session s (session_view t)) _ _ _ _
          (λ (here : same_session (session_view c.record-item.result.session) (session_view t) ≡ true).
          let same = same_session_is s (session_view t) here in
          let counted_there = rw here at more in
          let there : counted c.added.new.counts.entries (session_view t) ≤ room_of (kept_of c.reserve_run.new.self (session_view t)) =
          rw (← same, ← c.in_ok-count.ensures.count) c.in_ok-reserve_run.ensures.room in
          omega (arith, there, counted_there))
          (c.reserve_run.ensures.others t) (c.loop-record.invariant.room t));
      others = λ t. omega (arith, c.loop-record.invariant.others t, c.reserve_run.ensures.others t);
      same = λ n. c.reserve_run.ensures.same n ∙ c.loop-record.invariant.same n;
    }
