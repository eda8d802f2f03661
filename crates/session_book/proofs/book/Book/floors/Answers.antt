use Rattle.std.proofs.Common.{◌∙◌, inl, refl, sym, ap}
use Rattle.std.specs.Map.Iter.{deref_pair}
use Rattle.std.proofs.lemmas.Map.Iter.{rest_more}
use Rattle.statement_views.specs.Views.{session_view}
use Rattle.std.proofs.lemmas.List.Elements.{recursion_from_All}
use Rattle.history_model.specs.Notes.{seen}
use Rattle.session_book.specs.Books.{seen_in}
use Rattle.session_book.proofs.Order.{are_ordered, none_yet, order_step}
use Rattle.session_book.proofs.Floors.{floor_end, floor_step, kept_none, kept_some, looked_up, seen_floors, slot_none, slot_some}
use Rattle.session_book.proofs.book.Book.floors.Goals as goal

pub loop-session-preserved-in-Continue-1 : goal.loop-session-preserved-in-Continue-1
loop-session-preserved-in-Continue-1 c =
    let found = c.in-Some-get.ensures.lookup in
    let kept = c.args.self.now.kept.items in
    let slot = slot_some kept c.deref.result.now c.in-Some.place.now c.in-Some-get.kept.now c.deref.ensures.value found.3.0 (found.3.1 c.in-Some-get.kept.now) in
    let front = rest_more deref_pair _ _ _ _ c.in-Some.is c.next.ensures.steps in
    record {
      order = order_step c.loop-session.sessions.items _ (c.in-Some.session.now, c.in-Some.place.now) _ _ front c.loop-session.invariant.order c.in_ok-push_session.ensures.items;
      notes = floor_step kept _ (c.in-Some.session.now, c.in-Some.place.now) c.loop-session.session-iterator c.next.new.self _ _ c.loop-session.invariant.notes front
          (kept_some (session_view c.in-Some.session.now) _ c.in-Some-get.kept.now _ _ slot c.in_ok-push_session.ensures.notes);
    }

pub loop-session-preserved : goal.loop-session-preserved
loop-session-preserved c =
    let found = c.in_default.ensures.lookup in
    let kept = c.args.self.now.kept.items in
    let slot = slot_none kept c.deref.result.now c.in-Some.place.now c.deref.ensures.value found.3 in
    let front = rest_more deref_pair _ _ _ _ c.in-Some.is c.next.ensures.steps in
    record {
      order = order_step c.loop-session.sessions.items _ (c.in-Some.session.now, c.in-Some.place.now) _ _ front c.loop-session.invariant.order (inl refl);
      notes = floor_step kept _ (c.in-Some.session.now, c.in-Some.place.now) c.loop-session.session-iterator c.next.new.self _ _ c.loop-session.invariant.notes front
          (kept_none (session_view c.in-Some.session.now) _ _ slot);
    }

-- none was added yet
pub loop-session-init : goal.loop-session-init
loop-session-init c =
    let gives = c.into_iter-session-iterator.ensures.into_iter_gives in
    record { order = rw (c.new-sessions.ensures.items, gives.0) (none_yet _ gives.5); notes = rw (c.new-sessions.ensures.items, gives.0) refl }

-- each session that is left was added
pub returns : goal.returns
unfolding seen_in
returns c = record {
  notes = λ n.
      let kept = c.args.self.now.kept.items in
      let places = c.args.self.now.places in
      let found = recursion_from_All _ _ c.into_iter-session-iterator.ensures.into_iter_gives.6 in
      seen_floors kept places.entries (looked_up places places.entries found) n
      ∙ ap (λ ns. seen ns n) (sym (floor_end kept _ c.loop-session.session-iterator _ c.loop-session.invariant.notes c.in-None.ensures.steps.0));
  order = are_ordered c.loop-session.sessions.items _ c.loop-session.invariant.order;
}
