use Rattle.std.proofs.Common.{◌≡◌, Some, None, refl, sym, arith}
use Rattle.std.specs.List.{slice_set}
use Rattle.std.proofs.lemmas.Result.{on_ok_weaker}
use Rattle.session_book.specs.Meanings.{session_view}
use Rattle.session_book.specs.Places.{place_of}
use Rattle.session_book.specs.Books.{kept_of, seen_in, room_in}
use Rattle.session_book.proofs.Places.{kept_by, changes_there, now_there}
use Rattle.session_book.proofs.Booked.{Changes, none_done, same_done, seen_same, room_no_less}
use Rattle.session_book.proofs.book.Book.reserve_run.Goals as goal

pub index_mut-kept-requires : goal.index_mut-kept-requires
index_mut-kept-requires c =
    let s = session_view c.args.s.now.session in
    let at : place_of c.args.self.now.places.entries s ≡ Some c.in-Some.place = sym c.in-Some.ensures in
    rw c.args.self.now.kept.ok.0 (c.args.self.now.apart.inside s c.in-Some.place at)

-- the session has notes, or had room made
pub returns-in-Some : goal.returns-in-Some
unfolding seen_in room_in
returns-in-Some c =
    let s = session_view c.args.s.now.session in
    let es = c.args.self.now.places.entries in
    let kept = c.args.self.now.kept.items in
    let place = c.in-Some.place in
    let was = c.index_mut-kept.result.now in
    let now = c.reserve_run.new.self in
    let old = kept_by es kept in
    let new = kept_by es (slice_set kept place now) in
    let at : place_of c.args.self.now.places.entries s ≡ Some c.in-Some.place = sym c.in-Some.ensures in
    let change = changes_there es kept c.args.self.now.apart s place at now was c.index_mut-kept.ensures.value in
    record {
      room = on_ok_weaker c.reserve_run.result (λ room. rw (now_there es kept c.args.self.now.apart s place at now) room) c.reserve_run.ensures.room;
      others = λ t. room_no_less s old new (Some was) now change c.reserve_run.ensures.no_less (session_view t);
      same = λ n. seen_same s old new (Some was) now change (same_done now was c.reserve_run.ensures.transaction c.reserve_run.ensures.notes) n;
    }

pub begin-requires : goal.begin-requires
begin-requires c = sym c.in_default.ensures

-- the session is new
pub returns-clause-others : goal.returns-clause-others
unfolding room_in
returns-clause-others c = λ t.
    let s = session_view c.args.s.now.session in
    let at : place_of c.args.self.now.places.entries (session_view c.args.s.now.session) ≡ None = sym c.in_default.ensures in
    let change : Changes (session_view c.args.s.now.session) (kept_of c.args.self.now) (kept_of c.begin.new.self) None c.in_ok-kept.kept = record { here = rw at refl; changed = c.in_ok-begin.ensures.ok } in
    room_no_less s (kept_of c.args.self.now) (kept_of c.begin.new.self) None c.in_ok-kept.kept change (omega arith) (session_view t)

pub returns-clause-same : goal.returns-clause-same
unfolding seen_in
returns-clause-same c = λ n.
    let s = session_view c.args.s.now.session in
    let at : place_of c.args.self.now.places.entries (session_view c.args.s.now.session) ≡ None = sym c.in_default.ensures in
    let change : Changes (session_view c.args.s.now.session) (kept_of c.args.self.now) (kept_of c.begin.new.self) None c.in_ok-kept.kept = record { here = rw at refl; changed = c.in_ok-begin.ensures.ok } in
    seen_same s (kept_of c.args.self.now) (kept_of c.begin.new.self) None c.in_ok-kept.kept change (none_done c.in_ok-kept.kept c.in_ok-kept.ensures.none) n
