-- The disks that a server hands back.
use Rattle.std.specs.Prelude.{◌≡◌, ◌↔◌, ℕ, zero, suc, Bool, IsTrue, List, [], ◌∷◌, length, map, Some}
use Rattle.std.proofs.Common.{refl, sym, ap, subst, ◌∙◌, arith}
use Rattle.std.specs.List.{AllByRecursion, slice_get}
use Rattle.std.proofs.lemmas.List.{length-map}
use Rattle.outside.specs.declared.exchange.Spoken.{Spoken}
use Rattle.outside.specs.Devices.{NoneFell}
use Rattle.outside.specs.Disks.{Outcomes}
use Rattle.journal_frames.specs.Views.{JournalView, journal_facts}
use Rattle.node_model.specs.Letters.{Letter, Input}
use Rattle.node_model.specs.States.{NodeState}
use Rattle.node_model.specs.Journal.{Kept}
use Rattle.node_model.specs.World.{Held, World, Event, Run, goes, journal_at, stands}
use Rattle.node_model.proofs.Journals.{journal_got}
use Rattle.node_progress.specs.Firsts.{IsFirst}
use Rattle.driver_steps.specs.declared.seat.Seat.{Seat}
use Rattle.driver_steps.specs.Crashes.{LeavesKept, Noted}
use Rattle.driver_steps.specs.Seats.{AreHeld, Keeps, seat_since, seat_view, since_then}
use Rattle.driver_steps.proofs.Crashes.{leads_nowhere}
use Rattle.driver_steps.proofs.Seats.{held_kept, held_len}
use Rattle.node_cell.specs.declared.view.Placed.{Placed}
use Rattle.node_cell.specs.Courses.{IsOnWay, node_facts, with_marks}
use Rattle.node_cell.proofs.Lists.{all_at, get_front}
use Rattle.node_cell.specs.Standing.{AreFrom, Ends}
use Rattle.conn_server.specs.Conversations.{LinkFacts, Served, WereServed, some_failed}
use Rattle.pipe_driver.proofs.Covers.{got_mapped}
use Rattle.cluster_service.specs.Counts.{OneRoseWhere}
use Rattle.cluster_service.specs.Crashes.{IsOfTheWay, IsOfWorld, LeaveSuch, LeaveTheWay}
use Rattle.journal_starts.specs.Journals.{AreJournals, IsJournal}
use Rattle.cluster_service.specs.Openings.{InPairs}
use Rattle.cluster_service.specs.Servers.{AreJournalsUpTo, AreKeptFrom, IsKeptFrom, IsUpTo, LeaveUpTo, LeavesNoLessThan, ServerHeadline}
use Rattle.cluster_service.proofs.Crashes.{all_weaker, at_place, leaves_then, left_alone, of_the_first, seats_leave}
use Rattle.cluster_service.proofs.Firsts.{happens_count}
use Rattle.cluster_service.proofs.SeatFacts.{kept_in_files}
use Rattle.node_replay.specs.Restarts.{stays}
use Rattle.restart_laws.specs.Calls.{wholes}
use Rattle.restart_laws.proofs.ReachedCalls.{run_whole}
use Rattle.cluster_service.proofs.OneHistories.{one_history}
use Rattle.cluster_service.proofs.Served.{IsAfter, after_calm, after_later, after_places, after_rose, all_by_place, each_was, in_pairs, no_more, none_failed_at}

pub mapped_twice : {A B C : Type 0} (g : B → C) (h : A → B) (xs : List A) → map g (map h xs) ≡ map (λ x. g (h x)) xs
mapped_twice g h [] = refl
mapped_twice {C = C} g h (x ∷ xs) = ap (λ (ys : List C). g (h x) ∷ ys) (mapped_twice g h xs)

-- what is said of all disks is said of those of the nodes
pub told_placed : {N D X : Type 0} (f : D → X) (disks : List D) (placed : List (Placed N (JournalView D))) → disks ≡ map (λ p. p.seat.log.disk) placed
    → map f disks ≡ map (λ p. f p.seat.log.disk) placed
told_placed {N = N} {D = D} f disks placed is =
    ap (λ (ds : List D). map f ds) is ∙ mapped_twice f (λ (p : Placed N (JournalView D)). p.seat.log.disk) placed

run_count : (u : World) (events : List Event) (w : World) → Run u events w → length w.nodes ≡ length u.nodes
run_count _ _ _ (stands w) = refl
run_count _ _ _ (goes u v w e events h run) = run_count v events w run ∙ happens_count u v e h

-- each file is the journal of its node
journal_there : (files : List (List ℕ)) (nodes : List Held) → AreJournals files nodes → (at : ℕ) (file : List ℕ) → slice_get files at ≡ Some file
    → IsJournal file (journal_at nodes at)
journal_there [] nodes are at file got = absurd (cc got)
journal_there (x ∷ files) [] are at file got = absurd are
journal_there (x ∷ files) (h ∷ nodes) are zero file got =
    let same : x ≡ file = cc got in
    subst (λ (y : List ℕ). IsJournal y h.kept) same are.0
journal_there (x ∷ files) (h ∷ nodes) are (suc at) file got = journal_there files nodes are.1 at file got

-- no steps more
up_to_end : {D : Type 0} (first : World) (tells : Bool) (moment : D → ℕ) (left_at : D → ℕ → Outcomes) (befores afters : List D) (w : World)
    → LeaveTheWay first tells moment left_at befores afters w → LeaveUpTo first tells moment left_at befores afters w
up_to_end first tells moment left_at befores afters w left told =
    all_weaker moment left_at (λ at file. IsOfTheWay first w at file) (λ at file. (v : World) × IsUpTo at w v × IsOfTheWay first v at file) befores afters
    (λ at file is. (w, no_more at w, is)) (left told)

-- nothing was served
pub none_served : {I S D : Type 0} (meaning : I → Input) (bytes : LinkFacts S) (first : World) (tells : Bool) (failed : Type 0) (files : List (List ℕ))
    (places : List (List ℕ)) (moment : D → ℕ) (left_at : D → ℕ → Outcomes) (befores afters : List D) → IsFirst first
    → (IsTrue tells → AreJournals files first.nodes) → LeaveTheWay first tells moment left_at befores afters first
    → ServerHeadline meaning bytes first tells failed files places (LeaveTheWay first tells moment left_at befores afters)
    (LeaveUpTo first tells moment left_at befores afters) (AreKeptFrom first tells moment left_at afters) []
none_served meaning bytes first tells failed files places moment left_at befores afters begins are left = record {
  events = [];
  end = first;
  run = stands first;
  none_missed = refl;
  journals = λ never. are;
  journals_up_to = λ told at file got. (first, no_more at first, journal_there files first.nodes (are told) at file got);
  crashes = λ never. left;
  crashes_up_to = up_to_end first tells moment left_at befores afters first left;
  history = one_history first begins [] first (stays first);
  marks = [];
  kept = tt;
  served = tt;
}

-- the same, where the disk that failed is said in other words
pub headline_as : {I S : Type 0} (meaning : I → Input) (bytes : LinkFacts S) (first : World) (tells : Bool) (failed other : Type 0) (files : List (List ℕ))
    (places : List (List ℕ)) (leaves leaves_up_to : World → Type 0) (keeps : World → List Noted → Type 0) (links : List (Spoken S)) → (failed → other)
    → ServerHeadline meaning bytes first tells failed files places leaves leaves_up_to keeps links
    → ServerHeadline meaning bytes first tells other files places leaves leaves_up_to keeps links
headline_as meaning bytes first tells failed other files places leaves leaves_up_to keeps links so h = record {
  events = h.events;
  end = h.end;
  run = h.run;
  none_missed = h.none_missed;
  journals = λ never. h.journals (λ is. never (so is));
  journals_up_to = h.journals_up_to;
  crashes = λ never. h.crashes (λ is. never (so is));
  crashes_up_to = h.crashes_up_to;
  history = h.history;
  marks = h.marks;
  kept = h.kept;
  served = h.served;
}

-- after more steps, or none
module _ {N D : Type 0} (state : N → NodeState) (steps : N → ℕ) (tells : Bool) (content : D → List ℕ) (moment : D → ℕ) (left_at : D → ℕ → Outcomes)
    (fault_count : D → ℕ) (place : D → List ℕ) (first : World) (w : World) (told : IsTrue tells) where
  up_to_places : (node : ℕ → ℕ) (disks : List D) (olds : List (Seat N (JournalView D))) (all : List (Placed N (JournalView D)))
      → LeaveSuch moment left_at (λ at. IsOfWorld first (node at)) disks (map (λ s. s.log.disk) olds) → length olds ≡ length all
      → ((at : ℕ) (p : Placed N (JournalView D)) → slice_get all at ≡ Some p → (old : JournalView D) → slice_get (map (λ s. s.log) olds) at ≡ Some old
      → (v : World) × IsUpTo (node at) w v × LeavesKept (journal_facts tells content moment left_at fault_count place) first old p.seat.log (node at) v)
      → LeaveSuch moment left_at (λ at file. (v : World) × IsUpTo (node at) w v × IsOfTheWay first v (node at) file) disks (map (λ p. p.seat.log.disk) all)
  up_to_places node [] [] [] early len kept = tt
  up_to_places node [] [] (p ∷ all) early len kept = absurd (omega (arith, len))
  up_to_places node [] (o ∷ olds) all early len kept = absurd early
  up_to_places node (disk ∷ disks) [] all early len kept = absurd early
  up_to_places node (disk ∷ disks) (o ∷ olds) [] early len kept = absurd (omega (arith, len))
  up_to_places node (disk ∷ disks) (o ∷ olds) (p ∷ all) early len kept = (
    (let k = kept zero p refl o.log refl in
        leaves_then moment left_at disk disk p.seat.log.disk (λ file. ⊥) (λ file. IsOfTheWay first k.0 (node zero) file)
        (λ file. (v : World) × IsUpTo (node zero) w v × IsOfTheWay first v (node zero) file) (left_alone moment left_at disk (λ file. ⊥))
        (at_place state steps tells content moment left_at fault_count place first k.0 told (node zero) disk o.log p.seat.log early.0 k.2)
        (λ file never. absurd never) (λ file is. (k.0, k.1, is))),
    up_to_places (λ at. node (suc at)) disks olds all early.1 (omega (arith, len)) (λ at. kept (suc at)),
  )

module _ {N D : Type 0} (state : N → NodeState) (steps : N → ℕ) (tells : Bool) (content : D → List ℕ) (moment : D → ℕ) (left_at : D → ℕ → Outcomes)
    (fault_count : D → ℕ) (place : D → List ℕ) (first : World) (seats : List (Seat N (JournalView D)))
    (held : AreHeld (seat_view state steps (journal_facts tells content moment left_at fault_count place)) seats first.nodes) where
  -- the nodes are as they were
  pub same_files : IsTrue tells → AreJournals (map content (map (λ s. s.log.disk) seats)) first.nodes
  same_files told =
      kept_in_files state steps tells content moment left_at fault_count place seats first.nodes
      (held_kept (seat_view state steps (journal_facts tells content moment left_at fault_count place)) seats first.nodes held) told

  pub same_leave : (disks : List D) → (IsTrue tells → LeaveSuch moment left_at (IsOfWorld first) disks (map (λ s. s.log.disk) seats))
      → LeaveTheWay first tells moment left_at disks (map (λ s. s.log.disk) seats) first
  same_leave disks early told =
      all_weaker moment left_at (IsOfWorld first) (λ at file. IsOfTheWay first first at file) disks (map (λ s. s.log.disk) seats)
      (λ at file stands. of_the_first first first at file (leads_nowhere first) stands) (early told)

  module _ {M I : Type 0} (letter : M → Letter) (meaning : I → Input) (placed : List (Placed N (JournalView D))) (events : List Event) (marks : List Noted)
      (w : World) (run : Run first events w) (from : AreFrom 0 placed)
      (ends : AllByRecursion (λ p. Ends (node_facts state steps letter meaning (journal_facts tells content moment left_at fault_count place))
      (with_marks (since_then seats first) marks) w p) placed) (count : length placed ≡ length seats) where
    after : InPairs (IsAfter (journal_facts tells content moment left_at fault_count place)) (map (λ s. s.log) seats) placed
    after =
        in_pairs (IsAfter (journal_facts tells content moment left_at fault_count place)) (map (λ s. s.log) seats) placed
        (λ at p got.
        let was = each_was (node_facts state steps letter meaning (journal_facts tells content moment left_at fault_count place))
        (with_marks (since_then seats first) marks) w placed from ends at p got in
        (was.first, (was.here, was.is)))
        (count ∙ sym (length-map seats (λ s. s.log)))

    before : {X : Type 0} (f : D → X) → map (λ (j : JournalView D). f j.disk) (map (λ s. s.log) seats) ≡ map (λ s. f s.log.disk) seats
    before f = mapped_twice (λ (j : JournalView D). f j.disk) (λ (s : Seat N (JournalView D)). s.log) seats

    module _ (disks : List D) (are : disks ≡ map (λ p. p.seat.log.disk) placed) where
      pub served_places : map place disks ≡ map (λ s. place s.log.disk) seats
      served_places =
          told_placed place disks placed are
          ∙ after_places (journal_facts tells content moment left_at fault_count place) (map (λ s. s.log) seats) placed after ∙ before place

      pub served_later : NoneFell (map (λ s. fault_count s.log.disk) seats) (map fault_count disks)
      served_later =
          subst (λ (ns : List ℕ). NoneFell ns (map fault_count disks)) (before fault_count)
          (subst (λ (ns : List ℕ). NoneFell (map (λ (j : JournalView D). fault_count j.disk) (map (λ s. s.log) seats)) ns)
          (sym (told_placed fault_count disks placed are))
          (after_later (journal_facts tells content moment left_at fault_count place) (map (λ s. s.log) seats) placed after))

      pub served_fault : (failed : Type 0) → failed ↔ IsTrue (some_failed placed)
          → OneRoseWhere failed (map (λ s. fault_count s.log.disk) seats) (map fault_count disks)
      served_fault failed where_it =
          subst (λ (ns : List ℕ). OneRoseWhere failed ns (map fault_count disks)) (before fault_count)
          (subst (λ (ns : List ℕ). OneRoseWhere failed (map (λ (j : JournalView D). fault_count j.disk) (map (λ s. s.log) seats)) ns)
          (sym (told_placed fault_count disks placed are)) (
            λ is. after_rose (journal_facts tells content moment left_at fault_count place) (map (λ s. s.log) seats) placed after (where_it.0 is),
            λ never. after_calm (journal_facts tells content moment left_at fault_count place) (map (λ s. s.log) seats) placed after
                (λ some. never (where_it.1 some)),
          ))

      -- whether a disk failed or not
      pub served_up_to : IsTrue tells → AreJournalsUpTo (map content disks) w
      served_up_to told at file got =
          let m = got_mapped (λ (p : Placed N (JournalView D)). content p.seat.log.disk) placed at file
          (subst (λ (fs : List (List ℕ)). slice_get fs at ≡ Some file) (told_placed content disks placed are) got) in
          let k = (each_was (node_facts state steps letter meaning (journal_facts tells content moment left_at fault_count place))
          (with_marks (since_then seats first) marks) w placed from ends at m.0 m.1).kept in
          let stored : journal_at k.end.nodes at ≡ k.held.kept = journal_got k.end.nodes at k.held k.here in (
            k.end,
            k.up_to,
            subst (λ (records : List Kept). IsJournal file records) (sym stored)
                (subst (λ (x : List ℕ). IsJournal x k.held.kept) m.2 (record { stands = k.keeps.found told told; readable = k.keeps.readable })),
          )

      pub served_leave_up_to : (befores : List D)
          → (IsTrue tells → LeaveSuch moment left_at (IsOfWorld first) befores (map (λ s. s.log.disk) seats))
          → LeaveUpTo first tells moment left_at befores disks w
      served_leave_up_to befores early told =
          subst (λ (ds : List D). LeaveSuch moment left_at (λ at file. (v : World) × IsUpTo at w v × IsOfTheWay first v at file) befores ds) (sym are)
          (up_to_places state steps tells content moment left_at fault_count place first w told (λ at. at) befores seats placed (early told) (sym count)
          (λ at p got old began.
          let l = (each_was (node_facts state steps letter meaning (journal_facts tells content moment left_at fault_count place))
          (with_marks (since_then seats first) marks) w placed from ends at p got).crash in
          (l.last, l.up_to, (l.leaves told).0 old began)))

      -- from the moments noted in a world on the way on no crash left less
      pub served_kept : AllByRecursion (λ n. IsOnWay first w n) marks → AreKeptFrom first tells moment left_at disks w marks
      served_kept ways =
          all_by_place (λ n. IsKeptFrom first tells moment left_at disks w n) marks
          (λ k n had.
          let way = all_at (λ n. IsOnWay first w n) marks k n had ways in
          record {
            before = way.before;
            behind = way.behind;
            each = λ told at disk from_moment got of.
                let m = got_mapped (λ (p : Placed N (JournalView D)). p.seat.log.disk) placed at disk
                (subst (λ (ds : List D). slice_get ds at ≡ Some disk) are got) in
                let l = (each_was (node_facts state steps letter meaning (journal_facts tells content moment left_at fault_count place))
                (with_marks (since_then seats first) marks) w placed from ends at m.0 m.1).crash in
                let kept = (l.leaves told).1 k n from_moment (get_front marks [] k n had) of in
                subst (λ (x : D). LeavesNoLessThan moment left_at w at x n.world from_moment) m.2
                (record { last = l.last; up_to = l.up_to; later = kept.later; left = kept.left });
          })

      module _ (never : ¬ IsTrue (some_failed placed)) where
        pub served_open : AllByRecursion (λ p. IsTrue p.seat.log.is_open) placed
        served_open =
            all_by_place (λ p. IsTrue p.seat.log.is_open) placed
            (λ at p got.
            ((each_was (node_facts state steps letter meaning (journal_facts tells content moment left_at fault_count place))
            (with_marks (since_then seats first) marks) w placed from ends at p got).stays
            (none_failed_at (journal_facts tells content moment left_at fault_count place) placed never at p got)).is_open)

        files_of : (nodes : List Held) (all : List (Placed N (JournalView D)))
            → ((at : ℕ) (p : Placed N (JournalView D)) → slice_get all at ≡ Some p → (h : Held) × ((slice_get nodes at ≡ Some h)
            × Keeps (seat_since state steps (journal_facts tells content moment left_at fault_count place) (with_marks (since_then seats first) marks) p.seat) h.kept))
            → length nodes ≡ length all → IsTrue tells → AreJournals (map content (map (λ p. p.seat.log.disk) all)) nodes
        files_of [] [] each long told = tt
        files_of [] (p ∷ all) each long told = absurd (omega (arith, long))
        files_of (h ∷ nodes) [] each long told = absurd (omega (arith, long))
        files_of (h ∷ nodes) (p ∷ all) each long told =
            let there = each zero p refl in
            let same : there.0 ≡ h = sym (cc there.1.0) in
            let is = subst (λ (x : Held). Keeps (seat_since state steps (journal_facts tells content moment left_at fault_count place) (with_marks (since_then seats first) marks) p.seat) x.kept) same there.1.1 in
            (record { stands = is.found told told; readable = is.readable }, files_of nodes all (λ at. each (suc at)) (omega (arith, long)) told)

        served_files : IsTrue tells → AreJournals (map content disks) w.nodes
        served_files told =
            subst (λ (ds : List D). AreJournals (map content ds) w.nodes) (sym are)
            (files_of w.nodes placed
            (λ at p got.
            let s = (each_was (node_facts state steps letter meaning (journal_facts tells content moment left_at fault_count place))
            (with_marks (since_then seats first) marks) w placed from ends at p got).stays
            (none_failed_at (journal_facts tells content moment left_at fault_count place) placed never at p got) in
            (s.held, (s.here, s.keeps)))
            (run_count first events w run
            ∙ (sym (held_len (seat_view state steps (journal_facts tells content moment left_at fault_count place)) seats first.nodes held) ∙ sym count))
            told)

        seat_at : (all : List (Placed N (JournalView D))) (at : ℕ) (s : Seat N (JournalView D)) → slice_get (map (λ p. p.seat) all) at ≡ Some s
            → (p : Placed N (JournalView D)) × ((slice_get all at ≡ Some p) × (p.seat ≡ s))
        seat_at [] at s got = absurd (cc got)
        seat_at (p ∷ all) zero s got = (p, (refl, cc got))
        seat_at (p ∷ all) (suc at) s got = seat_at all at s got

        served_leave : (befores : List D) → (IsTrue tells → LeaveSuch moment left_at (IsOfWorld first) befores (map (λ s. s.log.disk) seats))
            → LeaveTheWay first tells moment left_at befores disks w
        served_leave befores early told =
            subst (λ (ds : List D). LeaveSuch moment left_at (λ at file. IsOfTheWay first w at file) befores ds)
            (mapped_twice (λ (s : Seat N (JournalView D)). s.log.disk) (λ (p : Placed N (JournalView D)). p.seat) placed ∙ sym are)
            (seats_leave state steps tells content moment left_at fault_count place first w told befores seats (map (λ p. p.seat) placed) (early told)
            (sym count ∙ sym (length-map placed (λ p. p.seat)))
            (λ at s got.
            let there = seat_at placed at s got in
            let since =
            subst
            (λ (x : Seat N (JournalView D)).
            (seat_since state steps (journal_facts tells content moment left_at fault_count place) (with_marks (since_then seats first) marks) x).leaves at w)
            there.1.1
            ((each_was (node_facts state steps letter meaning (journal_facts tells content moment left_at fault_count place))
            (with_marks (since_then seats first) marks) w placed from ends at there.0 there.1.0).stays
            (none_failed_at (journal_facts tells content moment left_at fault_count place) placed never at there.0 there.1.0)).leaves in
            λ observable. ((since observable).0, λ k n from_moment none of. absurd (cc none))))

  -- the server ended
  pub some_served : {M I S : Type 0} (letter : M → Letter) (meaning : I → Input) (bytes : LinkFacts S)
      (placed : List (Placed N (JournalView D))) (links : List (Spoken S)) (disks befores : List D) (failed : Type 0) → IsFirst first → AreFrom 0 placed
      → length placed ≡ length seats → disks ≡ map (λ p. p.seat.log.disk) placed → (IsTrue (some_failed placed) → failed)
      → Served (node_facts state steps letter meaning (journal_facts tells content moment left_at fault_count place)) bytes
      (since_then seats first) first placed links
      → (IsTrue tells → LeaveSuch moment left_at (IsOfWorld first) befores (map (λ s. s.log.disk) seats))
      → ServerHeadline meaning bytes first tells failed (map content disks) (map place disks) (LeaveTheWay first tells moment left_at befores disks)
      (LeaveUpTo first tells moment left_at befores disks) (AreKeptFrom first tells moment left_at disks) links
  some_served letter meaning bytes placed links disks befores failed begins from count are where_it s early = record {
    events = s.events;
    end = s.world;
    run = s.run;
    none_missed = s.none_missed;
    journals = λ never. served_files letter meaning placed s.events s.marks s.world s.run from s.nodes count disks are (λ some. never (where_it some));
    journals_up_to = served_up_to letter meaning placed s.events s.marks s.world s.run from s.nodes count disks are;
    crashes = λ never. served_leave letter meaning placed s.events s.marks s.world s.run from s.nodes count disks are (λ some. never (where_it some)) befores early;
    crashes_up_to = served_leave_up_to letter meaning placed s.events s.marks s.world s.run from s.nodes count disks are befores early;
    history = one_history first begins (wholes s.events) s.world (run_whole first s.world s.events s.run);
    marks = s.marks;
    kept = served_kept letter meaning placed s.events s.marks s.world s.run from s.nodes count disks are s.on_way;
    served = subst (λ (ps : List (List ℕ)). WereServed meaning bytes ps first.now s.events s.marks s.world 0 links)
        (mapped_twice (λ (j : JournalView D). place j.disk) (λ (o : Seat N (JournalView D)). o.log) seats
        ∙ sym (served_places letter meaning placed s.events s.marks s.world s.run from s.nodes count disks are)) s.links_are;
  }
