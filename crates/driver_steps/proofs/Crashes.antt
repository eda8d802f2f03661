-- What a crash leaves while events lead on.
use Rattle.std.proofs.Common.{◌≡◌, inl, inr, ℕ, zero, suc, List, [], ◌∷◌, ◌++◌, map, IsTrue, sym, ap, subst, ◌∙◌, arith}
use Rattle.std.specs.Prelude.{Some}
use Rattle.std.specs.List.{slice_get, slice_set}
use Rattle.std.proofs.lemmas.Bool.{cases_lt}
use Rattle.std.proofs.lemmas.List.{map-append}
use Rattle.outside.specs.Logs.{IsDurable, LogFacts, WithOrWithout}
use Rattle.node_model.specs.Journal.{Kept, record_kept}
use Rattle.node_model.specs.RecordFormat.{spelled}
use Rattle.node_model.specs.States.{NodeState}
use Rattle.node_model.specs.World.{Held, World, Event, Happens, journal_at}
use Rattle.node_model.proofs.Journals.{journal_got}
use Rattle.node_replay.specs.Restarts.{EventOrStop, Occurs, occurs, whole_event, proceeds, stays}
use Rattle.restart_laws.proofs.ReachedCalls.{stops_then}
use Rattle.node_traits.specs.Calls.{LeavesThen}
use Rattle.node_traits.specs.Effects.{spellings}
use Rattle.driver_steps.specs.declared.seat.Seat.{Seat}
use Rattle.driver_steps.specs.Crashes.{Noted, Since, LeadsTo, Passes, LeavesKept, LeavesNoLess, LeavesSinceNotes, leaves_kept, with_notes}
use Rattle.driver_steps.specs.Seats.{SeatView, AreCounted, AreHeld, AreKept, EachLeaves, seat_since, seat_view, since_then}
use Rattle.driver_steps.proofs.Seats.{HeldAt, held_at}

-- THE WAY

pub leads_nowhere : (w : World) → LeadsTo w w
leads_nowhere w = ([], stays w)

pub leads_through : (e : EventOrStop) (v w : World) → Occurs v e w → LeadsTo v w
leads_through e v w h = (e ∷ [], proceeds v w w e [] h (stays w))

pub leads_by : (e : Event) (v w : World) → Happens v e w → LeadsTo v w
leads_by e v w h = leads_through (whole_event e) v w (occurs v w e h)

pub leads_on : (u v w : World) → LeadsTo u v → LeadsTo v w → LeadsTo u w
leads_on u v w first more = (first.0 ++ more.0, stops_then u v w first.0 more.0 first.1 more.1)

passes_on : (u v w : World) (P : World → Type 0) → Passes u v P → LeadsTo v w → Passes u w P
passes_on u v w P p on = record { world = p.world; before = p.before; behind = leads_on p.world v w p.behind on; has = p.has }

-- JOURNALS

pub spellings_append : (kept more : List Kept) → spellings (kept ++ more) ≡ spellings kept ++ spellings more
spellings_append kept more = map-append (λ (k : Kept). spelled 1 (record_kept k)) kept more

-- what holds of each item at its place, where one is another
each_set : {S : Type 0} (R : ℕ → S → Type 0) (items : List S) (at : ℕ) (t : S) → ((k : ℕ) (s : S) → slice_get items k ≡ Some s → R k s) → R at t
    → (k : ℕ) (s : S) → slice_get (slice_set items at t) k ≡ Some s → R k s
each_set R [] at t all here k s got = absurd (cc)
each_set {S} R (x ∷ items) zero t all here zero s got =
    let same : t ≡ s = cc in
    subst (λ (z : S). R zero z) same here
each_set R (x ∷ items) zero t all here (suc k) s got = all (suc k) s got
each_set R (x ∷ items) (suc at) t all here zero s got = all zero s got
each_set R (x ∷ items) (suc at) t all here (suc k) s got = each_set (λ n. R (suc n)) items at t (λ n. all (suc n)) here k s got

-- ONE LOG

module _ {L : Type 0} (facts : LogFacts L) (at : ℕ) where
  -- it was left alone
  pub kept_on : (first : World) (old new : L) (v w : World) → LeavesKept facts first old new at v → LeadsTo v w → LeavesKept facts first old new at w
  kept_on first old new v w k on = record {
    came = leads_on first v w k.came on;
    left = record {
      later = k.left.later;
      before = k.left.before;
      each = λ t file past to left. passes_on first v w _ (k.left.each t file past to left) on;
    };
  }

  pub no_less_on : (given : World) (m : ℕ) (new : L) (v w : World) → LeavesNoLess facts given m new at v → LeadsTo v w
      → LeavesNoLess facts given m new at w
  no_less_on given m new v w k on = record {
    came = leads_on given v w k.came on;
    later = k.later;
    left = λ t file from to left. passes_on given v w _ (k.left t file from to left) on;
  }

  module _ (new after : L) (v w : World) (kept more : List Kept)
      (whole : LeavesThen facts.moment facts.left_at new after (λ file. WithOrWithout (facts.finds file) (spellings kept) (spellings more)))
      (was : journal_at v.nodes at ≡ kept) (is : journal_at w.nodes at ≡ kept ++ more) (on : LeadsTo v w) where
    found : (first : World) → LeadsTo first v → (file : List ℕ) → WithOrWithout (facts.finds file) (spellings kept) (spellings more)
        → Passes first w (λ x. facts.finds file (spellings (journal_at x.nodes at)))
    found first came file (inl without) = record {
      world = v;
      before = came;
      behind = on;
      has = subst (λ (l : List Kept). facts.finds file (spellings l)) (sym was) without;
    }
    found first came file (inr with_more) = record {
      world = w;
      before = leads_on first v w came on;
      behind = leads_nowhere w;
      has = subst (λ (l : List Kept). facts.finds file (spellings l)) (sym is)
          (subst (λ (l : List (List ℕ)). facts.finds file l) (sym (spellings_append kept more)) with_more);
    }

    -- records were appended to it, or were to be
    pub kept_step : (first : World) (old : L) → LeavesKept facts first old new at v → LeavesKept facts first old after at w
    kept_step first old k = record {
      came = leads_on first v w k.came on;
      left = record {
        later = omega (arith, k.left.later, whole.later);
        before = λ t file le left. k.left.before t file le (whole.before t file (omega (arith, le, k.left.later)) left);
        each = λ t file past to left. elim (cases_lt (facts.moment new) t) [
          | inl later ↦ found first k.came file (whole.each t file later to left)
          | inr until ↦ passes_on first v w _ (k.left.each t file past until (whole.before t file until left)) on
        ];
      };
    }

    pub no_less_step : (given : World) (m : ℕ) → LeavesNoLess facts given m new at v → LeavesNoLess facts given m after at w
    no_less_step given m n = record {
      came = leads_on given v w n.came on;
      later = omega (arith, n.later, whole.later);
      left = λ t file from to left. elim (cases_lt (facts.moment new) t) [
        | inl later ↦ found given n.came file (whole.each t file later to left)
        | inr until ↦ passes_on given v w _ (n.left t file from until (whole.before t file until left)) on
      ];
    }

module _ {L : Type 0} (facts : LogFacts L) (since : Since L) where
  -- events lead on, and the log is left alone, as where another node takes a step
  pub leaves_on : (log : L) (at : ℕ) (v w : World) → leaves_kept facts since log at v → LeadsTo v w → leaves_kept facts since log at w
  leaves_on log at v w all on tells = (
    λ old began. kept_on facts at since.world old log v w ((all tells).0 old began) on,
    λ j n m had of. no_less_on facts at n.world m log v w ((all tells).1 j n m had of) on,
  )

  -- its own node takes a step, or is to
  pub leaves_step : (old new : L) (at : ℕ) (v w : World) (kept more : List Kept) → leaves_kept facts since old at v
      → (IsTrue facts.tells → LeavesThen facts.moment facts.left_at old new
      (λ file. WithOrWithout (facts.finds file) (facts.records old) (spellings more)))
      → LeadsTo v w → (IsTrue facts.tells → facts.records old ≡ spellings kept) → journal_at v.nodes at ≡ kept → journal_at w.nodes at ≡ kept ++ more
      → leaves_kept facts since new at w
  leaves_step old new at v w kept more all whole on written was is tells =
      let also : LeavesThen facts.moment facts.left_at old new (λ file. WithOrWithout (facts.finds file) (spellings kept) (spellings more)) =
      subst (λ (l : List (List ℕ)). LeavesThen facts.moment facts.left_at old new (λ file. WithOrWithout (facts.finds file) l (spellings more)))
      (written tells) (whole tells) in (
        λ first began. kept_step facts at old new v w kept more also was is on since.world first ((all tells).0 first began),
        λ j n m had of. no_less_step facts at old new v w kept more also was is on n.world m ((all tells).1 j n m had of),
      )

-- ALL LOGS

-- events lead on, and what is said of crashes of one node is said of another there
pub all_leave : {S : Type 0} (view : S → SeatView) (on : (s : S) (at : ℕ) (v w : World) → (view s).leaves at v → LeadsTo v w → (view s).leaves at w)
    (seats : List S) (v w : World) (at : ℕ) (t : S) → EachLeaves view seats v → LeadsTo v w → (view t).leaves at w
    → EachLeaves view (slice_set seats at t) w
all_leave {S} view on seats v w at t all way here =
    each_set (λ k (s : S). (view s).leaves k w) seats at t (λ k s there. on s k v w (all k s there) way) here

-- THE START

module _ {N L : Type 0} where
  logs_there : (seats : List (Seat N L)) (at : ℕ) (s : Seat N L) → slice_get seats at ≡ Some s → slice_get (map (λ (z : Seat N L). z.log) seats) at ≡ Some
      s.log
  logs_there [] at s got = absurd (cc)
  logs_there (x ∷ seats) zero s got = let same : x ≡ s = cc in ap (λ (z : Seat N L). Some z.log) same
  logs_there (x ∷ seats) (suc at) s got = logs_there seats at s got

  same_log : (seats : List (Seat N L)) (at : ℕ) (s : Seat N L) (old : L) → slice_get seats at ≡ Some s
      → slice_get (map (λ (z : Seat N L). z.log) seats) at ≡ Some old → s.log ≡ old
  same_log seats at s old got began = let both : Some s.log ≡ Some old = sym (logs_there seats at s got) ∙ began in cc both

module _ {N L : Type 0} (state : N → NodeState) (steps : N → ℕ) (facts : LogFacts L) where
  -- nothing happened since then
  pub start_leaves : (seats : List (Seat N L)) (w : World) → EachLeaves (seat_since state steps facts (since_then seats w)) seats w
  start_leaves seats w at s got tells = (
    λ old began. subst (λ (l : L). LeavesKept facts w l s.log at w) (same_log seats at s old got began)
        (record {
          came = leads_nowhere w;
          left = record {
            later = omega arith;
            before = λ t file le left. left;
            each = λ t file past to left. absurd (omega (arith, past, to));
          };
        }),
    λ k n m had of. absurd (cc had),
  )

  module _ (since : Since L) where
    -- of nodes of which nothing was said of crashes
    pub held_since : (seats : List (Seat N L)) (held : List Held) → AreHeld (seat_view state steps facts) seats held
        → AreHeld (seat_since state steps facts since) seats held
    held_since [] [] are = tt
    held_since [] (h ∷ held) are = absurd are
    held_since (s ∷ seats) [] are = absurd are
    held_since (s ∷ seats) (h ∷ held) are = (
      record {
        same = are.0.same;
        counted = are.0.counted;
        written = are.0.written;
        keeps = record { readable = are.0.keeps.readable; found = are.0.keeps.found };
      },
      held_since seats held are.1,
    )

    pub held_plain : (seats : List (Seat N L)) (held : List Held) → AreHeld (seat_since state steps facts since) seats held
        → AreHeld (seat_view state steps facts) seats held
    held_plain [] [] are = tt
    held_plain [] (h ∷ held) are = absurd are
    held_plain (s ∷ seats) [] are = absurd are
    held_plain (s ∷ seats) (h ∷ held) are = (
      record {
        same = are.0.same;
        counted = are.0.counted;
        written = are.0.written;
        keeps = record { readable = are.0.keeps.readable; found = are.0.keeps.found };
      },
      held_plain seats held are.1,
    )

    pub counted_since : (seats : List (Seat N L)) (held : List Held) → AreCounted (seat_view state steps facts) seats held
        → AreCounted (seat_since state steps facts since) seats held
    counted_since [] [] are = tt
    counted_since [] (h ∷ held) are = absurd are
    counted_since (s ∷ seats) [] are = absurd are
    counted_since (s ∷ seats) (h ∷ held) are = (are.0, counted_since seats held are.1)

    pub counted_plain : (seats : List (Seat N L)) (held : List Held) → AreCounted (seat_since state steps facts since) seats held
        → AreCounted (seat_view state steps facts) seats held
    counted_plain [] [] are = tt
    counted_plain [] (h ∷ held) are = absurd are
    counted_plain (s ∷ seats) [] are = absurd are
    counted_plain (s ∷ seats) (h ∷ held) are = (are.0, counted_plain seats held are.1)

    pub kept_plain : (seats : List (Seat N L)) (held : List Held) → AreKept (seat_since state steps facts since) seats held
        → AreKept (seat_view state steps facts) seats held
    kept_plain [] [] are = tt
    kept_plain [] (h ∷ held) are = absurd are
    kept_plain (s ∷ seats) [] are = absurd are
    kept_plain (s ∷ seats) (h ∷ held) are = (record { readable = are.0.readable; found = are.0.found }, kept_plain seats held are.1)

    -- A NOTE OF ALL DISKS

    moments_there : (seats : List (Seat N L)) (at : ℕ) (s : Seat N L) (m : ℕ) → slice_get seats at ≡ Some s
        → slice_get (map (λ (z : Seat N L). facts.moment z.log) seats) at ≡ Some m → m ≡ facts.moment s.log
    moments_there [] at s m got of = absurd (cc)
    moments_there (x ∷ seats) zero s m got of = cc
    moments_there (x ∷ seats) (suc at) s m got of = moments_there seats at s m got of

    module _ (seats : List (Seat N L)) (w : World) (are : AreHeld (seat_since state steps facts since) seats w.nodes)
        (durable : (at : ℕ) (s : Seat N L) → slice_get seats at ≡ Some s → IsDurable facts s.log) where
      no_less_now : (at : ℕ) (s : Seat N L) → slice_get seats at ≡ Some s → IsTrue facts.tells → LeavesNoLess facts w (facts.moment s.log) s.log at w
      no_less_now at s got tells =
          let place : HeldAt (seat_since state steps facts since s) w.nodes at = held_at (seat_since state steps facts since) seats w.nodes at s are got in
          record {
            came = leads_nowhere w;
            later = omega arith;
            left = λ t file from to left. record {
              world = w;
              before = leads_nowhere w;
              behind = leads_nowhere w;
              has = subst (λ (l : List Kept). facts.finds file (spellings l)) (sym (journal_got w.nodes at place.old place.here))
                  (subst (λ (l : List (List ℕ)). facts.finds file l) (place.is.written tells)
                  (durable at s got tells file (let now : t ≡ facts.moment s.log = omega (arith, from, to) in subst (λ n. facts.left_at s.log n file) now left)));
            };
          }

      -- where all disks are noted while all logs are durable, a crash from then on leaves no less than what the nodes keep
      pub note_leaves : (length : ℕ) → EachLeaves (seat_since state steps facts since) seats w
          → EachLeaves (seat_since state steps facts
          (with_notes since (record { world = w; moments = map (λ (z : Seat N L). facts.moment z.log) seats; length = length } ∷ since.noted))) seats w
      note_leaves length all at s got tells = ((all at s got tells).0, noted_by)
        where
          noted_by : LeavesSinceNotes facts (record { world = w; moments = map (λ (z : Seat N L). facts.moment z.log) seats; length = length } ∷ since.noted)
              s.log at w
          noted_by zero n m had of =
              let same : record { world = w; moments = map (λ (z : Seat N L). facts.moment z.log) seats; length = length } ≡ n = cc had in
              subst (λ (x : World). LeavesNoLess facts x m s.log at w) (ap (λ (x : Noted). x.world) same)
              (subst (λ (t : ℕ). LeavesNoLess facts w t s.log at w)
              (sym (moments_there seats at s m got (subst (λ (x : Noted). slice_get x.moments at ≡ Some m) (sym same) of)))
              (no_less_now at s got tells))
          noted_by (suc k) n m had of = (all at s got tells).1 k n m had of
