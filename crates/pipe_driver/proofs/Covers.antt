-- Notes of all disks before what is written, and what they come to at the end.
use Rattle.std.proofs.Common.{◌≡◌, ◌⊎◌, inl, inr, ℕ, zero, suc, ◌+◌, ◌<◌, ◌≤◌, List, [], ◌∷◌, ◌++◌, length, take, drop, map, Bool, IsTrue, refl, sym, ap, subst}
use Rattle.std.proofs.Common.{◌∙◌, arith, length-append}
use Rattle.std.specs.Prelude.{Some}
use Rattle.std.specs.List.{slice_get}
use Rattle.std.proofs.lemmas.Bool.{cases_lt}
use Rattle.std.proofs.lemmas.List.{take-append-drop, take-append-le}
use Rattle.outside.specs.Logs.{LogFacts}
use Rattle.outside.specs.Notes.{Note}
use Rattle.node_model.specs.Schedule.{Round}
use Rattle.node_model.specs.States.{NodeState}
use Rattle.node_model.specs.World.{World}
use Rattle.node_traits.specs.declared.outputs.ToLink.{ToLink}
use Rattle.driver_steps.specs.declared.seat.Seat.{Seat}
use Rattle.driver_steps.specs.Crashes.{LeadsTo, LeavesNoLess, Noted, Since, with_notes}
use Rattle.driver_steps.specs.Seats.{AreDurable, EachLeaves, HasMore, Hosted, LeaveKept, notes_of, places_of, seat_since}
use Rattle.driver_steps.specs.Together.{TogetherSince, hosted}
use Rattle.driver_steps.specs.Worlds.{NetworkView, StandsFor}
use Rattle.driver_steps.proofs.Crashes.{counted_plain, counted_since, held_plain, held_since, leads_nowhere, leads_on, note_leaves}
use Rattle.driver_steps.proofs.Together.{together_noted}
use Rattle.pipe_driver.specs.Acknowledgements.{AreAcknowledgedBy, AreCovered, AreNoted, IsCovered}
use Rattle.pipe_driver.specs.Pieces.{IsPrefix}
use Rattle.pipe_driver.specs.Schedules.{HasServed}

-- LISTS

got_left : {X : Type 0} (xs ys : List X) (i : ℕ) (x : X) → slice_get xs i ≡ Some x → slice_get (xs ++ ys) i ≡ Some x
got_left [] ys i x got = absurd (cc got)
got_left (y ∷ xs) ys zero x got = got
got_left (y ∷ xs) ys (suc i) x got = got_left xs ys i x got

got_right : {X : Type 0} (xs ys : List X) (i : ℕ) (x : X) → slice_get ys i ≡ Some x → slice_get (xs ++ ys) (length xs + i) ≡ Some x
got_right {X} [] ys i x got =
    let same : i ≡ length {A = X} [] + i = omega arith in
    subst (λ (n : ℕ). slice_get ys n ≡ Some x) same got
got_right (y ∷ xs) ys i x got =
    let same : suc (length xs + i) ≡ length (y ∷ xs) + i = omega arith in
    subst (λ (n : ℕ). slice_get (y ∷ (xs ++ ys)) n ≡ Some x) same (got_right xs ys i x got)

mapped_got : {S X : Type 0} (f : S → X) (items : List S) (at : ℕ) (s : S) → slice_get items at ≡ Some s → slice_get (map f items) at ≡ Some (f s)
mapped_got f [] at s got = absurd (cc got)
mapped_got f (x ∷ items) zero s got = let same : x ≡ s = cc got in ap (λ z. Some (f z)) same
mapped_got f (x ∷ items) (suc at) s got = mapped_got f items at s got

pub got_mapped : {S X : Type 0} (f : S → X) (items : List S) (at : ℕ) (y : X) → slice_get (map f items) at ≡ Some y
    → (s : S) × (slice_get items at ≡ Some s) × (f s ≡ y)
got_mapped f [] at y got = absurd (cc got)
got_mapped f (x ∷ items) zero y got = (x, refl, cc got)
got_mapped f (x ∷ items) (suc at) y got = got_mapped f items at y got

-- NOTES

module _ {N L : Type 0} (facts : LogFacts L) (seats : List (Seat N L)) (w : World) (before : ℕ) where
  -- all disks, noted in a world
  abbrev pub now_noted : Noted
  now_noted = record { world = w; moments = map (λ (z : Seat N L). facts.moment z.log) seats; length = before }

  module _ (notes notes' : List Note) (more : notes' ≡ notes ++ notes_of facts before seats) where
    noted_now : (at : ℕ) (place : List ℕ) (s : Seat N L) → slice_get seats at ≡ Some s → facts.place s.log ≡ place
        → (moment which : ℕ) × (slice_get (map (λ (z : Seat N L). facts.moment z.log) seats) at ≡ Some moment)
        × (slice_get notes' which ≡ Some (record { place = place; moment = moment; length = before }))
    noted_now at place s got is = (
      facts.moment s.log,
      length notes + at,
      mapped_got (λ (z : Seat N L). facts.moment z.log) seats at s got,
      subst (λ (l : List Note). slice_get l (length notes + at) ≡ Some (record { place = place; moment = facts.moment s.log; length = before })) (sym more)
          (got_right notes (notes_of facts before seats) at _
          (mapped_got (λ (z : Seat N L). record { place = facts.place z.log; moment = facts.moment z.log; length = before }) seats at s got
          ∙ ap (λ (p : List ℕ). Some (record { place = p; moment = facts.moment s.log; length = before })) is)),
    )

    noted_each : (tells : Bool) (told : IsTrue tells) (noted : List Noted) → AreNoted tells notes (places_of facts.place seats) noted
        → (k : ℕ) (n : Noted) → slice_get (now_noted ∷ noted) k ≡ Some n → (at : ℕ) (place : List ℕ) → slice_get (places_of facts.place seats) at ≡ Some place
        → (moment which : ℕ) × (slice_get n.moments at ≡ Some moment)
        × (slice_get notes' which ≡ Some (record { place = place; moment = moment; length = n.length }))
    noted_each tells told noted are zero n had at place there =
        let s = got_mapped (λ (z : Seat N L). facts.place z.log) seats at place there in
        let same : now_noted ≡ n = cc had in
        subst (λ (x : Noted). (moment which : ℕ) × (slice_get x.moments at ≡ Some moment)
        × (slice_get notes' which ≡ Some (record { place = place; moment = moment; length = x.length }))) same (noted_now at place s.0 s.1 s.2)
    noted_each tells told noted are (suc k) n had at place there =
        let old = are told k n had at place there in (
          old.0,
          old.1,
          old.2,
          subst (λ (l : List Note). slice_get l old.1 ≡ Some (record { place = place; moment = old.0; length = n.length })) (sym more)
              (got_left notes (notes_of facts before seats) old.1 _ old.3),
        )

  -- the notes of one time more
  pub noted_more : (tells : Bool) (notes notes' : List Note) (places : List (List ℕ)) (noted : List Noted) → AreNoted tells notes places noted
      → places_of facts.place seats ≡ places → (IsTrue tells → notes' ≡ notes ++ notes_of facts before seats)
      → AreNoted tells notes' (places_of facts.place seats) (now_noted ∷ noted)
  noted_more tells notes notes' places noted are same more told =
      noted_each notes notes' (more told) tells told noted (subst (λ (p : List (List ℕ)). AreNoted tells notes p noted) (sym same) are)

  -- the world models the hosted nodes as before
  pub note_stands : (state : N → NodeState) (steps : N → ℕ) (since : Since L) (network : NetworkView) (handed : List ToLink) (next : ℕ) (shows : Bool) (notes notes' : List Note)
      → AreDurable facts seats → (IsTrue shows → notes' ≡ notes ++ notes_of facts before seats)
      → StandsFor (seat_since state steps facts since) (hosted shows facts since notes seats) network handed w next
      → StandsFor (seat_since state steps facts (with_notes since (now_noted ∷ since.noted))) (hosted shows facts since notes' seats) network handed w next
  note_stands state steps since network handed next shows notes notes' durable more s = record {
    nodes = held_since state steps facts (with_notes since (now_noted ∷ since.noted)) seats w.nodes (held_plain state steps facts since seats w.nodes s.nodes);
    counted = counted_since state steps facts (with_notes since (now_noted ∷ since.noted)) seats w.nodes
        (counted_plain state steps facts since seats w.nodes s.counted);
    crashes = record {
      each = note_leaves state steps facts since seats w s.nodes durable before s.crashes.each;
      together = λ shown told. subst (λ (l : List Note). TogetherSince facts since l seats w) (sym (more shown))
          (together_noted facts since notes (notes_of facts before seats) seats w (s.crashes.together shown told));
    };
    past = s.past;
    sent = s.sent;
    place = s.place;
    given = s.given;
  }

-- so is a round that was served
abbrev pub note_served : {N L : Type 0} (facts : LogFacts L) (seats : List (Seat N L)) (count : ℕ) (state : N → NodeState) (steps : N → ℕ) (since : Since L) (network : NetworkView)
    (handed : List ToLink) (before : World) (next : ℕ) (r : Round) (shows : Bool) (notes notes' : List Note) → AreDurable facts seats
    → (IsTrue shows → notes' ≡ notes ++ notes_of facts count seats)
    → (h : HasServed (seat_since state steps facts since) (hosted shows facts since notes seats) network handed before next r)
    → HasServed (seat_since state steps facts (with_notes since (now_noted facts seats h.end count ∷ since.noted))) (hosted shows facts since notes' seats) network
    handed before next r
note_served facts seats count state steps since network handed before next r shows notes notes' durable more h = record {
  events = h.events;
  end = h.end;
  round = h.round;
  stands = note_stands facts seats h.end count state steps since network handed (length h.end.sent) shows notes notes' durable more h.stands;
}

-- no note was taken yet
pub none_noted : (tells : Bool) (notes : List Note) (places : List (List ℕ)) → AreNoted tells notes places []
none_noted tells notes places told k n had = absurd (cc had)

-- the places are the same
pub noted_places : (tells : Bool) (notes : List Note) (places others : List (List ℕ)) (noted : List Noted) → others ≡ places
    → AreNoted tells notes places noted → AreNoted tells notes others noted
noted_places tells notes places others noted same are = subst (λ (p : List (List ℕ)). AreNoted tells notes p noted) (sym same) are

-- there may be more notes
pub noted_on : (tells : Bool) (notes notes' : List Note) (places : List (List ℕ)) (noted : List Noted) → (IsTrue tells → HasMore notes notes')
    → AreNoted tells notes places noted → AreNoted tells notes' places noted
noted_on tells notes notes' places noted more are told k n had at place there =
    let old = are told k n had at place there in
    let others = more told in (
      old.0,
      old.1,
      old.2,
      subst (λ (l : List Note). slice_get l old.1 ≡ Some (record { place = place; moment = old.0; length = n.length })) (sym others.1)
          (got_left notes others.0 old.1 _ old.3),
    )

-- BYTES

module _ (output : World → List ℕ → Type 0) (start : World) (held_before : List ℕ) where
  pub covered_on : (noted : List Noted) (put : List ℕ) (u w : World) → AreCovered output start noted held_before put u → LeadsTo u w
      → AreCovered output start noted held_before put w
  covered_on noted put u w are on offset below =
      let c = are offset below in
      record {
        which = c.which;
        note = c.note;
        out = c.out;
        here = c.here;
        from = c.from;
        to = leads_on c.note.world u w c.to on;
        outputs = c.outputs;
        has = c.has;
        before = c.before;
      }

  pub covered_part : (noted : List Noted) (part whole : List ℕ) (w : World) → IsPrefix part whole → AreCovered output start noted held_before whole w
      → AreCovered output start noted held_before part w
  covered_part noted part whole w (others, is) are offset below =
      let long : length whole ≡ length part + length others = ap (λ (l : List ℕ). length l) is ∙ length-append part others in
      let c = are offset (omega (arith, long, below)) in
      let same : take (offset + 1) whole ≡ take (offset + 1) part =
      ap (λ (l : List ℕ). take (offset + 1) l) is ∙ take-append-le (offset + 1) part others (omega (arith, below)) in
      record {
        which = c.which;
        note = c.note;
        out = c.out;
        here = c.here;
        from = c.from;
        to = c.to;
        outputs = c.outputs;
        has = subst (λ (l : List ℕ). IsPrefix l c.out) same c.has;
        before = c.before;
      }

  pub covered_none : (noted : List Noted) (put : List ℕ) (w : World) → put ≡ [] → AreCovered output start noted held_before put w
  covered_none noted put w none offset below = absurd (omega (arith, ap (λ (l : List ℕ). length l) none, below))

  module _ (u w : World) (noted : List Noted) (moments : List ℕ) (count : ℕ) (before more : List ℕ) (was : AreCovered output start noted held_before before u)
      (is : output w (before ++ more)) (from : LeadsTo start w) (on : LeadsTo u w) (few : count ≤ length held_before + length before) where
    covered_by : (offset : ℕ) → (offset < length before) ⊎ (length before ≤ offset)
        → IsCovered output start (record { world = w; moments = moments; length = count } ∷ noted) held_before (before ++ more) w offset
    covered_by offset (inl old) =
        let c = was offset old in
        record {
          which = suc c.which;
          note = c.note;
          out = c.out;
          here = c.here;
          from = c.from;
          to = leads_on c.note.world u w c.to on;
          outputs = c.outputs;
          has = subst (λ (l : List ℕ). IsPrefix l c.out) (sym (take-append-le (offset + 1) before more (omega (arith, old)))) c.has;
          before = c.before;
        }
    covered_by offset (inr new) = record {
      which = 0;
      note = record { world = w; moments = moments; length = count };
      out = before ++ more;
      here = refl;
      from = from;
      to = leads_nowhere w;
      outputs = is;
      has = (drop (offset + 1) (before ++ more), sym (take-append-drop (offset + 1) (before ++ more)));
      before = omega (arith, few, new);
    }

    -- more is written after one note more
    pub covered_more : AreCovered output start (record { world = w; moments = moments; length = count } ∷ noted) held_before (before ++ more) w
    covered_more offset below = covered_by offset (cases_lt offset (length before))

-- AT THE END

module _ {N L : Type 0} (state : N → NodeState) (steps : N → ℕ) (facts : LogFacts L) (since : Since L) (noted : List Noted) (output : World → List ℕ → Type 0) (start : World)
    (tells : Bool) (notes : List Note) (held_before : List ℕ) (seats : List (Seat N L)) (last : World) (put : List ℕ) where
  -- what was noted was kept since
  pub acknowledged : EachLeaves (seat_since state steps facts (with_notes since noted)) seats last → AreNoted tells notes (places_of facts.place seats) noted
      → (IsTrue tells → AreCovered output start noted held_before put last)
      → AreAcknowledgedBy facts tells output start notes held_before seats last put
  acknowledged leave are covered told files offset below =
      let c : IsCovered output start noted held_before put last offset = covered told offset below in
      record {
        given = c.note.world;
        out = c.out;
        from = c.from;
        to = c.to;
        outputs = c.outputs;
        has = c.has;
        each = λ at s got.
            let old = are told c.which c.note c.here at (facts.place s.log) (mapped_got (λ (z : Seat N L). facts.place z.log) seats at s got) in
            let less : LeavesNoLess facts c.note.world old.0 s.log at last = (leave at s got files).1 c.which c.note old.0 c.here old.2 in
            record {
              which = old.1;
              note = record { place = facts.place s.log; moment = old.0; length = c.note.length };
              taken = old.3;
              is_there = refl;
              before = c.before;
              later = less.later;
              left = less.left;
            };
      }

-- notes say nothing of the start
pub without_notes : {N L : Type 0} (state : N → NodeState) (steps : N → ℕ) (facts : LogFacts L) (since : Since L) (noted : List Noted) (hosts : Hosted (Seat N L)) (w : World)
    → since.noted ≡ [] → LeaveKept (seat_since state steps facts (with_notes since noted)) hosts w → LeaveKept (seat_since state steps facts since) hosts w
without_notes state steps facts since noted hosts w none leave = record {
  each = λ at s got files. (
    (leave.each at s got files).0,
    λ k n moment had of. absurd (cc (subst (λ (l : List Noted). slice_get l k ≡ Some n) none had)),
  );
  together = leave.together;
}
