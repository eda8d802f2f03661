-- One step more, and what a crash leaves of all disks together.
use Rattle.std.proofs.Common.{◌≡◌, ◌⊎◌, inl, inr, ℕ, zero, suc, ◌+◌, ◌<◌, ◌≤◌, List, [], ◌∷◌, ◌++◌, map, Bool, IsTrue, refl, sym, ap, subst, arith, ◌∙◌}
use Rattle.std.proofs.Common.{append_assoc, append-nil}
use Rattle.std.proofs.lemmas.Bool.{cases_lt}
use Rattle.std.proofs.lemmas.List.{map-append}
use Rattle.std.proofs.lemmas.Grind.{common_steps}
use Rattle.std.specs.Prelude.{Some}
use Rattle.std.specs.List.{slice_get, slice_set}
use Rattle.outside.specs.Logs.{LogFacts, WithOrWithout}
use Rattle.outside.specs.Notes.{Note}
use Rattle.node_model.specs.Journal.{Kept}
use Rattle.node_model.specs.Letters.{Input}
use Rattle.node_model.specs.States.{NodeState}
use Rattle.node_model.specs.World.{Held, Misses, Moves, World, steps_after as steps_by}
use Rattle.node_traits.specs.Calls.{IsWhole, LeavesThen, log_call}
use Rattle.node_traits.specs.Effects.{spellings}
use Rattle.node_traits.proofs.Calls.{left_alone}
use Rattle.driver_steps.specs.Crashes.{LeadsTo, Since}
use Rattle.driver_steps.specs.Cuts.{Cut, IsRow, HasCuts, Between, MightLeave, OneMove, LeaveTogether}
use Rattle.driver_steps.specs.Seats.{AreDurableWhileOpen, AreHeld, AreOpen, LeaveKept, notes_of, seat_since, since_noted}
use Rattle.driver_steps.specs.Together.{AreFound, AreOfOne, TogetherSince, hosted, stored_in}
use Rattle.driver_steps.specs.declared.seat.Seat.{Seat}
use Rattle.driver_steps.proofs.Crashes.{spellings_append, start_leaves}
use Rattle.driver_steps.proofs.Cuts.{AreUpTo, along_as, along_then, along_up, between_up, earlier, has_cuts_more, has_cuts_then, moved_up, one_moved, up_to_then}
use Rattle.driver_steps.proofs.Seats.{HeldAt, held_at, open_at}

-- LISTS

map_set : {A B : Type 0} (f : A → B) (items : List A) (at : ℕ) (x : A) → map f (slice_set items at x) ≡ slice_set (map f items) at (f x)
map_set f [] at x = refl
map_set f (y ∷ items) zero x = refl
map_set {B = B} f (y ∷ items) (suc at) x = ap (λ (l : List B). f y ∷ l) (map_set f items at x)

map_twice : {A B C : Type 0} (f : B → C) (g : A → B) (items : List A) → map f (map g items) ≡ map (λ (x : A). f (g x)) items
map_twice f g [] = refl
map_twice {C = C} f g (x ∷ items) = ap (λ (l : List C). f (g x) ∷ l) (map_twice f g items)

got_map : {A B : Type 0} (f : A → B) (items : List A) (at : ℕ) (x : A) → slice_get items at ≡ Some x → slice_get (map f items) at ≡ Some (f x)
got_map f [] at x got = absurd (cc)
got_map f (y ∷ items) zero x got = let same : y ≡ x = cc in ap (λ z. Some (f z)) same
got_map f (y ∷ items) (suc at) x got = got_map f items at x got

-- what is put in its own place changes nothing
set_same : {A : Type 0} (items : List A) (at : ℕ) (x : A) → slice_get items at ≡ Some x → slice_set items at x ≡ items
set_same [] at x got = refl
set_same {A} (y ∷ items) zero x got = let same : x ≡ y = cc in ap (λ (z : A). z ∷ items) same
set_same {A} (y ∷ items) (suc at) x got = ap (λ (l : List A). y ∷ l) (set_same items at x got)

-- the item of a mapped list comes from one
got_of_map : {A B : Type 0} (f : A → B) (items : List A) (at : ℕ) (y : B) → slice_get (map f items) at ≡ Some y
    → (x : A) × (slice_get items at ≡ Some x) × (f x ≡ y)
got_of_map f [] at y got = absurd (cc)
got_of_map f (x ∷ items) zero y got = (x, refl, cc got)
got_of_map f (x ∷ items) (suc at) y got = got_of_map f items at y got

-- LOGS

module _ {L : Type 0} (facts : LogFacts L) where
  -- a crash at this moment leaves the records
  abbrev IsSafe : L → Type 0
  IsSafe log = (file : List ℕ) → facts.left_at log (facts.moment log) file → facts.finds file (facts.records log)

  abbrev AreSafe : List L → Type 0
  AreSafe logs = (at : ℕ) (s : L) → slice_get logs at ≡ Some s → IsSafe s

  -- of logs of which none moves
  unmoved : (logs : List L) → AreSafe logs → (ts : List ℕ) (files : List (List ℕ)) → Between (map facts.moment logs) ts (map facts.moment logs)
      → MightLeave facts.left_at logs ts files → AreFound facts.finds files (map facts.records logs)
  unmoved [] all [] [] within left = tt
  unmoved [] all [] (f ∷ files) within left = absurd left
  unmoved [] all (k ∷ ts) files within left = absurd within
  unmoved (x ∷ logs) all [] files within left = absurd within
  unmoved (x ∷ logs) all (k ∷ ts) [] within left = absurd left
  unmoved (x ∷ logs) all (k ∷ ts) (f ∷ files) within left =
      let same : k ≡ facts.moment x = omega (arith, within.0, within.1) in
      (all zero x refl f (subst (λ n. facts.left_at x n f) same left.0), unmoved logs (λ at. all (suc at)) ts files within.2 left.1)

  within_itself : (logs : List L) → Between (map facts.moment logs) (map facts.moment logs) (map facts.moment logs)
  within_itself [] = tt
  within_itself (x ∷ logs) = (omega arith, omega arith, within_itself logs)

  -- while one moves
  while_one : (logs : List L) (at : ℕ) (s t : L) (more : List (List ℕ)) → slice_get logs at ≡ Some s → AreSafe logs
      → ((k : ℕ) (c : List ℕ) → facts.moment s < k → k ≤ facts.moment t → facts.left_at t k c → WithOrWithout (facts.finds c) (facts.records s) more)
      → ((k : ℕ) (c : List ℕ) → k ≤ facts.moment s → facts.left_at t k c → facts.left_at s k c)
      → (ts : List ℕ) (files : List (List ℕ)) → Between (map facts.moment logs) ts (map facts.moment (slice_set logs at t))
      → MightLeave facts.left_at (slice_set logs at t) ts files
      → AreFound facts.finds files (map facts.records logs) ⊎ AreFound facts.finds files (slice_set (map facts.records logs) at (facts.records s ++ more))
  while_one [] at s t more got all each past ts files within left = absurd (cc)
  while_one (x ∷ logs) zero s t more got all each past [] files within left = absurd within
  while_one (x ∷ logs) zero s t more got all each past (k ∷ ts) [] within left = absurd left
  while_one (x ∷ logs) (suc at) s t more got all each past [] files within left = absurd within
  while_one (x ∷ logs) (suc at) s t more got all each past (k ∷ ts) [] within left = absurd left
  while_one (x ∷ logs) zero s t more got all each past (k ∷ ts) (f ∷ files) within left =
      let same : s ≡ x = cc in
      let rest = unmoved logs (λ at. all (suc at)) ts files within.2 left.1 in
      let safe : IsSafe s = subst (λ (z : L). IsSafe z) (sym same) (all zero x refl) in
      let from : facts.moment s ≤ k = subst (λ (z : L). facts.moment z ≤ k) (sym same) within.0 in
      let here : WithOrWithout (facts.finds f) (facts.records s) more = elim (cases_lt (facts.moment s) k) [
        | inl later ↦ each k f later within.1 left.0
        | inr until ↦ inl (let now : k ≡ facts.moment s = omega (arith, from, until) in
            safe f (subst (λ n. facts.left_at s n f) now (past k f until left.0)))
      ] in
      elim here [
        | inl without ↦ inl (subst (λ (z : L). facts.finds f (facts.records z)) same without, rest)
        | inr with_it ↦ inr (with_it, rest)
      ]
  while_one (x ∷ logs) (suc at) s t more got all each past (k ∷ ts) (f ∷ files) within left =
      let same : k ≡ facts.moment x = omega (arith, within.0, within.1) in
      let here : facts.finds f (facts.records x) = all zero x refl f (subst (λ n. facts.left_at x n f) same left.0) in
      elim (while_one logs at s t more got (λ n. all (suc n)) each past ts files within.2 left.1) [
        | inl without ↦ inl (here, without)
        | inr with_it ↦ inr (here, with_it)
      ]

  -- what is known of all disks together from a start on
  abbrev pub Leave : (before after : List L) → (start end : World) → List Note → Type 0
  Leave before after start end notes =
      LeaveTogether facts.place facts.moment facts.left_at LeadsTo (AreOfOne facts.finds) (map facts.place before) (map facts.moment before) after start end
      notes

  -- at the start
  begins : (logs : List L) (start : World) (row again : List Note) → AreSafe logs → map facts.records logs ≡ stored_in start
      → IsRow (map facts.place logs) (map facts.moment logs) row → IsRow (map facts.place logs) (map facts.moment logs) again
      → Leave logs logs start start (row ++ again)
  begins logs start row again all is first second = record {
    places = refl;
    here = λ files left. subst (λ (js : List (List (List ℕ))). AreFound facts.finds files js) is
        (unmoved logs all (map facts.moment logs) files (within_itself logs) left);
    cuts = [];
    noted = ([], row, again, [], grind (arith, common_steps), first, second, tt);
    along = refl;
  }

  module _ (then logs : List L) (at : ℕ) (s t : L) (more : List (List ℕ)) (start v w : World) (notes row again : List Note)
      (got : slice_get logs at ≡ Some s) (all : AreSafe logs)
      (step : LeavesThen facts.moment facts.left_at s t (λ file. WithOrWithout (facts.finds file) (facts.records s) more)) (led : LeadsTo v w)
      (was : map facts.records logs ≡ stored_in v) (is : stored_in w ≡ slice_set (stored_in v) at (facts.records s ++ more))
      (together : Leave then logs start v notes) where
    abbrev now_logs : List L
    now_logs = slice_set logs at t

    abbrev first : Cut World
    first = record { moments = map facts.moment then; world = start }

    abbrev last : Cut World
    last = record { moments = map facts.moment logs; world = v }

    abbrev next : Cut World
    next = record { moments = map facts.moment now_logs; world = w }

    abbrev Move : List L → Cut World → Cut World → Type 0
    Move disks a b = OneMove facts.left_at LeadsTo (AreOfOne facts.finds) disks a b

    old_moves : (a b : Cut World) → AreUpTo b.moments (map facts.moment logs) → Move logs a b → Move now_logs a b
    old_moves a b up move = record {
      moved = move.moved;
      led = move.led;
      whole = λ ts files within left. move.whole ts files within (earlier facts.moment facts.left_at logs at s t got step.before ts files
          (up_to_then ts b.moments (map facts.moment logs) (between_up a.moments ts b.moments within) up) left);
    }

    new_move : Move now_logs last next
    new_move = record {
      moved = one_moved facts.moment logs at s t got step.later;
      led = led;
      whole = λ ts files within left. elim (while_one logs at s t more got all step.each step.before ts files within left) [
        | inl without ↦ inl (subst (λ (js : List (List (List ℕ))). AreFound facts.finds files js) was without)
        | inr with_it ↦ inr (subst (λ (js : List (List (List ℕ))). AreFound facts.finds files js)
            (ap (λ (js : List (List (List ℕ))). slice_set js at (facts.records s ++ more)) was ∙ sym is) with_it)
      ];
    }

    goes_on : map facts.place now_logs ≡ map facts.place logs → IsRow (map facts.place then) (map facts.moment now_logs) row
        → IsRow (map facts.place then) (map facts.moment now_logs) again → Leave then now_logs start w (notes ++ (row ++ again))
    goes_on same one two = record {
      places = same ∙ together.places;
      here = λ files left. together.here files (earlier facts.moment facts.left_at logs at s t got step.before first.moments files
          (along_up (Move logs) (λ a b move. moved_up a.moments b.moments move.moved) first together.cuts last together.along) left);
      cuts = together.cuts ++ next ∷ [];
      noted = subst (λ (cuts : List (List ℕ)). HasCuts (map facts.place then) (notes ++ (row ++ again)) (map facts.moment then ∷ cuts))
          (sym (map-append (λ (c : Cut World). c.moments) together.cuts (next ∷ [])))
          (has_cuts_then (map facts.place then) notes (map facts.moment then ∷ map (λ (c : Cut World). c.moments) together.cuts) (map facts.moment now_logs)
          row again together.noted one two);
      along = along_then (Move now_logs) first together.cuts last next
          (along_as (Move logs) (λ a b move. moved_up a.moments b.moments move.moved) (Move now_logs) last old_moves first together.cuts together.along)
          new_move;
    }

  -- only notes were taken
  still : (then logs : List L) (start w : World) (notes more : List Note) → Leave then logs start w notes → Leave then logs start w (notes ++ more)
  still then logs start w notes more together = record {
    places = together.places;
    here = together.here;
    cuts = together.cuts;
    noted = has_cuts_more (map facts.place then) notes (map facts.moment then ∷ map (λ (c : Cut World). c.moments) together.cuts) more together.noted;
    along = together.along;
  }

-- HOSTED NODES

more_taken : (first notes row before now : List Note) → before ≡ first ++ notes → now ≡ (before ++ row) ++ row → now ≡ first ++ (notes ++ (row ++ row))
more_taken first notes row before now one two = rw (two, one) (grind (arith, common_steps))

module _ {N L : Type 0} (facts : LogFacts L) where
  abbrev pub logs_of : List (Seat N L) → List L
  logs_of seats = map (λ s. s.log) seats

  there : (seats : List (Seat N L)) (length : ℕ) → map (λ (n : Note). n.place) (notes_of facts length seats) ≡ map facts.place (logs_of seats)
  there [] length = refl
  there (s ∷ seats) length = ap (λ (ps : List (List ℕ)). facts.place s.log ∷ ps) (there seats length)

  then_at : (seats : List (Seat N L)) (length : ℕ) → map (λ (n : Note). n.moment) (notes_of facts length seats) ≡ map facts.moment (logs_of seats)
  then_at [] length = refl
  then_at (s ∷ seats) length = ap (λ (ts : List ℕ). facts.moment s.log ∷ ts) (then_at seats length)

  row_is : (places : List (List ℕ)) (seats : List (Seat N L)) (length : ℕ) → map facts.place (logs_of seats) ≡ places
      → IsRow places (map facts.moment (logs_of seats)) (notes_of facts length seats)
  row_is places seats length same = record { there = there seats length ∙ same; then = then_at seats length }

  safe_logs : IsTrue facts.tells → (seats : List (Seat N L)) → AreOpen facts.is_open seats → AreDurableWhileOpen facts seats → AreSafe facts (logs_of seats)
  safe_logs told seats are durable at log got =
      let s = got_of_map (λ (z : Seat N L). z.log) seats at log got in
      subst (λ (l : L). IsSafe facts l) s.2 (durable at s.0 s.1 (open_at facts.is_open seats at s.0 are s.1) told)

  -- the records of the logs are what the journals store
  stored_held : (state : N → NodeState) (steps : N → ℕ) (since : Since L) (seats : List (Seat N L)) (held : List Held) → IsTrue facts.tells
      → AreHeld (seat_since state steps facts since) seats held → map facts.records (logs_of seats) ≡ map (λ (h : Held). spellings h.kept) held
  stored_held state steps since [] [] told are = refl
  stored_held state steps since [] (h ∷ held) told are = absurd are
  stored_held state steps since (s ∷ seats) [] told are = absurd are
  stored_held state steps since (s ∷ seats) (h ∷ held) told are =
      ap (λ (js : List (List (List ℕ))). facts.records s.log ∷ js) (stored_held state steps since seats held told are.1)
      ∙ ap (λ (j : List (List ℕ)). j ∷ map (λ (x : Held). spellings x.kept) held) (are.0.written told)

  -- the start of a call, where the sink has a first cut
  pub together_begins : (state : N → NodeState) (steps : N → ℕ) (since : Since L) (seats : List (Seat N L)) (first : World) (before now : List Note) (length : ℕ)
      → IsTrue facts.tells → AreOpen facts.is_open seats → AreDurableWhileOpen facts seats → AreHeld (seat_since state steps facts since) seats first.nodes
      → now ≡ (before ++ notes_of facts length seats) ++ notes_of facts length seats → TogetherSince facts (since_noted seats first before) now seats first
  together_begins state steps since seats first before now length told are durable held taken = record {
    notes = notes_of facts length seats ++ notes_of facts length seats;
    taken = taken ∙ append_assoc before (notes_of facts length seats) (notes_of facts length seats);
    leave = begins facts (logs_of seats) first (notes_of facts length seats) (notes_of facts length seats) (safe_logs told seats are durable)
        (stored_held state steps since seats first.nodes told held) (row_is (map facts.place (logs_of seats)) seats length refl)
        (row_is (map facts.place (logs_of seats)) seats length refl);
    durable = durable;
  }

  -- and what each disk leaves alone
  pub leave_at_start : (state : N → NodeState) (steps : N → ℕ) (shows : Bool) (seats : List (Seat N L)) (first : World) (before now : List Note) (length : ℕ)
      → AreOpen facts.is_open seats → AreDurableWhileOpen facts seats → AreHeld (seat_since state steps facts (since_noted seats first before)) seats first.nodes
      → (IsTrue shows → now ≡ (before ++ notes_of facts length seats) ++ notes_of facts length seats)
      → LeaveKept (seat_since state steps facts (since_noted seats first before)) (hosted shows facts (since_noted seats first before) now seats) first
  leave_at_start state steps shows seats first before now length are durable held taken = record {
    each = start_leaves state steps facts seats first;
    together = λ shown told.
        together_begins state steps (since_noted seats first before) seats first before now length told are durable held (taken shown);
  }

  module _ (state : N → NodeState) (steps : N → ℕ) (since : Since L) (seats : List (Seat N L)) (at : ℕ) (s t : Seat N L) (before now : List Note) (length : ℕ)
      (told : IsTrue facts.tells) (got : slice_get seats at ≡ Some s)
      (durable : AreDurableWhileOpen facts (slice_set seats at t))
      (taken : now ≡ (before ++ notes_of facts length (slice_set seats at t)) ++ notes_of facts length (slice_set seats at t)) where
    abbrev row : List Note
    row = notes_of facts length (slice_set seats at t)

    logs_set : slice_set (logs_of seats) at t.log ≡ logs_of (slice_set seats at t)
    logs_set = sym (map_set (λ (z : Seat N L). z.log) seats at t)

    places_set : facts.place t.log ≡ facts.place s.log → map facts.place (slice_set (logs_of seats) at t.log) ≡ map facts.place (logs_of seats)
    places_set same =
        map_set facts.place (logs_of seats) at t.log
        ∙ ap (λ (p : List ℕ). slice_set (map facts.place (logs_of seats)) at p) same
        ∙ set_same (map facts.place (logs_of seats)) at (facts.place s.log)
        (got_map facts.place (logs_of seats) at s.log (got_map (λ (z : Seat N L). z.log) seats at s got))

    -- records were appended to its log, or were to be
    module _ (v w : World) (more : List Kept) (are : AreOpen facts.is_open seats) (held : AreHeld (seat_since state steps facts since) seats v.nodes)
        (led : LeadsTo v w) (whole : IsWhole (log_call facts s.log t.log) (spellings more))
        (stored : stored_in w ≡ slice_set (stored_in v) at (facts.records s.log ++ spellings more)) (same : facts.place t.log ≡ facts.place s.log)
        (together : TogetherSince facts since before seats v) where
      is_row : IsRow (map facts.place since.logs) (map facts.moment (slice_set (logs_of seats) at t.log)) row
      is_row =
          subst (λ (logs : List L). IsRow (map facts.place since.logs) (map facts.moment logs) row) (sym logs_set)
          (row_is (map facts.place since.logs) (slice_set seats at t) length
          (ap (λ (logs : List L). map facts.place logs) (sym logs_set) ∙ (places_set same ∙ together.leave.places)))

      pub together_grows : TogetherSince facts since now (slice_set seats at t) w
      together_grows = record {
        notes = together.notes ++ (row ++ row);
        taken = more_taken since.taken together.notes row before now together.taken taken;
        leave = subst (λ (logs : List L). Leave facts since.logs logs since.world w (together.notes ++ (row ++ row))) logs_set
            (goes_on facts since.logs (logs_of seats) at s.log t.log (spellings more) since.world v w together.notes row row
            (got_map (λ (z : Seat N L). z.log) seats at s got) (safe_logs told seats are together.durable) (whole told) led
            (stored_held state steps since seats v.nodes told held) stored together.leave (places_set same) is_row is_row);
        durable = durable;
      }

    -- what the journals store where that of the node at a place has more
    pub stored_with : (v w : World) (old : Held) (new : NodeState) (count : ℕ) (more : List Kept) → slice_get v.nodes at ≡ Some old
        → w.nodes ≡ slice_set v.nodes at (record { state = new; kept = old.kept ++ more; steps = count }) → facts.records s.log ≡ spellings old.kept
        → stored_in w ≡ slice_set (stored_in v) at (facts.records s.log ++ spellings more)
    stored_with v w old new count more here nodes written =
        ap (λ (l : List Held). map (λ (h : Held). spellings h.kept) l) nodes
        ∙ (map_set (λ (h : Held). spellings h.kept) v.nodes at (record { state = new; kept = old.kept ++ more; steps = count })
        ∙ ap (λ (j : List (List ℕ)). slice_set (stored_in v) at j)
        (spellings_append old.kept more ∙ ap (λ (j : List (List ℕ)). j ++ spellings more) (sym written)))

    module _ (v w : World) (i : Input) (are : AreOpen facts.is_open seats) (held : AreHeld (seat_since state steps facts since) seats v.nodes)
        (moves : Moves v at i w) (led : LeadsTo v w) (whole : IsWhole (log_call facts s.log t.log) (spellings moves.f.written))
        (same : facts.place t.log ≡ facts.place s.log) (together : TogetherSince facts since before seats v) where
      stored_old : facts.records s.log ≡ spellings moves.old.kept
      stored_old =
          let place : HeldAt (seat_since state steps facts since s) v.nodes at = held_at (seat_since state steps facts since) seats v.nodes at s held got in
          let both : Some place.old ≡ Some moves.old = sym place.here ∙ moves.here in
          let one : place.old ≡ moves.old = cc both in
          place.is.written told ∙ ap (λ (h : Held). spellings h.kept) one

      -- the node at a place took a step, or was to
      pub together_steps : TogetherSince facts since now (slice_set seats at t) w
      together_steps =
          together_grows v w moves.f.written are held led whole
          (stored_with v w moves.old moves.new (moves.old.steps + 1) moves.f.written moves.here (ap (λ (x : World). x.nodes) moves.then) stored_old) same together

    -- it took no step, and its log is as it was
    pub together_missed : (v w : World) (i : Input) → AreOpen facts.is_open seats → AreHeld (seat_since state steps facts since) seats v.nodes
        → Misses v at i w → LeadsTo v w → t.log ≡ s.log → TogetherSince facts since before seats v → TogetherSince facts since now (slice_set seats at t) w
    together_missed v w i are held m led same together =
        together_grows v w [] are held led whole
        (stored_with v w m.old m.old.state (steps_by m.lack m.old.steps) [] m.here nodes stored) (ap facts.place same) together
      where
        whole : IsWhole (log_call facts s.log t.log) (spellings [])
        whole = subst (λ (l : L). IsWhole (log_call facts s.log l) []) (sym same) (left_alone facts s.log).whole

        nodes : w.nodes ≡ slice_set v.nodes at (record { state = m.old.state; kept = m.old.kept ++ []; steps = steps_by m.lack m.old.steps })
        nodes =
            ap (λ (x : World). x.nodes) m.then
            ∙ ap (λ (l : List Kept). slice_set v.nodes at (record { state = m.old.state; kept = l; steps = steps_by m.lack m.old.steps }))
            (sym (append-nil m.old.kept))

        stored : facts.records s.log ≡ spellings m.old.kept
        stored =
            let place : HeldAt (seat_since state steps facts since s) v.nodes at = held_at (seat_since state steps facts since) seats v.nodes at s held got in
            let both : Some place.old ≡ Some m.old = sym place.here ∙ m.here in
            let one : place.old ≡ m.old = cc both in
            place.is.written told ∙ ap (λ (h : Held). spellings h.kept) one

    -- its log is as it was
    pub together_stays : (w : World) → t.log ≡ s.log → TogetherSince facts since before seats w → TogetherSince facts since now (slice_set seats at t) w
    together_stays w same together = record {
      notes = together.notes ++ (row ++ row);
      taken = more_taken since.taken together.notes row before now together.taken taken;
      leave = subst (λ (logs : List L). Leave facts since.logs logs since.world w (together.notes ++ (row ++ row))) as_before
          (still facts since.logs (logs_of seats) since.world w together.notes (row ++ row) together.leave);
      durable = durable;
    }
      where
        as_before : logs_of seats ≡ logs_of (slice_set seats at t)
        as_before =
            sym (set_same (logs_of seats) at s.log (got_map (λ (z : Seat N L). z.log) seats at s got))
            ∙ (ap (λ (l : L). slice_set (logs_of seats) at l) (sym same) ∙ logs_set)

  -- notes that are no cut
  pub together_noted : (since : Since L) (before more : List Note) (seats : List (Seat N L)) (w : World) → TogetherSince facts since before seats w
      → TogetherSince facts since (before ++ more) seats w
  together_noted since before more seats w together = record {
    notes = together.notes ++ more;
    taken = ap (λ (l : List Note). l ++ more) together.taken ∙ append_assoc since.taken together.notes more;
    leave = still facts since.logs (logs_of seats) since.world w together.notes more together.leave;
    durable = together.durable;
  }
