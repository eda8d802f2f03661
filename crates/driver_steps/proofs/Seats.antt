-- One place among the nodes.
use Rattle.std.proofs.Common.{◌≡◌, inl, inr, ℕ, zero, suc, ◌+◌, ◌<◌, ◌≤◌}
use Rattle.std.proofs.Common.{◌^◌, List, [], ◌∷◌, length, Bool, IsTrue, refl, sym, ap, subst, ◌∙◌, arith}
use Rattle.std.specs.Prelude.{Some}
use Rattle.std.specs.List.{slice_get, slice_set}
use Rattle.outside.specs.Causes.{Rose}
use Rattle.outside.specs.Devices.{NoneFell, OneRose}
use Rattle.outside.proofs.Relations.{none_fell_self}
use Rattle.node_model.specs.World.{Held}
use Rattle.driver_steps.specs.declared.seat.Seat.{Seat}
use Rattle.driver_steps.specs.Seats.{SeatView, Keeps, IsHeld, AreCounted, AreHeld, AreKept, AreOpen, faults_of, left_of, places_of}

-- what is put at a place that there is, is there
pub get_set : {X : Type 0} (items : List X) (at : ℕ) (old new : X) → slice_get items at ≡ Some old → slice_get (slice_set items at new) at ≡ Some new
get_set [] at old new here = absurd (cc)
get_set (x ∷ items) zero old new here = refl
get_set (x ∷ items) (suc at) old new here = get_set items at old new here

-- what is held at a place
pub record HeldAt (seat : SeatView) (held : List Held) (at : ℕ) : Type 0 where
  pub old : Held
  pub here : slice_get held at ≡ Some old
  pub is : IsHeld seat old

-- how many steps the node at a place has taken
pub record CountedAt (seat : SeatView) (held : List Held) (at : ℕ) : Type 0 where
  pub old : Held
  pub here : slice_get held at ≡ Some old
  pub is : old.steps ≡ seat.steps

module _ {S : Type 0} (view : S → SeatView) where
  pub held_at : (seats : List S) (held : List Held) (at : ℕ) (s : S) → AreHeld view seats held → slice_get seats at ≡ Some s → HeldAt (view s) held at
  held_at [] held at s are got = absurd (cc)
  held_at (x ∷ seats) [] at s are got = absurd are
  held_at (x ∷ seats) (h ∷ held) zero s are got =
      let same : x ≡ s = cc in
      record { old = h; here = refl; is = subst (λ z. IsHeld (view z) h) same are.0 }
  held_at (x ∷ seats) (h ∷ held) (suc at) s are got =
      let there = held_at seats held at s are.1 got in
      record { old = there.old; here = there.here; is = there.is }

  pub held_len : (seats : List S) (held : List Held) → AreHeld view seats held → length seats ≡ length held
  held_len [] [] are = refl
  held_len [] (h ∷ held) are = absurd are
  held_len (s ∷ seats) [] are = absurd are
  held_len (s ∷ seats) (h ∷ held) are = ap suc (held_len seats held are.1)

  pub held_set : (seats : List S) (held : List Held) (at : ℕ) (s : S) (h : Held) → AreHeld view seats held → IsHeld (view s) h
      → AreHeld view (slice_set seats at s) (slice_set held at h)
  held_set [] [] at s h are is = tt
  held_set [] (g ∷ held) at s h are is = absurd are
  held_set (x ∷ seats) [] at s h are is = absurd are
  held_set (x ∷ seats) (g ∷ held) zero s h are is = (is, are.1)
  held_set (x ∷ seats) (g ∷ held) (suc at) s h are is = (are.0, held_set seats held at s h are.1 is)

  -- the node at that place is still what it was
  pub held_still : (seats : List S) (held : List Held) (at : ℕ) (s : S) (h : Held) → AreHeld view seats held → slice_get held at ≡ Some h
      → IsHeld (view s) h → AreHeld view (slice_set seats at s) held
  held_still [] held at s h are got is = are
  held_still (x ∷ seats) [] at s h are got is = absurd are
  held_still (x ∷ seats) (g ∷ held) zero s h are got is =
      let same : g ≡ h = cc in
      (subst (λ z. IsHeld (view s) z) (sym same) is, are.1)
  held_still (x ∷ seats) (g ∷ held) (suc at) s h are got is = (are.0, held_still seats held at s h are.1 got is)

  pub counted_at : (seats : List S) (held : List Held) (at : ℕ) (s : S) → AreCounted view seats held → slice_get seats at ≡ Some s → CountedAt (view s) held at
  counted_at [] held at s are got = absurd (cc)
  counted_at (x ∷ seats) [] at s are got = absurd are
  counted_at (x ∷ seats) (h ∷ held) zero s are got =
      let same : x ≡ s = cc in
      record { old = h; here = refl; is = subst (λ z. h.steps ≡ (view z).steps) same are.0 }
  counted_at (x ∷ seats) (h ∷ held) (suc at) s are got =
      let there = counted_at seats held at s are.1 got in
      record { old = there.old; here = there.here; is = there.is }

  pub counted_set : (seats : List S) (held : List Held) (at : ℕ) (s : S) (h : Held) → AreCounted view seats held → h.steps ≡ (view s).steps
      → AreCounted view (slice_set seats at s) (slice_set held at h)
  counted_set [] [] at s h are is = tt
  counted_set [] (g ∷ held) at s h are is = absurd are
  counted_set (x ∷ seats) [] at s h are is = absurd are
  counted_set (x ∷ seats) (g ∷ held) zero s h are is = (is, are.1)
  counted_set (x ∷ seats) (g ∷ held) (suc at) s h are is = (are.0, counted_set seats held at s h are.1 is)

  pub held_kept : (seats : List S) (held : List Held) → AreHeld view seats held → AreKept view seats held
  held_kept [] [] are = tt
  held_kept [] (h ∷ held) are = absurd are
  held_kept (s ∷ seats) [] are = absurd are
  held_kept (s ∷ seats) (h ∷ held) are = (are.0.keeps, held_kept seats held are.1)

  pub kept_set : (seats : List S) (held : List Held) (at : ℕ) (s : S) (h : Held) → AreKept view seats held → Keeps (view s) h.kept
      → AreKept view (slice_set seats at s) (slice_set held at h)
  kept_set [] [] at s h are is = tt
  kept_set [] (g ∷ held) at s h are is = absurd are
  kept_set (x ∷ seats) [] at s h are is = absurd are
  kept_set (x ∷ seats) (g ∷ held) zero s h are is = (is, are.1)
  kept_set (x ∷ seats) (g ∷ held) (suc at) s h are is = (are.0, kept_set seats held at s h are.1 is)

  pub kept_still : (seats : List S) (held : List Held) (at : ℕ) (s : S) (h : Held) → AreKept view seats held → slice_get held at ≡ Some h
      → Keeps (view s) h.kept → AreKept view (slice_set seats at s) held
  kept_still [] held at s h are got is = are
  kept_still (x ∷ seats) [] at s h are got is = absurd are
  kept_still (x ∷ seats) (g ∷ held) zero s h are got is =
      let same : g ≡ h = cc in
      (subst (λ z. Keeps (view s) z.kept) (sym same) is, are.1)
  kept_still (x ∷ seats) (g ∷ held) (suc at) s h are got is = (are.0, kept_still seats held at s h are.1 got is)

module _ {N L : Type 0} where
  pub open_at : (is_open : L → Bool) (seats : List (Seat N L)) (at : ℕ) (s : Seat N L) → AreOpen is_open seats → slice_get seats at ≡ Some s
      → IsTrue (is_open s.log)
  open_at is_open [] at s are got = absurd (cc)
  open_at is_open (x ∷ seats) zero s are got =
      let same : x ≡ s = cc in
      subst (λ z. IsTrue (is_open z.log)) same are.0
  open_at is_open (x ∷ seats) (suc at) s are got = open_at is_open seats at s are.1 got

  pub open_set : (is_open : L → Bool) (seats : List (Seat N L)) (at : ℕ) (s : Seat N L) → AreOpen is_open seats → IsTrue (is_open s.log)
      → AreOpen is_open (slice_set seats at s)
  open_set is_open [] at s are is = tt
  open_set is_open (x ∷ seats) zero s are is = (is, are.1)
  open_set is_open (x ∷ seats) (suc at) s are is = (are.0, open_set is_open seats at s are.1 is)

  pub left_falls : (steps : N → ℕ) (seats : List (Seat N L)) (at : ℕ) (s t : Seat N L) → slice_get seats at ≡ Some s
      → steps t.node ≡ steps s.node + 1 → steps t.node < 2 ^ 56 → left_of steps (slice_set seats at t) + 1 ≡ left_of steps seats
  left_falls steps [] at s t got one below = absurd (cc)
  left_falls steps (x ∷ seats) zero s t got one below =
      let same : x ≡ s = cc in
      let as_many : steps x.node ≡ steps s.node = ap (λ (z : Seat N L). steps z.node) same in
      omega arith
  left_falls steps (x ∷ seats) (suc at) s t got one below =
      let there : left_of steps (slice_set seats at t) + 1 ≡ left_of steps seats = left_falls steps seats at s t got one below in
      omega arith

  pub left_same : (steps : N → ℕ) (seats : List (Seat N L)) (at : ℕ) (s t : Seat N L) → slice_get seats at ≡ Some s → steps t.node ≡ steps s.node
      → left_of steps (slice_set seats at t) ≡ left_of steps seats
  left_same steps [] at s t got same = absurd (cc)
  left_same steps (x ∷ seats) zero s t got same =
      let here : x ≡ s = cc in
      let as_many : steps x.node ≡ steps s.node = ap (λ (z : Seat N L). steps z.node) here in
      omega arith
  left_same steps (x ∷ seats) (suc at) s t got same =
      let there : left_of steps (slice_set seats at t) ≡ left_of steps seats = left_same steps seats at s t got same in
      omega arith

  pub faults_same : (count : L → ℕ) (seats : List (Seat N L)) (at : ℕ) (s t : Seat N L) → slice_get seats at ≡ Some s → count t.log ≡ count s.log
      → faults_of count (slice_set seats at t) ≡ faults_of count seats
  faults_same count [] at s t got same = absurd (cc)
  faults_same count (x ∷ seats) zero s t got same =
      let here : x ≡ s = cc in
      ap (λ n. n ∷ faults_of count seats) (same ∙ sym (ap (λ (z : Seat N L). count z.log) here))
  faults_same count (x ∷ seats) (suc at) s t got same = ap (λ l. count x.log ∷ l) (faults_same count seats at s t got same)

  pub fault_rose : (count : L → ℕ) (seats : List (Seat N L)) (at : ℕ) (s t : Seat N L) → slice_get seats at ≡ Some s
      → Rose (count s.log) (count t.log) → OneRose (faults_of count seats) (faults_of count (slice_set seats at t))
  fault_rose count [] at s t got rose = absurd (cc)
  fault_rose count (x ∷ seats) zero s t got rose =
      let here : x ≡ s = cc in
      inl (subst (λ (z : Seat N L). Rose (count z.log) (count t.log)) (sym here) rose)
  fault_rose count (x ∷ seats) (suc at) s t got rose = inr (fault_rose count seats at s t got rose)

  pub none_fell_at : (count : L → ℕ) (seats : List (Seat N L)) (at : ℕ) (s t : Seat N L) → slice_get seats at ≡ Some s → count s.log ≤ count t.log
      → NoneFell (faults_of count seats) (faults_of count (slice_set seats at t))
  none_fell_at count [] at s t got later = absurd (cc)
  none_fell_at count (x ∷ seats) zero s t got later =
      let here : x ≡ s = cc in
      (subst (λ (z : Seat N L). count z.log ≤ count t.log) (sym here) later, none_fell_self (faults_of count seats))
  none_fell_at count (x ∷ seats) (suc at) s t got later = (omega arith, none_fell_at count seats at s t got later)

  pub places_same : (place : L → List ℕ) (seats : List (Seat N L)) (at : ℕ) (s t : Seat N L) → slice_get seats at ≡ Some s → place t.log ≡ place s.log
      → places_of place (slice_set seats at t) ≡ places_of place seats
  places_same place [] at s t got same = absurd (cc)
  places_same place (x ∷ seats) zero s t got same =
      let here : x ≡ s = cc in
      ap (λ p. p ∷ places_of place seats) (same ∙ sym (ap (λ (z : Seat N L). place z.log) here))
  places_same place (x ∷ seats) (suc at) s t got same = ap (λ l. place x.log ∷ l) (places_same place seats at s t got same)
