-- Notes of the disks of hosted nodes, one after another.
use Rattle.std.proofs.Common.{◌≡◌, ℕ, zero, suc, ◌<◌, ◌+◌, List, [], ◌∷◌, ◌++◌, length, take, get_or, sym, ap, subst, ◌∙◌, append_assoc, append-nil, add-one, arith}
use Rattle.std.specs.Prelude.{Some}
use Rattle.std.specs.List.{slice_get}
use Rattle.outside.specs.Logs.{LogFacts}
use Rattle.outside.specs.Notes.{Note}
use Rattle.driver_steps.specs.declared.seat.Seat.{Seat}
use Rattle.driver_steps.specs.Seats.{AreDurable, AreDurableWhileOpen, AreOpen, HasMore, notes_of}
use Rattle.driver_steps.proofs.Seats.{open_at}

-- the items up to one more have what the first ones have, and it
pub each_next : {S : Type 0} (P : S → Type 0) (items : List S) (i : ℕ) (s : S) → s ≡ get_or items i s → P s
    → ((at : ℕ) (z : S) → at < i → slice_get items at ≡ Some z → P z) → (at : ℕ) (z : S) → at < suc i → slice_get items at ≡ Some z → P z
each_next P [] i s is here before at z below got = absurd (cc got)
each_next P (x ∷ items) zero s is here before zero z below got =
    let same : s ≡ z = cc (is, got) in
    subst (λ y. P y) same here
each_next P (x ∷ items) zero s is here before (suc at) z below got = absurd (omega (arith, below))
each_next P (x ∷ items) (suc i) s is here before zero z below got = before zero z (omega arith) got
each_next P (x ∷ items) (suc i) s is here before (suc at) z below got =
    each_next P items i s is here (λ a y le there. before (suc a) y (omega (arith, le)) there) at z (omega (arith, below)) got

-- where all logs are open
pub all_durable : {N L : Type 0} (facts : LogFacts L) (seats : List (Seat N L)) → AreOpen facts.is_open seats → AreDurableWhileOpen facts seats
    → AreDurable facts seats
all_durable facts seats are durable at s got = durable at s got (open_at facts.is_open seats at s are got)

-- MORE NOTES

pub no_more : (notes : List Note) → HasMore notes notes
no_more notes = ([], sym (append-nil notes))

pub more_then : (first next last : List Note) → HasMore first next → HasMore next last → HasMore first last
more_then first next last one two =
    (one.0 ++ two.0, two.1 ∙ (ap (λ (l : List Note). l ++ two.0) one.1 ∙ append_assoc first one.0 two.0))

pub two_rows : (before row after : List Note) → after ≡ (before ++ row) ++ row → HasMore before after
two_rows before row after is = (row ++ row, is ∙ append_assoc before row row)

module _ {N L : Type 0} (facts : LogFacts L) (before : ℕ) where
  pub notes_next : (seats : List (Seat N L)) (i : ℕ) (s : Seat N L) → i < length seats → s ≡ get_or seats i s
      → notes_of facts before (take (suc i) seats) ≡ notes_of facts before (take i seats)
      ++ record { place = facts.place s.log; moment = facts.moment s.log; length = before } ∷ []
  notes_next [] i s inside is = absurd (omega (arith, inside))
  notes_next (x ∷ seats) zero s inside is = ap (λ (z : Seat N L). record { place = facts.place z.log; moment = facts.moment z.log; length = before } ∷ []) (sym is)
  notes_next (x ∷ seats) (suc i) s inside is =
      ap (λ (l : List Note). record { place = facts.place x.log; moment = facts.moment x.log; length = before } ∷ l)
      (notes_next seats i s (omega (arith, inside)) is)

  -- one disk more was noted
  pub noted_next : (seats : List (Seat N L)) (i : ℕ) (s : Seat N L) (first now then : List Note) (n : Note) → i < length seats → s ≡ get_or seats i s
      → now ≡ first ++ notes_of facts before (take i seats) → then ≡ now ++ n ∷ []
      → n ≡ record { place = facts.place s.log; moment = facts.moment s.log; length = before }
      → then ≡ first ++ notes_of facts before (take (i + 1) seats)
  noted_next seats i s first now then n inside is so_far more same =
      rw add-one (more ∙ (ap (λ (l : List Note). l ++ n ∷ []) so_far
      ∙ (append_assoc first (notes_of facts before (take i seats)) (n ∷ [])
      ∙ ap (λ (l : List Note). first ++ l) (ap (λ (m : Note). notes_of facts before (take i seats) ++ m ∷ []) same
      ∙ sym (notes_next seats i s inside is)))))
