-- What a crash leaves of all journals together is what it leaves of their disks.
use Rattle.std.specs.Prelude.{◌≡◌, ℕ, zero, suc, Some, Bool, IsTrue, List, [], ◌∷◌, length, map}
use Rattle.std.proofs.Common.{refl, sym, ap, subst, ◌∙◌, inr, arith}
use Rattle.std.specs.List.{slice_get}
use Rattle.outside.specs.Disks.{Outcomes}
use Rattle.outside.specs.Notes.{Note}
use Rattle.journal_frames.specs.Files.{Stands}
use Rattle.journal_frames.specs.Views.{JournalView, journal_facts}
use Rattle.node_model.specs.States.{NodeState}
use Rattle.node_model.specs.World.{World}
use Rattle.driver_steps.specs.Crashes.{LeadsTo, LeavesKept}
use Rattle.driver_steps.specs.Cuts.{Along, Cut, HasCuts, MightLeave, OneMove}
use Rattle.driver_steps.specs.Seats.{LeaveKept, seat_since, since_noted, since_then}
use Rattle.driver_steps.specs.Together.{AreOfOne, hosted}
use Rattle.driver_steps.specs.declared.seat.Seat.{Seat}
use Rattle.cluster_service.specs.Crashes.{IsOfWorld, LeaveAll, LeaveByCuts, LeaveSuch, LeaveUntil}
use Rattle.cluster_service.proofs.Crashes.{seats_leave}

map_of : {A B C : Type 0} (f : B → C) (g : A → B) (items : List A) → map f (map g items) ≡ map (λ (x : A). f (g x)) items
map_of f g [] = refl
map_of {C = C} f g (x ∷ items) = ap (λ (l : List C). f (g x) ∷ l) (map_of f g items)

along_turn : {X : Type 0} (R S : X → X → Type 0) → ((a b : X) → R a b → S a b) → (first : X) (more : List X) (last : X) → Along R first more last
    → Along S first more last
along_turn R S turn first [] last same = same
along_turn R S turn first (next ∷ more) last along = (turn first next along.0, along_turn R S turn next more last along.1)

module _ {N D : Type 0} (state : N → NodeState) (steps : N → ℕ) (tells : Bool) (content : D → List ℕ) (moment : D → ℕ) (left_at : D → ℕ → Outcomes) (fault_count : D → ℕ)
    (place : D → List ℕ) where
  abbrev disks_in : List (Seat N (JournalView D)) → List D
  disks_in seats = map (λ s. s.log.disk) seats

  -- what the disks might leave the journals might
  might_leave : (seats : List (Seat N (JournalView D))) (ts : List ℕ) (files : List (List ℕ)) → MightLeave left_at (disks_in seats) ts files
      → MightLeave (λ (j : JournalView D) t file. left_at j.disk t file) (map (λ s. s.log) seats) ts files
  might_leave [] [] [] left = tt
  might_leave [] [] (f ∷ files) left = absurd left
  might_leave [] (t ∷ ts) files left = absurd left
  might_leave (s ∷ seats) [] files left = absurd left
  might_leave (s ∷ seats) (t ∷ ts) [] left = absurd left
  might_leave (s ∷ seats) (t ∷ ts) (f ∷ files) left = (left.0, might_leave seats ts files left.1)

  module _ (first w : World) (told : IsTrue tells) where
    -- until all journals were open
    opening_until : (node : ℕ → ℕ) (disks : List D) (olds news : List (Seat N (JournalView D)))
        → LeaveSuch moment left_at (λ at. IsOfWorld first (node at)) disks (disks_in olds) → length olds ≡ length news
        → ((at : ℕ) (s : Seat N (JournalView D)) → slice_get news at ≡ Some s → (old : JournalView D) → slice_get (map (λ s. s.log) olds) at ≡ Some old
        → LeavesKept (journal_facts tells content moment left_at fault_count place) first old s.log (node at) w)
        → LeaveUntil moment left_at (λ at. IsOfWorld first (node at)) disks (map (λ (j : JournalView D). moment j.disk) (map (λ s. s.log) olds)) (disks_in news)
    opening_until node [] [] [] early len kept = tt
    opening_until node [] [] (s ∷ news) early len kept = absurd (omega (arith, len))
    opening_until node [] (o ∷ olds) news early len kept = absurd early
    opening_until node (disk ∷ disks) [] news early len kept = absurd early
    opening_until node (disk ∷ disks) (o ∷ olds) [] early len kept = absurd (omega (arith, len))
    opening_until node (disk ∷ disks) (o ∷ olds) (s ∷ news) early len kept = (
      early.0.later,
      (λ t file past to left. early.0.each t file past to ((kept zero s refl o.log refl).left.before t file to left)),
      opening_until (λ at. node (suc at)) disks olds news early.1 (omega (arith, len)) (λ at. kept (suc at)),
    )

  module _ (first w : World) (noted noted' : List Note) (disks : List D) (olds news : List (Seat N (JournalView D)))
      (early : IsTrue tells → LeaveSuch moment left_at (IsOfWorld first) disks (disks_in olds)) (len : length olds ≡ length news) (shows : Bool)
      (leave : LeaveKept (seat_since state steps (journal_facts tells content moment left_at fault_count place) (since_then olds first))
      (hosted shows (journal_facts tells content moment left_at fault_count place) (since_noted olds first noted) noted' news) w) where
    abbrev Moves : (disks : List D) → Cut World → Cut World → Type 0
    Moves ds a b = OneMove left_at LeadsTo (AreOfOne Stands) ds a b

    by_cuts : IsTrue shows → IsTrue tells → LeaveByCuts first place moment left_at noted noted' disks (disks_in news) w
    by_cuts shown told =
        let together = leave.together shown told in
        let logs = map (λ (s : Seat N (JournalView D)). s.log) news in
        let l = together.leave in
        let from : List ℕ = map (λ (j : JournalView D). moment j.disk) (map (λ s. s.log) olds) in
        let places : map place (disks_in news) ≡ map (λ (j : JournalView D). place j.disk) (map (λ s. s.log) olds) =
        map_of place (λ s. s.log.disk) news ∙ (sym (map_of (λ (j : JournalView D). place j.disk) (λ s. s.log) news) ∙ l.places) in
        let moments : map (λ (j : JournalView D). moment j.disk) logs ≡ map moment (disks_in news) =
        map_of (λ (j : JournalView D). moment j.disk) (λ s. s.log) news ∙ sym (map_of moment (λ s. s.log.disk) news) in
        record {
          from = from;
          opening = opening_until first w told (λ at. at) disks olds news (early told) len (λ at s got old began. (leave.each at s got told).0 old began);
          notes = together.notes;
          taken = together.taken;
          leave = record {
            places = refl;
            here = λ files left. l.here files (might_leave news from files left);
            cuts = l.cuts;
            noted = subst (λ (ps : List (List ℕ)). HasCuts ps together.notes (from ∷ map (λ (c : Cut World). c.moments) l.cuts)) (sym places) l.noted;
            along = along_turn (OneMove (λ (j : JournalView D) t file. left_at j.disk t file) LeadsTo (AreOfOne Stands) logs) (Moves (disks_in news))
                (λ a b m. record { moved = m.moved; led = m.led; whole = λ ts files within left. m.whole ts files within (might_leave news ts files left) })
                (record { moments = from; world = first }) l.cuts (record { moments = map moment (disks_in news); world = w })
                (subst (λ (ms : List ℕ). Along (OneMove (λ (j : JournalView D) t file. left_at j.disk t file) LeadsTo (AreOfOne Stands) logs)
                (record { moments = from; world = first }) l.cuts (record { moments = ms; world = w })) moments l.along);
          };
        }

    -- what the hosted nodes leave their disks do
    pub seats_leave_all : LeaveAll first shows tells place moment left_at noted noted' disks (disks_in news) w
    seats_leave_all = record {
      each = λ told. seats_leave state steps tells content moment left_at fault_count place first w told disks olds news (early told) len leave.each;
      together = λ shown told. inr (by_cuts shown told);
    }
