-- The files of disks after a crash: opened as journals, and written by nodes.
use Rattle.std.specs.Prelude.{◌≡◌, ◌⊎◌, ℕ, zero, suc, ◌+◌, ◌≤◌, Some, Bool, IsTrue, List, [], ◌∷◌, length, map}
use Rattle.std.proofs.Common.{refl, subst, inl, inr, arith}
use Rattle.std.proofs.lemmas.Bool.{cases_lt}
use Rattle.std.specs.List.{slice_get}
use Rattle.outside.specs.Disks.{LeavesOnly, Outcomes}
use Rattle.outside.specs.Notes.{Note}
use Rattle.journal_frames.specs.Files.{HaveSameRecords, Stands}
use Rattle.journal_frames.specs.Views.{JournalView, journal_facts}
use Rattle.node_model.specs.States.{NodeState}
use Rattle.node_model.specs.World.{World}
use Rattle.node_traits.specs.Calls.{LeavesAlso}
use Rattle.driver_steps.specs.Crashes.{LeadsTo, LeavesKept}
use Rattle.driver_steps.specs.Seats.{EachLeaves, seat_since, since_then}
use Rattle.driver_steps.specs.declared.seat.Seat.{Seat}
use Rattle.driver_steps.proofs.Crashes.{leads_nowhere}
use Rattle.pipe_driver.specs.Acknowledgements.{AreAcknowledgedBy, IsNotedBefore}
use Rattle.pipe_driver.proofs.Covers.{got_mapped}
use Rattle.cluster_service.specs.Crashes.{AreDurableBefore, IsOfTheWay, IsOfWorld, LeaveAll, LeaveSuch}
use Rattle.cluster_service.specs.Drivers.{output_of}
use Rattle.cluster_service.specs.declared.arguments.Command.{Command}

-- ONE DISK

module _ {D : Type 0} (moment : D → ℕ) (left_at : D → ℕ → Outcomes) where
  pub left_alone : (disk : D) (P : Outcomes) → LeavesAlso moment left_at disk disk P
  left_alone disk P = record {
    later = omega arith;
    before = λ t file le left. left;
    each = λ t file past to left. absurd (omega (arith, past, to));
  }

  -- a file that is possible at a moment from the start on
  from_start : (a b : D) (P S : Outcomes) → LeavesAlso moment left_at a b P → ((file : List ℕ) → P file → S file)
      → (t : ℕ) (file : List ℕ) → moment a ≤ t → t ≤ moment b → left_at b t file → left_at a (moment a) file ⊎ S file
  from_start a b P S first p_is t file from to left = elim (cases_lt (moment a) t) [
    | inl past ↦ elim (first.each t file past to left) [
      | inl was ↦ inl was
      | inr has ↦ inr (p_is file has)
    ]
    | inr until ↦ (let now : t ≡ moment a = omega (arith, from, until) in
        inl (subst (λ n. left_at a n file) now (first.before t file until left)))
  ]

  -- one call after another
  pub leaves_then : (a b c : D) (P Q S : Outcomes) → LeavesAlso moment left_at a b P → LeavesAlso moment left_at b c Q
      → ((file : List ℕ) → P file → S file) → ((file : List ℕ) → Q file → S file) → LeavesAlso moment left_at a c S
  leaves_then a b c P Q S first second p_is q_is = record {
    later = omega (arith, first.later, second.later);
    before = λ t file le left. first.before t file le (second.before t file (omega (arith, le, first.later)) left);
    each = λ t file past to left. elim (cases_lt (moment b) t) [
      | inl later ↦ elim (second.each t file later to left) [
        | inl was ↦ from_start a b P S first p_is (moment b) file first.later (omega arith) was
        | inr has ↦ inr (q_is file has)
      ]
      | inr until ↦ from_start a b P S first p_is t file (omega (arith, past)) until (second.before t file until left)
    ];
  }

  module _ (may_leave : D → Outcomes) (counts_now : (disk : D) (c : List ℕ) → may_leave disk c → left_at disk (moment disk) c) (old new : D) where
    -- the file was opened as a journal
    pub opening_leaves : (content : List ℕ) → LeavesOnly moment left_at old new (λ file. may_leave old file ⊎ HaveSameRecords content file)
        → LeavesAlso moment left_at old new (λ file. HaveSameRecords content file)
    opening_leaves content only = record {
      later = only.later;
      before = only.before;
      each = λ t file past to left. elim (only.each t file (omega (arith, past)) to left) [
        | inl was ↦ inl (counts_now old file was)
        | inr same ↦ inr same
      ];
    }

-- DISKS IN ORDER

module _ {D : Type 0} (moment : D → ℕ) (left_at : D → ℕ → Outcomes) where
  -- files of another kind too
  pub all_weaker : (P Q : ℕ → Outcomes) (befores afters : List D) → ((at : ℕ) (file : List ℕ) → P at file → Q at file)
      → LeaveSuch moment left_at P befores afters → LeaveSuch moment left_at Q befores afters
  all_weaker P Q [] [] is leave = tt
  all_weaker P Q [] (after ∷ afters) is leave = absurd leave
  all_weaker P Q (before ∷ befores) [] is leave = absurd leave
  all_weaker P Q (before ∷ befores) (after ∷ afters) is leave = (
    leaves_then moment left_at before before after (λ file. ⊥) (P zero) (Q zero) (left_alone moment left_at before (λ file. ⊥)) leave.0
        (λ file never. absurd never) (is zero),
    all_weaker (λ at. P (suc at)) (λ at. Q (suc at)) befores afters (λ at. is (suc at)) leave.1,
  )

-- THE NODES

-- the first world is on the way
pub of_the_first : (first w : World) (at : ℕ) (file : List ℕ) → LeadsTo first w → IsOfWorld first at file → IsOfTheWay first w at file
of_the_first first w at file on stands = record { world = first; before = leads_nowhere first; behind = on; has = stands }

-- where no event happened
pub first_leaves : {D : Type 0} (moment : D → ℕ) (left_at : D → ℕ → Outcomes) (first : World) (befores afters : List D)
    → LeaveSuch moment left_at (IsOfWorld first) befores afters → LeaveSuch moment left_at (λ at file. IsOfTheWay first first at file) befores afters
first_leaves moment left_at first befores afters leave =
    all_weaker moment left_at (IsOfWorld first) (λ at file. IsOfTheWay first first at file) befores afters
    (λ at file stands. of_the_first first first at file (leads_nowhere first) stands) leave

-- of all disks too
pub first_leaves_all : {D : Type 0} (first : World) (shows tells : Bool) (place : D → List ℕ) (moment : D → ℕ) (left_at : D → ℕ → Outcomes)
    (noted noted' : List Note) (befores afters : List D) → (IsTrue tells → LeaveSuch moment left_at (IsOfWorld first) befores afters)
    → LeaveAll first shows tells place moment left_at noted noted' befores afters first
first_leaves_all first shows tells place moment left_at noted noted' befores afters leave = record {
  each = λ told. first_leaves moment left_at first befores afters (leave told);
  together = λ shown told. inl (refl, leave told);
}

module _ {N D : Type 0} (state : N → NodeState) (steps : N → ℕ) (tells : Bool) (content : D → List ℕ) (moment : D → ℕ) (left_at : D → ℕ → Outcomes) (fault_count : D → ℕ)
    (place : D → List ℕ) (first w : World) (told : IsTrue tells) where
  -- what is said of a log is said of its disk
  pub at_place : (at : ℕ) (disk : D) (old new : JournalView D) → LeavesAlso moment left_at disk old.disk (IsOfWorld first at)
      → LeavesKept (journal_facts tells content moment left_at fault_count place) first old new at w
      → LeavesAlso moment left_at disk new.disk (λ file. IsOfTheWay first w at file)
  at_place at disk old new early k =
      leaves_then moment left_at disk old.disk new.disk (IsOfWorld first at) (λ file. IsOfTheWay first w at file) (λ file. IsOfTheWay first w at file) early
      (record { later = k.left.later; before = k.left.before; each = λ t file past to left. inr (k.left.each t file past to left) }) (λ file stands. of_the_first first w at file k.came stands) (λ file is. is)

  each_place : (node : ℕ → ℕ) (disks : List D) (olds news : List (Seat N (JournalView D)))
      → LeaveSuch moment left_at (λ at. IsOfWorld first (node at)) disks (map (λ s. s.log.disk) olds) → length olds ≡ length news
      → ((at : ℕ) (s : Seat N (JournalView D)) → slice_get news at ≡ Some s → (old : JournalView D) → slice_get (map (λ s. s.log) olds) at ≡ Some old
      → LeavesKept (journal_facts tells content moment left_at fault_count place) first old s.log (node at) w)
      → LeaveSuch moment left_at (λ at file. IsOfTheWay first w (node at) file) disks (map (λ s. s.log.disk) news)
  each_place node [] [] [] early len kept = tt
  each_place node [] [] (s ∷ news) early len kept = absurd (omega (arith, len))
  each_place node [] (o ∷ olds) news early len kept = absurd early
  each_place node (disk ∷ disks) [] news early len kept = absurd early
  each_place node (disk ∷ disks) (o ∷ olds) [] early len kept = absurd (omega (arith, len))
  each_place node (disk ∷ disks) (o ∷ olds) (s ∷ news) early len kept = (
    at_place (node zero) disk o.log s.log early.0 (kept zero s refl o.log refl),
    each_place (λ at. node (suc at)) disks olds news early.1 (omega (arith, len)) (λ at. kept (suc at)),
  )

  -- and so of all disks
  pub seats_leave : (disks : List D) (olds news : List (Seat N (JournalView D)))
      → LeaveSuch moment left_at (IsOfWorld first) disks (map (λ s. s.log.disk) olds) → length olds ≡ length news
      → EachLeaves (seat_since state steps (journal_facts tells content moment left_at fault_count place) (since_then olds first)) news w
      → LeaveSuch moment left_at (λ at file. IsOfTheWay first w at file) disks (map (λ s. s.log.disk) news)
  seats_leave disks olds news early len leave =
      each_place (λ at. at) disks olds news early len (λ at s got old began. (leave at s got told).0 old began)

-- BYTES THAT ARE ACKNOWLEDGED

-- no byte was written
pub none_owed : {D : Type 0} (tells_bytes tells : Bool) (place : D → List ℕ) (moment : D → ℕ) (left_at : D → ℕ → Outcomes) (command : Command) (first : World)
    (notes : List Note) (held_before : List ℕ) (disks : List D) (last : World)
    → AreDurableBefore tells_bytes tells place moment left_at command first notes held_before disks last []
none_owed tells_bytes tells place moment left_at command first notes held_before disks last bytes files offset below = absurd (omega (arith, below))

module _ {N D : Type 0} (tells_bytes tells : Bool) (content : D → List ℕ) (moment : D → ℕ) (left_at : D → ℕ → Outcomes) (fault_count : D → ℕ)
    (place : D → List ℕ) (command : Command) (first : World) (notes : List Note) (held_before : List ℕ) (seats : List (Seat N (JournalView D))) (last : World)
    (put : List ℕ) where
  -- what is acknowledged by logs is so by their disks
  pub disks_owed : AreAcknowledgedBy (journal_facts tells content moment left_at fault_count place) tells_bytes (output_of command first) first notes
      held_before seats last put
      → AreDurableBefore tells_bytes tells place moment left_at command first notes held_before (map (λ s. s.log.disk) seats) last put
  disks_owed owed bytes files offset below =
      let a = owed bytes files offset below in
      record {
        given = a.given;
        out = a.out;
        from = a.from;
        to = a.to;
        outputs = a.outputs;
        has = a.has;
        each = λ at disk got.
            let s = got_mapped (λ (z : Seat N (JournalView D)). z.log.disk) seats at disk got in
            let n = a.each at s.0 s.1 in
            subst (λ (d : D). IsNotedBefore Stands place moment left_at notes (length held_before + offset) a.given last at d) s.2
            (record { which = n.which; note = n.note; taken = n.taken; is_there = n.is_there; before = n.before; later = n.later; left = n.left });
      }
