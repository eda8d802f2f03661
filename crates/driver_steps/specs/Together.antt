-- What a crash leaves of the disks of all hosted nodes together (own).
use Rattle.std.specs.Prelude.{◌≡◌, ℕ, Bool, IsTrue, List, [], ◌∷◌, ◌++◌, map}
use Rattle.outside.specs.Logs.{LogFacts}
use Rattle.outside.specs.Notes.{Note}
use Rattle.node_model.specs.World.{World}
use Rattle.node_traits.specs.Effects.{spellings}
use Rattle.driver_steps.specs.Crashes.{LeadsTo, Since}
use Rattle.driver_steps.specs.Cuts.{LeaveTogether}
use Rattle.driver_steps.specs.Seats.{AreDurableWhileOpen, Hosted}
use Rattle.driver_steps.specs.declared.seat.Seat.{Seat}

-- the records that the journals of a world store, in order of the nodes
abbrev pub stored_in : World → List (List (List ℕ))
stored_in w = map (λ h. spellings h.kept) w.nodes

-- an opening of each file finds the records that are in its place
abbrev pub AreFound : (finds : List ℕ → List (List ℕ) → Type 0) → (files : List (List ℕ)) → List (List (List ℕ)) → Type 0
AreFound finds [] [] = Unit {0}
AreFound finds (file ∷ files) (records ∷ more) = finds file records × AreFound finds files more
AreFound finds files more = ⊥

-- an opening of the files finds just what the nodes store in the world
abbrev pub AreOfOne : (finds : List ℕ → List (List ℕ) → Type 0) → (files : List (List ℕ)) → World → Type 0
AreOfOne finds files w = AreFound finds files (stored_in w)

-- From a start, with these logs in a world, notes were taken after others, and by these notes a crash at any moment since then left of all disks together what
-- the nodes stored in one world, on the way from the world of the start to this one.
pub record TogetherFrom {N L : Type 0} (facts : LogFacts L) (logs : List L) (start : World) (before noted : List Note) (seats : List (Seat N L)) (w : World) : Type 0 where
  pub notes : List Note
  pub taken : noted ≡ before ++ notes
  pub leave : LeaveTogether facts.place facts.moment facts.left_at LeadsTo (AreOfOne facts.finds) (map facts.place logs) (map facts.moment logs)
      (map (λ s. s.log) seats) start w notes
  pub durable : AreDurableWhileOpen facts seats

abbrev pub TogetherSince : {N L : Type 0} → LogFacts L → Since L → (noted : List Note) → List (Seat N L) → World → Type 0
TogetherSince facts since noted seats w = TogetherFrom facts since.logs since.world since.taken noted seats w

-- nodes with their logs, where the sink has these notes: that is said where the sink shows its notes and the records of the logs are observable
abbrev pub hosted : {N L : Type 0} → (shows : Bool) → LogFacts L → Since L → (noted : List Note) → List (Seat N L) → Hosted (Seat N L)
hosted shows facts since noted hosts = record {
  seats = hosts;
  together = λ w. IsTrue shows → IsTrue facts.tells → TogetherFrom facts since.logs since.world since.taken noted hosts w;
}
