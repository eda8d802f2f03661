-- The seats of nodes with their journals.
use Rattle.std.specs.Prelude.{List, [], ◌∷◌}
use Rattle.driver_steps.specs.declared.seat.Seat.{Seat}
use Rattle.journal_frames.specs.Views.{JournalView}

-- each node with the journal in its place
abbrev pub seats_of : {N D : Type 0} → List N → List (JournalView D) → List (Seat N (JournalView D))
seats_of [] journals = []
seats_of (node ∷ nodes) [] = []
seats_of (node ∷ nodes) (journal ∷ journals) = record { node = node; log = journal } ∷ seats_of nodes journals
