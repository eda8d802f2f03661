-- Disks as they were seen, and notes of them (own).
use Rattle.std.specs.Prelude.{ℕ, List, map}
use Rattle.outside.specs.Notes.{Note, Sight}
use Rattle.node_cell.specs.Views.{Sights}

abbrev pub pairs_of : List Sight → Sights
pairs_of seen = map (λ (s : Sight). (s.place, s.moment)) seen

-- the notes of these disks, in order, before which the link held so many bytes
abbrev pub notes_at : (length : ℕ) → Sights → List Note
notes_at length disks = map (λ d. record { place = d.0; moment = d.1; length = length }) disks
