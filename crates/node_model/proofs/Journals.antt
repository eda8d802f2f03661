-- What a node stores, by its place.
use Rattle.std.proofs.Common.{◌≡◌, ℕ, zero, suc, List, [], ◌∷◌, refl, ap}
use Rattle.std.specs.Prelude.{Some}
use Rattle.std.specs.List.{slice_get, slice_set}
use Rattle.node_model.specs.World.{Held, journal_at}

-- at the place of a step
pub journal_here : (nodes : List Held) (at : ℕ) (old new : Held) → slice_get nodes at ≡ Some old → journal_at (slice_set nodes at new) at ≡ new.kept
journal_here [] at old new here = absurd (cc)
journal_here (h ∷ nodes) zero old new here = refl
journal_here (h ∷ nodes) (suc at) old new here = journal_here nodes at old new here

-- and of the node at that place
pub journal_got : (nodes : List Held) (at : ℕ) (old : Held) → slice_get nodes at ≡ Some old → journal_at nodes at ≡ old.kept
journal_got [] at old here = absurd (cc)
journal_got (h ∷ nodes) zero old here = let same : h ≡ old = cc in ap (λ (x : Held). x.kept) same
journal_got (h ∷ nodes) (suc at) old here = journal_got nodes at old here
