-- Requests of bytes that came on a link.
use Rattle.std.proofs.Common.{◌≡◌, ℕ, Bool, List, [], refl, subst}
use Rattle.node_model.specs.World.{World, stands}
use Rattle.node_traits.specs.declared.outputs.ToLink.{ToLink}
use Rattle.driver_steps.specs.Seats.{Hosted, SeatView}
use Rattle.driver_steps.specs.Worlds.{NetworkView}
use Rattle.pipe_driver.specs.declared.status.Status.{Status}
use Rattle.sim_driver.specs.Moves.{AreStill, HasAsked, IsCut, IsFirstAsked}
use Rattle.sim_driver.proofs.Faults.{cut_here}

module _ {S : Type 0} (view : S → SeatView) (hosts : Hosted S) (w : World) (at number replied : ℕ) (bytes : List ℕ) where
  -- no request came
  pub link_unfed : (status : Status) → AreStill view hosts w → IsCut view hosts w (IsFirstAsked at number replied bytes) status
  link_unfed status are =
      cut_here view hosts w [] w (IsFirstAsked at number replied bytes) status (stands w)
      (record { consumed = []; rest = bytes; requests = []; all = refl; asked = record { all = refl; each = tt }; first = ([], refl) }) are

  module _ (all : List ℕ) (whole : all ≡ bytes) where
    pub link_cut : (status : Status) → IsCut view hosts w (IsFirstAsked at number replied all) status
        → IsCut view hosts w (IsFirstAsked at number replied bytes) status
    link_cut status c = subst (λ (b : List ℕ). IsCut view hosts w (IsFirstAsked at number replied b) status) whole c

    pub link_asked : (network : NetworkView) (handed : List ToLink) (left : List ℕ) (count : ℕ) (malformed told : Bool) → malformed ≡ told
        → HasAsked view hosts network handed w at number replied all left count malformed
        → HasAsked view hosts network handed w at number replied bytes left count told
    link_asked network handed left count malformed told same a =
        subst (λ (b : Bool). HasAsked view hosts network handed w at number replied bytes left count b) same
        (subst (λ (b : List ℕ). HasAsked view hosts network handed w at number replied b left count malformed) whole a)
