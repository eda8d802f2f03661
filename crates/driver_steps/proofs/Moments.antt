-- A moment of one node.
use Rattle.std.proofs.Common.{◌≡◌, ℕ, List, [], ◌∷◌, refl, subst}
use Rattle.node_model.specs.Letters.{Input, moment_input}
use Rattle.node_model.specs.World.{World, Meets, moment_event, passes, stands}
use Rattle.node_traits.specs.declared.outputs.NotTaken.{NotTaken}
use Rattle.node_traits.specs.declared.outputs.ToLink.{ToLink}
use Rattle.driver_steps.specs.Seats.{Hosted, SeatView}
use Rattle.driver_steps.specs.Worlds.{NetworkView}
use Rattle.driver_steps.specs.Moves.{IsEvent, BeginWith, HasHappened, HasMoved, HasStopped, IsCutShort}
use Rattle.driver_steps.proofs.Runs.{stopped}

is_moment : (w : World) (at moment : ℕ) (i : Input) → i ≡ moment_input moment → IsEvent w at i (moment_event at moment)
is_moment w at moment i is v meets = passes w v at moment (subst (λ (x : Input). Meets w at x v) is meets)

pub moment_passed : {S : Type 0} (view : S → SeatView) (hosts : Hosted S) (network : NetworkView) (handed : List ToLink) (u : World) (next at moment : ℕ)
    (i : Input) → i ≡ moment_input moment → HasMoved view hosts network handed u next at i
    → HasHappened view hosts network handed u next (moment_event at moment)
moment_passed view hosts network handed u next at moment i is h = record {
  end = h.end;
  happens = is_moment u at moment i is h.end h.meets;
  stands = h.stands (moment_event at moment) (is_moment u at moment i is);
}

pub moment_stopped : {S : Type 0} (view : S → SeatView) (hosts : Hosted S) (replies handed : List ToLink) (w : World) (at moment : ℕ)
    (i : Input) (fault : NotTaken) → i ≡ moment_input moment → IsCutShort view hosts replies handed w at i fault
    → HasStopped view hosts replies handed w (λ events. BeginWith events (moment_event at moment ∷ [])) fault
moment_stopped view hosts replies handed w at moment i fault is c =
    stopped view hosts replies handed w [] w (moment_event at moment) at i
    (λ events. BeginWith events (moment_event at moment ∷ [])) fault (stands w)
    (is_moment w at moment i is)
    (moment_event at moment ∷ [], refl) ([], refl) c
