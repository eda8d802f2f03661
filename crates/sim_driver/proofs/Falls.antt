-- What is left to do falls with each message that is delivered or passed over.
use Rattle.std.proofs.Common.{◌≡◌, inl, inr, ℕ, ◌+◌, ◌*◌, ◌<◌, ◌≤◌, ◌^◌, List, [], ◌++◌, length, take, drop, map, refl, sym, ap, subst, ◌∙◌, arith, add-one, append-nil}
use Rattle.std.specs.Prelude.{Some}
use Rattle.std.specs.List.{slice_get}
use Rattle.std.proofs.lemmas.List.{drop-append-le, map-append, take-append-drop}
use Rattle.std.proofs.lemmas.Option.{slice_get_within}
use Rattle.node_model.specs.Letters.{Letter}
use Rattle.driver_steps.specs.Moves.{BeginWith, IsLess, cost_of, costs_of}
use Rattle.driver_steps.proofs.Costs.{costs_append, costs_below, lost_costs}
use Rattle.sim_driver.specs.Moves.{IsLessFrom}
use Rattle.sim_driver.proofs.Places.{drop_here}

costs_dropped : (n : ℕ) (sent : List Letter) → costs_of (drop n sent) ≤ costs_of sent
costs_dropped n sent =
    omega (arith, costs_append (take n sent) (drop n sent), ap (λ (l : List Letter). costs_of l) (take-append-drop n sent))

-- the message at a place is the next of those that are left
costs_here : (sent : List Letter) (at : ℕ) (m : Letter) → slice_get sent at ≡ Some m → costs_of (drop at sent) ≡ cost_of m.body + costs_of (drop (at + 1) sent)
costs_here sent at m got =
    ap (λ (l : List Letter). costs_of l) (drop_here sent at m got) ∙ ap (λ (n : ℕ). cost_of m.body + costs_of (drop n sent)) (sym (add-one at))

-- it is delivered, and others are sent
less_delivered : (left left_after at : ℕ) (sent more : List Letter) (m : Letter) → slice_get sent at ≡ Some m
    → IsLess left left_after sent (cost_of m.body) (sent ++ more) → IsLessFrom left left_after at sent (sent ++ more)
less_delivered left left_after at sent more m got (inl fewer) = inl fewer
less_delivered left left_after at sent more m got (inr (same, less)) =
    let behind : costs_of (drop (at + 1) (sent ++ more)) ≡ costs_of (drop (at + 1) sent) + costs_of more =
    ap (λ (l : List Letter). costs_of l) (drop-append-le (at + 1) sent more (omega (arith, slice_get_within sent at m got)))
    ∙ costs_append (drop (at + 1) sent) more in
    inr (same, omega (arith, behind, less, costs_append sent more, costs_here sent at m got))

-- it is passed over
pub less_passed : (left at : ℕ) (sent : List Letter) (m : Letter) → slice_get sent at ≡ Some m → IsLessFrom left left at sent sent
less_passed left at sent m got =
    subst (λ (l : List Letter). IsLessFrom left left at sent l) (append-nil sent)
    (less_delivered left left at sent [] m got
    (subst (λ (l : List Letter). IsLess left left sent (cost_of m.body) l) (sym (append-nil sent)) (lost_costs left sent m.body)))

-- messages as the program has them
module _ {M : Type 0} (letter : M → Letter) (left left_after at : ℕ) (sent after : List M) where
  pub less_sent : (m : Letter) → slice_get (map letter sent) at ≡ Some m → BeginWith sent after
      → IsLess left left_after (map letter sent) (cost_of m.body) (map letter after) → IsLessFrom left left_after at (map letter sent) (map letter after)
  less_sent m got (others, is) less =
      let same : map letter after ≡ map letter sent ++ map letter others = ap (λ (l : List M). map letter l) is ∙ map-append letter sent others in
      subst (λ (l : List Letter). IsLessFrom left left_after at (map letter sent) l) (sym same)
      (less_delivered left left_after at (map letter sent) (map letter others) m got
      (subst (λ (l : List Letter). IsLess left left_after (map letter sent) (cost_of m.body) l) same less))

  -- so less is left to do
  pub less_to_do : IsLessFrom left left_after at (map letter sent) (map letter after) → length after < 2 ^ 64
      → left_after * 2 ^ 66 + costs_of (drop (at + 1) (map letter after)) < left * 2 ^ 66 + costs_of (drop at (map letter sent))
  less_to_do (inl fewer) fits = omega (arith, fewer, fits, costs_below letter after, costs_dropped (at + 1) (map letter after))
  less_to_do (inr (same, less)) fits = omega (arith, same, less)
