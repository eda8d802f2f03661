-- A plan may be taken.
use Rattle.std.proofs.Common.{◌≡◌, ◌≤◌, ◌<◌, ℕ, List, [], ◌∷◌, sym, subst, arith}
use Rattle.std.specs.Prelude.{Some, None, Result, Ok, Err, IfOk, IfSome}
use Rattle.std.specs.List.{AllByRecursion}
use Rattle.chunk_catalogue.specs.Catalogues.{IsNext}
use Rattle.chunk_catalogue.specs.Views.{change_view}
use Rattle.chunk_catalogue.specs.declared.change.Change.{Change}
use Rattle.chunk_model.specs.Changes as changes
use Rattle.chunk_model.specs.Changes.{time_of}
use Rattle.cluster_base.specs.declared.time.Time.{Time}
use Rattle.config_node.specs.StepPlans.{IsReady}
use Rattle.config_node.specs.declared.state.ConfigNode.{ConfigNode}
use Rattle.config_node.specs.declared.plan.StepPlan.{StepPlan}

-- the changes are not later than a later time
pub past_later : (a b : ℕ) (xs : List changes.Change) → a ≤ b → AllByRecursion (λ x. time_of x ≤ a) xs → AllByRecursion (λ x. time_of x ≤ b) xs
past_later a b [] le all = tt
past_later a b (x ∷ xs) le all = (omega (arith, le, all.0), past_later a b xs le all.1)

-- they are before a time above it
pub past_before : (a b : ℕ) (xs : List changes.Change) → a < b → AllByRecursion (λ x. time_of x ≤ a) xs → AllByRecursion (λ x. time_of x < b) xs
past_before a b [] lt all = tt
past_before a b (x ∷ xs) lt all = (omega (arith, lt, all.0), past_before a b xs lt all.1)

pub ready_quiet : (n : ConfigNode) (p : StepPlan) → n.time.0 ≤ p.time.0 → p.change ≡ None → IsReady n p
ready_quiet n p later none = record {
  later = later;
  next = subst (λ o. IfSome o (λ c. IsNext n.catalogue c)) (sym none) tt;
  past = subst (λ o. IfSome o (λ c. time_of (change_view c.fields) ≤ p.time.0)) (sym none) tt;
}

pub ready_with : (n : ConfigNode) (p : StepPlan) (x : Change) → n.time.0 ≤ p.time.0 → p.change ≡ Some x → IsNext n.catalogue x
    → time_of (change_view x.fields) ≤ p.time.0 → IsReady n p
ready_with n p x later one next past = record {
  later = later;
  next = subst (λ o. IfSome o (λ c. IsNext n.catalogue c)) (sym one) next;
  past = subst (λ o. IfSome o (λ c. time_of (change_view c.fields) ≤ p.time.0)) (sym one) past;
}

-- where a request is answered at a time
pub ready_told : (n : ConfigNode) (p : StepPlan) (time : Time) → n.time.0 ≤ time.0 → p.time ≡ time → p.change ≡ None → IsReady n p
ready_told n p time later late none = ready_quiet n p (subst (λ t. n.time.0 ≤ t.0) (sym late) later) none

-- where a change is made at a time
pub ready_made : {E : Type 0} (n : ConfigNode) (x : Change) (time : Time) (r : Result StepPlan E) → n.time.0 ≤ time.0
    → IsNext n.catalogue x → time_of (change_view x.fields) ≡ time.0 → IfOk r (λ p. p.time ≡ time) → IfOk r (λ p. p.change ≡ Some x)
    → IfOk r (λ p. IsReady n p)
ready_made n x time (Err e) later next at late one = tt
ready_made n x time (Ok p) later next at late one =
    let le : n.time.0 ≤ p.time.0 = subst (λ t. n.time.0 ≤ t.0) (sym late) later in
    let same : time_of (change_view x.fields) ≡ p.time.0 = subst (λ t. time_of (change_view x.fields) ≡ t.0) (sym late) at in
    ready_with n p x le one next (omega (arith, same))
