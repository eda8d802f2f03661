-- In each world of a run node 0 is the catalogue, and the nodes that a router knows as shards are shards.
use Rattle.std.proofs.Common.{◌≡◌, ◌≢◌, ◌⊎◌, inl, inr, ℕ, zero, suc, ◌+◌, List, [], ◌∷◌, ◌++◌, length, refl, sym, ap, subst, ◌∙◌, arith, append_assoc, length-append}
use Rattle.std.specs.Prelude.{Some}
use Rattle.std.specs.List.{AllByRecursion, slice_get, slice_set}
use Rattle.history_model.proofs.Lists.{all_weaken}
use Rattle.chunk_model.specs.Tables.{first_shard}
use Rattle.node_model.specs.Journal.{Kept}
use Rattle.node_model.specs.Letters.{Input, Effect}
use Rattle.node_model.specs.States.{Catalogue, Shard, Router, NodeState, catalogue_state, shard_state, router_state, new_catalogue, new_shard, new_router}
use Rattle.node_model.specs.RouterRequests.{places_from, shards_of}
use Rattle.node_model.specs.RouterRows.{begins}
use Rattle.node_model.specs.Steps.{Step, catalogue_step, shard_step, router_step, begin_step, other_step}
use Rattle.node_model.specs.World.{Held, shards_from, routers_from, start}
use Rattle.node_laws.proofs.StepsKeep.{get_set}
use Rattle.node_progress.proofs.Places.{get_other, get_behind, same_place}
use Rattle.node_progress.proofs.Takings.{stays_in_life}

-- the node at a place is a shard
abbrev pub IsShardIn : List Held → ℕ → Type 0
IsShardIn nodes at = (s : Shard) × (kept : List Kept) × (steps : ℕ) × (slice_get nodes at ≡ Some (record { state = shard_state s; kept = kept; steps = steps }))

-- a router knows of one at least, and these are shards
pub record KnowsShards (nodes : List Held) (r : Router) : Type 0 where
  pub some : r.shards ≢ 0
  pub each : AllByRecursion (IsShardIn nodes) (shards_of r)

pub record AreShards (nodes : List Held) : Type 0 where
  pub first : (c : Catalogue) × (kept : List Kept) × (steps : ℕ) × (slice_get nodes 0 ≡ Some (record { state = catalogue_state c; kept = kept; steps = steps }))
  pub known : (at : ℕ) (r : Router) (kept : List Kept) (steps : ℕ) → slice_get nodes at ≡ Some (record { state = router_state r; kept = kept; steps = steps }) → KnowsShards nodes r

-- A STEP

-- the node is of the same kind, and a router knows of the same shards
abbrev pub IsSameNode : NodeState → NodeState → Type 0
IsSameNode (catalogue_state c) (catalogue_state d) = Unit {0}
IsSameNode (shard_state s) (shard_state t) = Unit {0}
IsSameNode (router_state r) (router_state u) = u.shards ≡ r.shards
IsSameNode s t = ⊥

pub same_node : (s : NodeState) → IsSameNode s s
same_node (catalogue_state c) = tt
same_node (shard_state s) = tt
same_node (router_state r) = refl

pub step_same : (s t : NodeState) (i : Input) (f : Effect) → Step s i f t → IsSameNode s t
step_same _ _ _ _ (catalogue_step c d i f own row) = tt
step_same _ _ _ _ (shard_step s t i f own row) = tt
step_same _ _ _ _ (router_step r u i f own row) = (stays_in_life r u i f row).shards
step_same _ _ _ _ (begin_step r u i f early before row) = (stays_in_life (begins r) u i f row).shards
step_same _ _ _ _ (other_step s m other) = same_node s

same_held : (nodes : List Held) (at : ℕ) (x y : Held) → slice_get nodes at ≡ Some x → slice_get nodes at ≡ Some y → x ≡ y
same_held nodes at x y got has =
    let both : Some x ≡ Some y = sym got ∙ has in
    cc both

module _ (nodes : List Held) (p : ℕ) (old new : Held) (here : slice_get nodes p ≡ Some old) (same : IsSameNode old.state new.state) where
  abbrev after : List Held
  after = slice_set nodes p new

  new_at : (at : ℕ) → at ≡ p → slice_get after at ≡ Some new
  new_at at place = ap (λ k. slice_get after k) place ∙ get_set nodes p old new here

  old_at : (at : ℕ) (h : Held) → at ≡ p → slice_get nodes at ≡ Some h → old ≡ h
  old_at at h place got = same_held nodes p old h here (ap (λ k. slice_get nodes k) (sym place) ∙ got)

  shard_stays : (at : ℕ) → IsShardIn nodes at → IsShardIn after at
  shard_stays at is = by_place (same_place at p)
    where
      by_state : (s : NodeState) → IsSameNode (shard_state is.0) s → new.state ≡ s → at ≡ p → IsShardIn after at
      by_state (catalogue_state c) kind own place = absurd kind
      by_state (shard_state s) kind own place = (s, new.kept, new.steps, new_at at place ∙ ap (λ x. Some (record { state = x; kept = new.kept; steps = new.steps })) own)
      by_state (router_state r) kind own place = absurd kind

      by_place : (at ≡ p) ⊎ (at ≢ p) → IsShardIn after at
      by_place (inl place) =
          let was = ap (λ (h : Held). h.state) (old_at at (record { state = shard_state is.0; kept = is.1; steps = is.2 }) place is.3) in
          by_state new.state (subst (λ s. IsSameNode s new.state) was same) refl place
      by_place (inr other) = (is.0, is.1, is.2, get_other nodes p at new other ∙ is.3)

  catalogue_stays : (c : Catalogue) (kept : List Kept) (steps : ℕ) → slice_get nodes 0 ≡ Some (record { state = catalogue_state c; kept = kept; steps = steps })
      → (d : Catalogue) × (more : List Kept) × (count : ℕ) × (slice_get after 0 ≡ Some (record { state = catalogue_state d; kept = more; steps = count }))
  catalogue_stays c kept steps is = by_place (same_place 0 p)
    where
      by_state : (s : NodeState) → IsSameNode (catalogue_state c) s → new.state ≡ s → 0 ≡ p
          → (d : Catalogue) × (more : List Kept) × (count : ℕ) × (slice_get after 0 ≡ Some (record { state = catalogue_state d; kept = more; steps = count }))
      by_state (catalogue_state d) kind own place = (d, new.kept, new.steps, new_at 0 place ∙ ap (λ x. Some (record { state = x; kept = new.kept; steps = new.steps })) own)
      by_state (shard_state s) kind own place = absurd kind
      by_state (router_state r) kind own place = absurd kind

      by_place : (0 ≡ p) ⊎ (0 ≢ p) → (d : Catalogue) × (more : List Kept) × (count : ℕ) × (slice_get after 0 ≡ Some (record { state = catalogue_state d; kept = more; steps = count }))
      by_place (inl place) =
          let was = ap (λ (h : Held). h.state) (old_at 0 (record { state = catalogue_state c; kept = kept; steps = steps }) place is) in
          by_state new.state (subst (λ s. IsSameNode s new.state) was same) refl place
      by_place (inr other) = (c, kept, steps, get_other nodes p 0 new other ∙ is)

  knows_stays : (r : Router) → KnowsShards nodes r → KnowsShards after r
  knows_stays r k = record { some = k.some; each = all_weaken (IsShardIn nodes) (IsShardIn after) (shards_of r) shard_stays k.each }

  -- a router knew as many before
  known_before : (s : NodeState) (u : Router) → IsSameNode s (router_state u) → old.state ≡ s
      → ((r : Router) → old ≡ record { state = router_state r; kept = old.kept; steps = old.steps } → KnowsShards nodes r) → KnowsShards nodes u
  known_before (catalogue_state c) u kind own known = absurd kind
  known_before (shard_state s) u kind own known = absurd kind
  known_before (router_state r) u kind own known =
      let k = known r (ap (λ x. record { state = x; kept = old.kept; steps = old.steps }) own) in
      record {
        some = λ none. k.some (sym kind ∙ none);
        each = subst (λ n. AllByRecursion (IsShardIn nodes) (places_from first_shard n)) (sym kind) k.each;
      }

  pub shards_stay : AreShards nodes → AreShards after
  shards_stay are = record {
    first = catalogue_stays are.first.0 are.first.1 are.first.2 are.first.3;
    known = λ at u kept steps got. knows_stays u (by_place at u kept steps got (same_place at p));
  }
    where
      by_place : (at : ℕ) (u : Router) (kept : List Kept) (steps : ℕ) → slice_get after at ≡ Some (record { state = router_state u; kept = kept; steps = steps })
          → (at ≡ p) ⊎ (at ≢ p) → KnowsShards nodes u
      by_place at u kept steps got (inl place) =
          let is = ap (λ (h : Held). h.state) (same_held after at new (record { state = router_state u; kept = kept; steps = steps }) (new_at at place) got) in
          known_before old.state u (subst (λ s. IsSameNode old.state s) is same) refl
          (λ r was. are.known p r old.kept old.steps (here ∙ ap (λ h. Some h) was))
      by_place at u kept steps got (inr other) = are.known at u kept steps (sym (get_other nodes p at new other) ∙ got)

-- THE START

-- shards follow what comes before them
shards_follow : (front back : List Held) (at n : ℕ) → length front ≡ at → AllByRecursion (IsShardIn (front ++ (shards_from at n ++ back))) (places_from at n)
shards_follow front back at zero here = tt
shards_follow front back at (suc n) here =
    let one : Held = record { state = shard_state (new_shard at); kept = []; steps = 0 } in
    let rest : List Held = shards_from (at + 1) n ++ back in
    let l = length-append front (one ∷ []) in (
      (new_shard at, [], 0, subst (λ k. slice_get (front ++ one ∷ rest) k ≡ Some one) here (get_behind front one rest)),
      subst (λ nodes. AllByRecursion (IsShardIn nodes) (places_from (at + 1) n)) (append_assoc front (one ∷ []) rest)
          (shards_follow (front ++ one ∷ []) back (at + 1) n (omega (arith, l, here))),
    )

pub same_state : (x y : Held) → Some x ≡ Some y → x.state ≡ y.state
same_state x y both =
    let one : x ≡ y = cc both in
    ap (λ (h : Held). h.state) one

-- and routers follow the shards
routers_know : (at shards n j : ℕ) (r : Router) (kept : List Kept) (steps : ℕ) → slice_get (routers_from at shards n) j ≡ Some (record { state = router_state r; kept = kept; steps = steps })
    → r.shards ≡ shards
routers_know at shards zero j r kept steps got = absurd (cc got)
routers_know at shards (suc n) zero r kept steps got =
    let state = same_state (record { state = router_state (new_router at shards); kept = []; steps = 0 }) (record { state = router_state r; kept = kept; steps = steps }) got in
    let one : new_router at shards ≡ r = cc state in
    ap (λ (x : Router). x.shards) (sym one)
routers_know at shards (suc n) (suc j) r kept steps got = routers_know (at + 1) shards n j r kept steps got

routers_follow : (first others at shards n j : ℕ) (r : Router) (kept : List Kept) (steps : ℕ)
    → slice_get (shards_from first others ++ routers_from at shards n) j ≡ Some (record { state = router_state r; kept = kept; steps = steps }) → r.shards ≡ shards
routers_follow first zero at shards n j r kept steps got = routers_know at shards n j r kept steps got
routers_follow first (suc others) at shards n zero r kept steps got =
    let state = same_state (record { state = shard_state (new_shard first); kept = []; steps = 0 }) (record { state = router_state r; kept = kept; steps = steps }) got in
    absurd (cc state)
routers_follow first (suc others) at shards n (suc j) r kept steps got = routers_follow (first + 1) others at shards n j r kept steps got

pub start_shards : (others routers : ℕ) → AreShards (start others routers).nodes
start_shards others routers = record { first = (_, _, _, refl); known = known }
  where
    back : List Held
    back = routers_from (first_shard + others + 1) (others + 1) routers

    counted : (at : ℕ) (r : Router) (kept : List Kept) (steps : ℕ) → slice_get (start others routers).nodes at ≡ Some (record { state = router_state r; kept = kept; steps = steps })
        → r.shards ≡ suc others
    counted zero r kept steps got =
        let state = same_state (record { state = catalogue_state (new_catalogue 0); kept = []; steps = 0 }) (record { state = router_state r; kept = kept; steps = steps }) got in
        absurd (cc state)
    counted (suc zero) r kept steps got =
        let state = same_state (record { state = shard_state (new_shard first_shard); kept = []; steps = 0 }) (record { state = router_state r; kept = kept; steps = steps }) got in
        absurd (cc state)
    counted (suc (suc at)) r kept steps got =
        let n = routers_follow (first_shard + 1) others (first_shard + others + 1) (others + 1) routers at r kept steps got in
        omega (arith, n)

    known : (at : ℕ) (r : Router) (kept : List Kept) (steps : ℕ) → slice_get (start others routers).nodes at ≡ Some (record { state = router_state r; kept = kept; steps = steps })
        → KnowsShards (start others routers).nodes r
    known at r kept steps got =
        let n = counted at r kept steps got in
        record {
          some = λ none. omega (arith, n, none);
          each = subst (λ k. AllByRecursion (IsShardIn (start others routers).nodes) (places_from first_shard k)) (sym n)
              (shards_follow (record { state = catalogue_state (new_catalogue 0); kept = []; steps = 0 } ∷ []) back first_shard (suc others) refl);
        }
