-- A router stays in its life, and each request that was taken since a world is of a life that goes on.
use Rattle.std.proofs.Common.{◌≡◌, ◌≢◌, ◌⊎◌, inl, inr, ℕ, ◌+◌, List, [], ◌∷◌, ◌++◌, length, refl, sym, ap, subst, ◌∙◌, append_assoc, append-nil}
use Rattle.std.specs.Prelude.{Some, drop}
use Rattle.std.specs.List.{AllByRecursion, slice_get, slice_set}
use Rattle.history_model.specs.History.{IsIn}
use Rattle.history_model.proofs.Lists.{all_weaken, all_append, in_back}
use Rattle.base_model.specs.Identities.{RequestId}
use Rattle.reply_model.specs.Exchanges.{Asked}
use Rattle.node_model.specs.Letters.{Input, Taken, Effect, nothing}
use Rattle.node_model.specs.States.{Router, NodeState, catalogue_state, shard_state, router_state}
use Rattle.node_model.specs.RouterRows.{begins}
use Rattle.node_model.specs.Steps.{Step, catalogue_step, shard_step, router_step, begin_step, other_step}
use Rattle.node_model.specs.World.{Held, World, asked_by, Moves, steps_after, Misses, Meets, Event, Happens, comes, delivers, passes, begins as was_opened, Run, stands, goes}
use Rattle.node_laws.proofs.Lists.{all_mapped}
use Rattle.node_laws.proofs.StepsKeep.{StaysTrue, get_set}
use Rattle.restart_laws.proofs.Kept.{event_keeps as facts_keep}
use Rattle.node_progress.specs.Completion.{IsOfRouter, asked_since}
use Rattle.node_progress.proofs.Arrivals.{me_of, own_place}
use Rattle.node_progress.proofs.Places.{get_other, same_place}
use Rattle.node_progress.proofs.Takings.{catalogue_takes_none, shard_takes_none, stays_in_life}

-- A STEP

-- the request is of this router, in its life
pub record IsOfLife (at : ℕ) (t : NodeState) (x : Taken) : Type 0 where
  pub router : Router
  pub is : t ≡ router_state router
  pub place : x.id.router ≡ at
  pub life : x.id.life ≡ router.life

-- a router stays one, in its life, and what a node takes is of that
pub record KeepsLife (at : ℕ) (s : NodeState) (f : Effect) (t : NodeState) : Type 0 where
  pub same : (r : Router) → s ≡ router_state r → (u : Router) × (t ≡ router_state u) × (u.life ≡ r.life)
  pub taken : AllByRecursion (IsOfLife at t) f.taken

router_keeps_life : (at : ℕ) (r u : Router) (taken : List Taken) → r.me ≡ at → u.life ≡ r.life
    → AllByRecursion (λ (x : Taken). (x.id.router ≡ r.me) × (x.id.life ≡ r.life)) taken → AllByRecursion (IsOfLife at (router_state u)) taken
router_keeps_life at r u taken me life all =
    all_weaken (λ (x : Taken). (x.id.router ≡ r.me) × (x.id.life ≡ r.life)) (IsOfLife at (router_state u)) taken
    (λ x h. record { router = u; is = refl; place = h.0 ∙ me; life = h.1 ∙ sym life }) all

pub step_keeps_life : (s : NodeState) (i : Input) (f : Effect) (t : NodeState) (at : ℕ) → me_of s at → Step s i f t → KeepsLife at s f t
step_keeps_life _ _ _ _ at me (catalogue_step c d i f own row) = record {
  same = λ r is. absurd (cc is);
  taken = subst (λ l. AllByRecursion (IsOfLife at (catalogue_state d)) l) (sym (catalogue_takes_none c d i f row)) tt;
}
step_keeps_life _ _ _ _ at me (shard_step s t i f own row) = record {
  same = λ r is. absurd (cc is);
  taken = subst (λ l. AllByRecursion (IsOfLife at (shard_state t)) l) (sym (shard_takes_none s t i f row)) tt;
}
step_keeps_life _ _ _ _ at me (router_step r u i f own row) =
    let lives = stays_in_life r u i f row in
    record {
      same = λ o is. let one : r ≡ o = cc is in (u, refl, lives.life ∙ ap (λ (x : Router). x.life) one);
      taken = router_keeps_life at r u f.taken me lives.life lives.taken;
    }
step_keeps_life _ _ _ _ at me (begin_step r u i f early before row) =
    let lives = stays_in_life (begins r) u i f row in
    record {
      same = λ o is. let one : r ≡ o = cc is in (u, refl, lives.life ∙ ap (λ (x : Router). x.life) one);
      taken = router_keeps_life at (begins r) u f.taken me lives.life lives.taken;
    }
step_keeps_life _ _ _ _ at me (other_step s m other) = record { same = λ r is. (r, is, refl); taken = tt }

-- A MOVE

module _ (w : World) (at : ℕ) (old stepped : Held) (f : Effect) (here : slice_get w.nodes at ≡ Some old) (keeps : KeepsLife at old.state f stepped.state) where
  still_of : (id : RequestId) → IsOfRouter w.nodes id → IsOfRouter (slice_set w.nodes at stepped) id
  still_of id o = by_place (same_place id.router at)
    where
      by_place : (id.router ≡ at) ⊎ (id.router ≢ at) → IsOfRouter (slice_set w.nodes at stepped) id
      by_place (inr other) = record { router = o.router; kept = o.kept; steps = o.steps; here = get_other w.nodes at id.router stepped other ∙ o.here; life = o.life }
      by_place (inl place) =
          let both : Some (record { state = router_state o.router; kept = o.kept; steps = o.steps }) ≡ Some old = sym o.here ∙ (ap (λ k. slice_get w.nodes k) place ∙ here) in
          let held : old ≡ record { state = router_state o.router; kept = o.kept; steps = o.steps } = cc both in
          let next = keeps.same o.router (ap (λ (x : Held). x.state) held) in
          record {
            router = next.0;
            kept = stepped.kept;
            steps = stepped.steps;
            here = ap (λ k. slice_get (slice_set w.nodes at stepped) k) place
                ∙ (get_set w.nodes at old stepped here ∙ ap (λ (s : NodeState). Some (record { state = s; kept = stepped.kept; steps = stepped.steps })) next.1);
            life = o.life ∙ sym next.2;
          }

  taken_of : AllByRecursion (λ (a : Asked). IsOfRouter (slice_set w.nodes at stepped) a.id) (asked_by w.now f.taken)
  taken_of =
      all_mapped (λ (a : Asked). IsOfRouter (slice_set w.nodes at stepped) a.id) _ f.taken
      (all_weaken (IsOfLife at stepped.state) (λ (x : Taken). IsOfRouter (slice_set w.nodes at stepped) x.id) f.taken
      (λ x h. record {
        router = h.router;
        kept = stepped.kept;
        steps = stepped.steps;
        here = ap (λ k. slice_get (slice_set w.nodes at stepped) k) h.place
            ∙ (get_set w.nodes at old stepped here ∙ ap (λ (s : NodeState). Some (record { state = s; kept = stepped.kept; steps = stepped.steps })) h.is);
        life = h.life;
      }) keeps.taken)

-- A RUN

-- requests were taken after these, all of lives that go on
pub record AreOfLives (old : List Asked) (w : World) : Type 0 where
  pub since : List Asked
  pub all : w.asked ≡ old ++ since
  pub lives : AllByRecursion (λ (a : Asked). IsOfRouter w.nodes a.id) since

move_lives : (old : List Asked) (w v : World) (at : ℕ) (i : Input) → StaysTrue w → AreOfLives old w → Moves w at i v → AreOfLives old v
move_lives old w v at i good are m =
    subst (λ x. AreOfLives old x) (sym m.then)
    (record {
      since = are.since ++ asked_by w.now m.f.taken;
      all = ap (λ l. l ++ asked_by w.now m.f.taken) are.all ∙ append_assoc old are.since (asked_by w.now m.f.taken);
      lives = all_append (λ (a : Asked). IsOfRouter (slice_set w.nodes at stepped) a.id) are.since (asked_by w.now m.f.taken)
          (all_weaken (λ (a : Asked). IsOfRouter w.nodes a.id) (λ (a : Asked). IsOfRouter (slice_set w.nodes at stepped) a.id) are.since
          (λ a o. still_of w at m.old stepped m.f m.here keeps a.id o) are.lives)
          (taken_of w at m.old stepped m.f m.here keeps);
    })
  where
    stepped : Held
    stepped = record { state = m.new; kept = m.old.kept ++ m.f.written; steps = m.old.steps + 1 }

    keeps : KeepsLife at m.old.state m.f m.new
    keeps = step_keeps_life m.old.state i m.f m.new at (own_place w good at m.old m.here) m.step

-- a node that takes no step stays as it is, and takes no request
miss_lives : (old : List Asked) (w v : World) (at : ℕ) (i : Input) → AreOfLives old w → Misses w at i v → AreOfLives old v
miss_lives old w v at i are m =
    subst (λ x. AreOfLives old x) (sym m.then)
    (record {
      since = are.since;
      all = are.all;
      lives = all_weaken (λ (a : Asked). IsOfRouter w.nodes a.id) (λ (a : Asked). IsOfRouter (slice_set w.nodes at stepped) a.id) are.since
          (λ a o. still_of w at m.old stepped nothing m.here keeps a.id o) are.lives;
    })
  where
    stepped : Held
    stepped = record { state = m.old.state; kept = m.old.kept; steps = steps_after m.lack m.old.steps }

    keeps : KeepsLife at m.old.state nothing m.old.state
    keeps = record { same = λ r is. (r, is, refl); taken = tt }

meet_lives : (old : List Asked) (w v : World) (at : ℕ) (i : Input) → StaysTrue w → AreOfLives old w → Meets w at i v → AreOfLives old v
meet_lives old w v at i good are (inl m) = move_lives old w v at i good are m
meet_lives old w v at i good are (inr m) = miss_lives old w v at i are m

event_lives : (old : List Asked) (w v : World) (e : Event) → StaysTrue w → AreOfLives old w → Happens w e v → AreOfLives old v
event_lives old _ _ _ good are (comes w v at link number request router m) = meet_lives old w v at _ good are m
event_lives old _ _ _ good are (delivers w v at which letter got to m) = meet_lives old w v at _ good are m
event_lives old _ _ _ good are (passes w v at moment m) = meet_lives old w v at _ good are m
event_lives old _ _ _ good are (was_opened w v at m) = meet_lives old w v at _ good are m

pub run_lives : (old : List Asked) (u : World) (es : List Event) (w : World) → StaysTrue u → AreOfLives old u → Run u es w → AreOfLives old w
run_lives old _ _ _ good are (stands w) = are
run_lives old _ _ _ good are (goes u v w e es h run) = run_lives old v es w (facts_keep u v e good h) (event_lives old u v e good are h) run

pub dropped : {X : Type 0} (xs ys : List X) → drop (length xs) (xs ++ ys) ≡ ys
dropped [] ys = refl
dropped (x ∷ xs) ys = dropped xs ys

in_dropped : {X : Type 0} (x : X) (old since all : List X) → all ≡ old ++ since → IsIn x (drop (length old) all) → IsIn x all
in_dropped x old since all is there =
    let same : drop (length old) all ≡ since = ap (λ l. drop (length old) l) is ∙ dropped old since in
    subst (λ l. IsIn x l) (sym is) (in_back x old since (subst (λ l. IsIn x l) same there))

-- of a run from the first world: what was taken since is among all that was taken, and of lives that go on
pub record TakenSince (first w : World) : Type 0 where
  pub among : (a : Asked) → IsIn a (asked_since first w) → IsIn a w.asked
  pub lives : AllByRecursion (λ (a : Asked). IsOfRouter w.nodes a.id) (asked_since first w)

pub taken_since : (first : World) → StaysTrue first → (events : List Event) (w : World) → Run first events w → TakenSince first w
taken_since first good events w run =
    let none : AreOfLives first.asked first = record { since = []; all = sym (append-nil first.asked); lives = tt } in
    let are : AreOfLives first.asked w = run_lives first.asked first events w good none run in
    let same : asked_since first w ≡ are.since = ap (λ l. drop (length first.asked) l) are.all ∙ dropped first.asked are.since in
    record {
      among = λ a there. in_dropped a first.asked are.since w.asked are.all there;
      lives = subst (λ l. AllByRecursion (λ (a : Asked). IsOfRouter w.nodes a.id) l) (sym same) are.lives;
    }
