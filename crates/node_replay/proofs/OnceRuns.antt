-- No request is answered twice: over runs with stops.
use Rattle.std.proofs.Common.{◌≡◌, ◌≢◌, inl, inr, ℕ, ◌+◌, List, [], ◌∷◌, ◌++◌, refl, sym, ap, subst, ◌∙◌, arith, append-nil}
use Rattle.std.specs.Prelude.{Option, Some, None}
use Rattle.std.specs.List.{AllByRecursion, slice_get, slice_set}
use Rattle.std.specs.Option.{option_map}
use Rattle.base_model.specs.Identities.{RequestId}
use Rattle.history_model.proofs.Lists.{all_weaken, all_append, in_prefix}
use Rattle.history_model.specs.History.{Entry, IsIn}
use Rattle.reply_model.specs.Exchanges.{Asked, Answered}
use Rattle.reply_model.specs.OneHistory.{ids_asked, ids_told, AreDifferent}
use Rattle.node_model.specs.CatalogueRows.{CatalogueRow, catalogue_create, catalogue_tell, catalogue_split, catalogue_bound, catalogue_none, catalogue_skip, catalogue_moment, catalogue_opened, catalogue_client}
use Rattle.node_model.specs.Journal.{Kept}
use Rattle.node_model.specs.Letters.{Input, client_input, letter_input, moment_input, opened_input, Effect, nothing}
use Rattle.node_model.specs.RouterRows.{begins}
use Rattle.node_model.specs.ShardRows.{ShardRow, shard_write, shard_repeat, shard_empty, shard_park, shard_waits, shard_stale, shard_read, shard_read_above, shard_rows, shard_excess, shard_overflow, shard_time, shard_learn, shard_known, shard_no_table, shard_skip, shard_moment, shard_opened, shard_client}
use Rattle.node_model.specs.States.{Catalogue, Shard, Open, Router, NodeState, catalogue_state, shard_state, router_state}
use Rattle.node_model.specs.Steps.{Step, catalogue_step, shard_step, router_step, begin_step, other_step}
use Rattle.node_model.specs.World.{Held, World, Moves, Misses, Meets, steps_after, Event, Happens, comes, delivers, passes, begins as was_opened, start, history_of, asked_by, answered_by}
use Rattle.node_laws.proofs.Lists.{map_longer}
use Rattle.node_laws.proofs.Places.{EachAt, each_get, each_set}
use Rattle.node_replay.specs.Durable.{DurableState, durable_catalogue, durable_shard, durable_router}
use Rattle.node_replay.specs.Openings.{opened}
use Rattle.node_replay.specs.Restarts.{EventOrStop, Occurs, occurs, restarts, stops, RunWithStops, stays, proceeds}
use Rattle.node_replay.proofs.OnceStays.{IsSilent, RouterOnce, StepOnce, router_once}
use Rattle.node_replay.proofs.Restarts.{occurs_replays}
use Rattle.node_replay.proofs.RouterNext.{begins_stays}
use Rattle.node_replay.proofs.Runs.{WorldReplays, start_replays}
use Rattle.node_replay.proofs.Starts.{starts_each}
use Rattle.node_replay.proofs.StayFacts.{id_in, StateStays, HeldStays}
use Rattle.node_replay.proofs.StopStays.{here_stays, occurs_stays, start_stays}
use Rattle.node_replay.proofs.WorldStays.{WorldStays}

-- STEPS

shard_quiet : (s t : Shard) (i : Input) (f : Effect) → ShardRow s i f t → (f.taken ≡ []) × (f.replies ≡ [])
shard_quiet _ _ _ _ (shard_write s m id turn ordered namespace statements sent d dones made last asks agree serves) = (refl, refl)
shard_quiet _ _ _ _ (shard_repeat s m id turn ordered namespace statements sent d dones asks differ repeated) = (refl, refl)
shard_quiet _ _ _ _ (shard_empty s m id turn ordered namespace sent asks) = (refl, refl)
shard_quiet _ _ _ _ (shard_park s m a asks unseen old waits) = (refl, refl)
shard_quiet _ _ _ _ (shard_waits s m a asks unseen old waits) = (refl, refl)
shard_quiet _ _ _ _ (shard_stale s m a met asks unseen old) = (refl, refl)
shard_quiet _ _ _ _ (shard_read s m id turn namespace at half sent asks agree covered) = (refl, refl)
shard_quiet _ _ _ _ (shard_read_above s m id turn namespace at half sent asks agree above) = (refl, refl)
shard_quiet _ _ _ _ (shard_rows s m id turn namespace at half documents rows asks shows small) = (refl, refl)
shard_quiet _ _ _ _ (shard_excess s m id turn namespace at half documents rows length n asks shows much told) = (refl, refl)
shard_quiet _ _ _ _ (shard_overflow s m id turn namespace at half documents asks over) = (refl, refl)
shard_quiet _ _ _ _ (shard_time s m id asks) = (refl, refl)
shard_quiet _ _ _ _ (shard_learn s m namespace create at t tells news) = (refl, refl)
shard_quiet _ _ _ _ (shard_known s m namespace create at table tells none) = (refl, refl)
shard_quiet _ _ _ _ (shard_no_table s m namespace node lack none) = (refl, refl)
shard_quiet _ _ _ _ (shard_skip s m none) = (refl, refl)
shard_quiet _ _ _ _ (shard_moment s moment) = (refl, refl)
shard_quiet _ _ _ _ (shard_opened s) = (refl, refl)
shard_quiet _ _ _ _ (shard_client s link number request) = (refl, refl)

catalogue_quiet : (c d : Catalogue) (i : Input) (f : Effect) → CatalogueRow c i f d → (f.taken ≡ []) × (f.replies ≡ [])
catalogue_quiet _ _ _ _ (catalogue_create c m namespace at x asks answer) = (refl, refl)
catalogue_quiet _ _ _ _ (catalogue_tell c m namespace create at asks known) = (refl, refl)
catalogue_quiet _ _ _ _ (catalogue_split c m id namespace middle x asks answer) = (refl, refl)
catalogue_quiet _ _ _ _ (catalogue_bound c m id namespace middle asks answer) = (refl, refl)
catalogue_quiet _ _ _ _ (catalogue_none c m id namespace middle asks answer) = (refl, refl)
catalogue_quiet _ _ _ _ (catalogue_skip c m none) = (refl, refl)
catalogue_quiet _ _ _ _ (catalogue_moment c moment) = (refl, refl)
catalogue_quiet _ _ _ _ (catalogue_opened c) = (refl, refl)
catalogue_quiet _ _ _ _ (catalogue_client c link number request) = (refl, refl)

abbrev pub StateOnce : List Answered → NodeState → Type 0
StateOnce answered (catalogue_state c) = Unit {0}
StateOnce answered (shard_state s) = Unit {0}
StateOnce answered (router_state r) = RouterOnce answered r

-- what a step of a node shows
pub record NodeOnce (asked : List Asked) (answered news : List Answered) (at : ℕ) (new : NodeState) : Type 0 where
  pub node : StateOnce (answered ++ news) new
  pub here : AllByRecursion (λ (t : Answered). t.id.router ≡ at) news
  pub told : AllByRecursion (λ (t : Answered). IsIn t.id (ids_asked asked)) news
  pub once : AreDifferent (ids_told (answered ++ news))

module _ (asked : List Asked) (history : List Entry) (answered : List Answered) (now at : ℕ) (kept : List Kept) (one : AreDifferent (ids_asked asked))
    (told : AllByRecursion (λ (t : Answered). IsIn t.id (ids_asked asked)) answered) (once : AreDifferent (ids_told answered)) where
  of_router : (f : Effect) (q : Router) → StepOnce asked answered now at f q
      → NodeOnce (asked ++ asked_by now f.taken) answered (answered_by now f.replies) at (router_state q)
  of_router f q s = record { node = s.all.node; here = s.all.here; told = s.all.told; once = s.all.once }

  -- a step with no reply
  quiet : (f : Effect) (t : NodeState) → f.replies ≡ [] → StateOnce answered t
      → NodeOnce (asked ++ asked_by now f.taken) answered (answered_by now f.replies) at t
  quiet f t none node =
      subst (λ l. NodeOnce (asked ++ asked_by now f.taken) answered (answered_by now l) at t) (sym none) (record {
        node = subst (λ l. StateOnce l t) (sym (append-nil answered)) node;
        here = tt;
        told = tt;
        once = subst (λ l. AreDifferent (ids_told l)) (sym (append-nil answered)) once;
      })

  step_once : (s t : NodeState) (i : Input) (f : Effect) → StateStays asked history at kept s → StateOnce answered s → Step s i f t
      → NodeOnce (asked ++ asked_by now f.taken) answered (answered_by now f.replies) at t
  step_once _ _ _ _ mine own (catalogue_step c d i f place row) = quiet f (catalogue_state d) (catalogue_quiet c d i f row).1 tt
  step_once _ _ _ _ mine own (shard_step s t i f place row) = quiet f (shard_state t) (shard_quiet s t i f row).1 tt
  step_once _ _ _ _ mine own (router_step r q i f place row) =
      of_router f q (router_once asked history answered now at r q i f mine one own told once row)
  step_once _ _ _ _ mine own (begin_step r q i f not_begun before row) =
      let s = router_once asked history answered now at (begins r) q i f (begins_stays asked history now at r mine one not_begun) one
      (record { different = own.different; silent = own.silent }) told once row in
      record { node = s.all.node; here = s.all.here; told = s.all.told; once = s.all.once }
  step_once _ _ _ _ mine own (other_step s m apart) = quiet nothing s refl own

-- a node that was started again has no open request
opened_once : (answered : List Answered) (time : ℕ) (d : DurableState) → StateOnce answered (opened time d)
opened_once answered time (durable_catalogue d) = tt
opened_once answered time (durable_shard d) = tt
opened_once answered time (durable_router d) = record { different = tt; silent = tt }

started_once : (answered : List Answered) (time : ℕ) (o : Option DurableState) (new : NodeState) → option_map (opened time) o ≡ Some new
    → StateOnce answered new
started_once answered time None new same = absurd (cc)
started_once answered time (Some d) new same =
    let is : opened time d ≡ new = cc in
    subst (λ s. StateOnce answered s) is (opened_once answered time d)

-- OTHER NODES

each_both : {X : Type 0} (P Q : ℕ → X → Type 0) (i : ℕ) (xs : List X) → EachAt P i xs → EachAt Q i xs → EachAt (λ j x. P j x × Q j x) i xs
each_both P Q i [] ps qs = tt
each_both P Q i (x ∷ xs) ps qs = ((ps.0, qs.0), each_both P Q (i + 1) xs ps.1 qs.1)

state_grows : (asked : List Asked) (history : List Entry) (answered news : List Answered) (at j : ℕ) (kept : List Kept) (s : NodeState) → j ≢ at
    → AllByRecursion (λ (t : Answered). t.id.router ≡ at) news → StateStays asked history j kept s → StateOnce answered s → StateOnce (answered ++ news) s
state_grows asked history answered news at j kept (catalogue_state c) apart here mine own = tt
state_grows asked history answered news at j kept (shard_state s) apart here mine own = tt
state_grows asked history answered news at j kept (router_state r) apart here mine own = record {
  different = own.different;
  silent = all_weaken (λ (q : Open). IsSilent answered r.me r.life q.count) (λ (q : Open). IsSilent (answered ++ news) r.me r.life q.count) r.requests
      (λ q old. all_append (λ (t : Answered). t.id ≢ id_in r.me r.life q.count) answered news old
      (all_weaken (λ (t : Answered). t.id.router ≡ at) (λ (t : Answered). t.id ≢ id_in r.me r.life q.count) news
      (λ t h e. apart (sym mine.own ∙ sym (ap (λ (i : RequestId). i.router) e) ∙ h)) here)) own.silent;
}

-- THE WORLD

pub record ListsOnce (nodes : List Held) (asked : List Asked) (answered : List Answered) : Type 0 where
  pub each : EachAt (λ j (h : Held). StateOnce answered h.state) 0 nodes
  pub told : AllByRecursion (λ (t : Answered). IsIn t.id (ids_asked asked)) answered
  pub once : AreDifferent (ids_told answered)

abbrev pub WorldOnce : World → Type 0
WorldOnce w = ListsOnce w.nodes w.asked w.answered

ids_grow : (asked more : List Asked) (told : List Answered) → AllByRecursion (λ (t : Answered). IsIn t.id (ids_asked asked)) told
    → AllByRecursion (λ (t : Answered). IsIn t.id (ids_asked (asked ++ more))) told
ids_grow asked more told all =
    all_weaken (λ (t : Answered). IsIn t.id (ids_asked asked)) (λ (t : Answered). IsIn t.id (ids_asked (asked ++ more))) told
    (λ t i. subst (λ l. IsIn t.id l) (sym (map_longer (λ (a : Asked). a.id) asked more)) (in_prefix t.id (ids_asked asked) (ids_asked more) i)) all

module _ (w : World) (at : ℕ) (old : Held) (stay : WorldStays w) (own : WorldOnce w) (here : slice_get w.nodes at ≡ Some old) where
  abbrev Both : ℕ → Held → Type 0
  Both j h = HeldStays w.asked (history_of w.nodes) j h × StateOnce w.answered h.state

  once_here : StateOnce w.answered old.state
  once_here = each_get (λ j (h : Held). StateOnce w.answered h.state) 0 at w.nodes old own.each here

  pub once_after : (more : List Asked) (news : List Answered) (new : Held) → NodeOnce (w.asked ++ more) w.answered news at new.state
      → ListsOnce (slice_set w.nodes at new) (w.asked ++ more) (w.answered ++ news)
  once_after more news new s = record {
    each = each_set Both (λ j (h : Held). StateOnce (w.answered ++ news) h.state) 0 at w.nodes new
        (λ j (h : Held) apart b. state_grows w.asked (history_of w.nodes) w.answered news at j h.kept h.state (λ e. apart (e ∙ zero_more)) s.here b.0 b.1)
        s.node (each_both (HeldStays w.asked (history_of w.nodes)) (λ j (h : Held). StateOnce w.answered h.state) 0 w.nodes stay.each own.each);
    told = all_append (λ (t : Answered). IsIn t.id (ids_asked (w.asked ++ more))) w.answered news (ids_grow w.asked more w.answered own.told) s.told;
    once = s.once;
  }
    where
      zero_more : at ≡ 0 + at
      zero_more = omega arith

-- EVENTS

step_here : (w : World) (at : ℕ) (old : Held) (f : Effect) (new : NodeState) (i : Input) → WorldStays w → WorldOnce w → slice_get w.nodes at ≡ Some old
    → Step old.state i f new → NodeOnce (w.asked ++ asked_by w.now f.taken) w.answered (answered_by w.now f.replies) at new
step_here w at old f new i stay own here step =
    step_once w.asked (history_of w.nodes) w.answered w.now at old.kept stay.one own.told own.once old.state new i f (here_stays w at old stay here)
    (once_here w at old stay own here) step

move_once : (w v : World) (at : ℕ) (i : Input) → WorldStays w → WorldOnce w → Moves w at i v → WorldOnce v
move_once w v at i stay own m =
    subst (λ x. WorldOnce x) (sym m.then)
    (once_after w at m.old stay own m.here (asked_by w.now m.f.taken) (answered_by w.now m.f.replies)
    (record { state = m.new; kept = m.old.kept ++ m.f.written; steps = m.old.steps + 1 }) (step_here w at m.old m.f m.new i stay own m.here m.step))

-- a node that is started again, or takes no step, answers nothing
start_once : (w : World) (at : ℕ) (more : List Asked) (new : NodeState) → WorldOnce w → StateOnce w.answered new
    → NodeOnce (w.asked ++ more) w.answered [] at new
start_once w at more new own node = record {
  node = subst (λ l. StateOnce l new) (sym (append-nil w.answered)) node;
  here = tt;
  told = tt;
  once = subst (λ l. AreDifferent (ids_told l)) (sym (append-nil w.answered)) own.once;
}

miss_once : (w v : World) (at : ℕ) (i : Input) → WorldStays w → WorldOnce w → Misses w at i v → WorldOnce v
miss_once w v at i stay own m =
    let same : Held = record { state = m.old.state; kept = m.old.kept; steps = steps_after m.lack m.old.steps } in
    subst (λ x. WorldOnce x) (sym m.then)
    (subst (λ l. ListsOnce (slice_set w.nodes at same) l w.answered) (append-nil w.asked)
    (subst (λ l. ListsOnce (slice_set w.nodes at same) (w.asked ++ []) l) (append-nil w.answered)
    (once_after w at m.old stay own m.here [] [] same (start_once w at [] m.old.state own (once_here w at m.old stay own m.here)))))

meets_once : (w v : World) (at : ℕ) (i : Input) → WorldStays w → WorldOnce w → Meets w at i v → WorldOnce v
meets_once w v at i stay own (inl m) = move_once w v at i stay own m
meets_once w v at i stay own (inr m) = miss_once w v at i stay own m

event_once : (w v : World) (e : Event) → WorldStays w → WorldOnce w → Happens w e v → WorldOnce v
event_once _ _ _ stay own (comes w v at link number request is m) = meets_once w v at (client_input link number request) stay own m
event_once _ _ _ stay own (delivers w v at which l got to m) = meets_once w v at (letter_input l) stay own m
event_once _ _ _ stay own (passes w v at moment m) = meets_once w v at (moment_input moment) stay own m
event_once _ _ _ stay own (was_opened w v at m) = meets_once w v at opened_input stay own m

occurs_once : (w v : World) (e : EventOrStop) → WorldStays w → WorldOnce w → Occurs w e v → WorldOnce v
occurs_once _ _ _ stay own (occurs w v e h) = event_once w v e stay own h
occurs_once _ _ _ stay own (restarts w v at m) =
    subst (λ x. WorldOnce x) (sym m.then)
    (once_after w at m.old stay own m.here [] [] (record { state = m.new; kept = m.old.kept ++ []; steps = m.steps })
    (start_once w at [] m.new own (started_once w.answered _ _ m.new m.opens)))
occurs_once _ _ _ stay own (stops w v at e i gives m) =
    subst (λ x. WorldOnce x) (sym m.then)
    (once_after w at m.old stay own m.here (asked_by w.now m.f.taken) []
    (record { state = m.new; kept = m.old.kept ++ m.f.written; steps = m.old.steps + 1 })
    (start_once w at (asked_by w.now m.f.taken) m.new own (started_once w.answered _ _ m.new m.opens)))

-- RUNS

run_once : (u w : World) (events : List EventOrStop) → WorldStays u → WorldReplays u → WorldOnce u → RunWithStops u events w → WorldOnce w
run_once _ _ _ stay all own (stays w) = own
run_once _ _ _ stay all own (proceeds u v w e events h more) =
    run_once v w events (occurs_stays u v e stay all h) (occurs_replays u v e all h) (occurs_once u v e stay own h) more

pub run_with_stops_once : (others routers : ℕ) (events : List EventOrStop) (w : World) → RunWithStops (start others routers) events w
    → AreDifferent (ids_told w.answered)
run_with_stops_once others routers events w run =
    (run_once (start others routers) w events (start_stays others routers) (start_replays others routers)
    (record {
      each = starts_each (λ j (h : Held). StateOnce [] h.state) others routers tt (λ j. tt) (λ j later. record { different = tt; silent = tt });
      told = tt;
      once = tt;
    }) run).once
