-- While the catalogue runs, each message says the table of its time: by induction over the events of a run.
use Rattle.std.proofs.Common.{◌≡◌, ◌≢◌, inl, inr, ℕ, ◌+◌, zero, suc, List, [], ◌∷◌, ◌++◌, refl, sym, ap, subst, ◌∙◌, arith, append_assoc, append-nil}
use Rattle.std.specs.Prelude.{Some, drop, length}
use Rattle.std.specs.List.{AllByRecursion, slice_get, slice_set}
use Rattle.node_model.specs.Journal.{Kept, changes_kept}
use Rattle.node_model.specs.Letters.{Letter, Input, Effect}
use Rattle.node_model.specs.States.{Shard, NodeState, catalogue_state, shard_state, router_state}
use Rattle.node_model.specs.Steps.{Step, catalogue_step, shard_step, router_step, begin_step, other_step}
use Rattle.node_model.specs.Lacks.{misses}
use Rattle.node_model.specs.World.{Held, World, Moves, steps_after, Misses, Meets, Event, Happens, comes, delivers, passes, begins, Run, start, journal_at}
use Rattle.node_model.proofs.Journals.{journal_got}
use Rattle.node_laws.proofs.Views.{Book}
use Rattle.node_laws.proofs.Facts.{IsCatalogue, InOrder, Good}
use Rattle.node_laws.proofs.Journals.{journal_else}
use Rattle.node_laws.proofs.StepsKeep.{fits_here, get_set}
use Rattle.node_replay.specs.Restarts.{EventOrStop, whole_event, restart_event, stop_event, Occurs, occurs, restarts, stops, RunWithStops, stays, proceeds}
use Rattle.restart_laws.specs.Calls.{wholes, with_mail, Reached}
use Rattle.restart_laws.specs.Tables.{changes_stored, SaysTableOfItsTime, DoesNotStart, CatalogueRuns, sent_since}
use Rattle.restart_laws.proofs.CatalogueTells.{AreUpTo, TellsBy, all_none, GoesOn, still_tells, tells_says, catalogue_goes_on}
use Rattle.restart_laws.proofs.Mail.{all_later, mail_runs, calls_are_one_run}
use Rattle.restart_laws.proofs.ReachedCalls.{run_whole}
use Rattle.restart_laws.proofs.Runs.{StaysWhole, start_whole, occurs_keeps, runs_with_stops_stay_true}
use Rattle.restart_laws.proofs.SentTables.{SaysNoTable, shard_sends, router_sends, missed_sends}

-- THE TIME OF THE CATALOGUE

abbrev pub own_time : NodeState → ℕ
own_time (catalogue_state c) = c.time
own_time (shard_state s) = 0
own_time (router_state r) = 0

-- which is the first node
abbrev pub catalogue_time : List Held → ℕ
catalogue_time [] = 0
catalogue_time (h ∷ nodes) = own_time h.state

time_got : (nodes : List Held) (at : ℕ) (h : Held) → at ≡ 0 → slice_get nodes at ≡ Some h → catalogue_time nodes ≡ own_time h.state
time_got [] at h place got = absurd (cc)
time_got (x ∷ nodes) zero h place got = let same : x ≡ h = cc in ap (λ (y : Held). own_time y.state) same
time_got (x ∷ nodes) (suc at) h place got = absurd (omega (arith, place))

time_else : (nodes : List Held) (at : ℕ) (new : Held) → at ≢ 0 → catalogue_time (slice_set nodes at new) ≡ catalogue_time nodes
time_else [] at new other = refl
time_else (x ∷ nodes) zero new other = absurd (other refl)
time_else (x ∷ nodes) (suc at) new other = refl

-- no shard is first
in_order : (nodes : List Held) (s : Shard) (kept : List Kept) (steps : ℕ) → InOrder nodes
    → slice_get nodes 0 ≡ Some (record { state = shard_state s; kept = kept; steps = steps }) → ⊥
in_order nodes s kept steps (c, first, others, same, catalogue, shard) here =
    let is : Some c ≡ Some (record { state = shard_state s; kept = kept; steps = steps }) = ap (λ l. slice_get l 0) (sym same) ∙ here in
    let one : c ≡ record { state = shard_state s; kept = kept; steps = steps } = cc in
    subst (λ (h : Held). IsCatalogue h.state) one catalogue

-- where a node counts a step and stays as it is else
counts_alone : (nodes : List Held) (at : ℕ) (old : Held) (steps : ℕ) → slice_get nodes at ≡ Some old
    → (journal_at (slice_set nodes at (record { state = old.state; kept = old.kept; steps = steps })) 0 ≡ journal_at nodes 0)
    × (catalogue_time (slice_set nodes at (record { state = old.state; kept = old.kept; steps = steps })) ≡ catalogue_time nodes)
counts_alone [] at old steps here = (refl, refl)
counts_alone (x ∷ nodes) zero old steps here =
    let same : x ≡ old = cc in (ap (λ (y : Held). y.kept) (sym same), ap (λ (y : Held). own_time y.state) (sym same))
counts_alone (x ∷ nodes) (suc at) old steps here = (refl, refl)

-- AN EVENT

-- what the catalogue has and what is sent, from a world to the next one
abbrev pub WorldGoesOn : World → World → List Letter → Type 0
WorldGoesOn w v mail = GoesOn (changes_stored w) (catalogue_time w.nodes) (changes_stored v) (catalogue_time v.nodes) mail

-- where nothing is new in the catalogue
same_catalogue : (w v : World) (mail : List Letter) → changes_stored v ≡ changes_stored w → catalogue_time v.nodes ≡ catalogue_time w.nodes
    → AllByRecursion SaysNoTable mail → WorldGoesOn w v mail
same_catalogue w v mail changes time none =
    record { more = []; same = changes; above = tt; on = omega (arith, time); tells = all_none (changes_stored v) (catalogue_time v.nodes) mail none }

module _ (w v : World) (at : ℕ) where
  -- at another place
  elsewhere : (new : Held) (mail : List Letter) → at ≢ 0 → v.nodes ≡ slice_set w.nodes at new → AllByRecursion SaysNoTable mail → WorldGoesOn w v mail
  elsewhere new mail other nodes none =
      same_catalogue w v mail
      (ap (λ l. changes_kept (journal_at l 0)) nodes ∙ ap (λ k. changes_kept k) (journal_else w.nodes at new 0 (λ e. other (sym e))))
      (ap (λ l. catalogue_time l) nodes ∙ time_else w.nodes at new other) none

  -- where it counts a step alone
  counts_on : (old : Held) (steps : ℕ) (mail : List Letter) → slice_get w.nodes at ≡ Some old
      → v.nodes ≡ slice_set w.nodes at (record { state = old.state; kept = old.kept; steps = steps }) → AllByRecursion SaysNoTable mail
      → WorldGoesOn w v mail
  counts_on old steps mail here nodes none =
      let same = counts_alone w.nodes at old steps here in
      same_catalogue w v mail (ap (λ l. changes_kept (journal_at l 0)) nodes ∙ ap (λ k. changes_kept k) same.0)
      (ap (λ l. catalogue_time l) nodes ∙ same.1) none

  -- a step of the node at the place
  step_goes_on : (book later_book : Book) (kept : List Kept) (taken steps : ℕ) (s t : NodeState) (i : Input) (f : Effect) → Good w book → Good v later_book
      → slice_get w.nodes at ≡ Some (record { state = s; kept = kept; steps = taken })
      → v.nodes ≡ slice_set w.nodes at (record { state = t; kept = kept ++ f.written; steps = steps }) → Step s i f t → WorldGoesOn w v f.mail
  step_goes_on book later_book kept taken steps _ _ _ _ good next here nodes (catalogue_step c d i f own row) =
      let old : Held = record { state = catalogue_state c; kept = kept; steps = taken } in
      let new : Held = record { state = catalogue_state d; kept = kept ++ f.written; steps = steps } in
      let there : slice_get v.nodes at ≡ Some (record { state = catalogue_state d; kept = kept ++ f.written; steps = steps }) =
      ap (λ l. slice_get l at) nodes ∙ get_set w.nodes at old new here in
      let before = (fits_here w book at old good here).state in
      let after = (fits_here v later_book at new next there).state in
      let early : c.changes ≡ changes_stored w =
      before.changes ∙ ap (λ k. changes_kept k) (sym (ap (λ p. journal_at w.nodes p) (sym before.place) ∙ journal_got w.nodes at old here)) in
      let late : d.changes ≡ changes_stored v =
      after.changes ∙ ap (λ k. changes_kept k) (sym (ap (λ p. journal_at v.nodes p) (sym before.place) ∙ journal_got v.nodes at new there)) in
      subst (λ n. GoesOn (changes_stored w) n (changes_stored v) (catalogue_time v.nodes) f.mail) (sym (time_got w.nodes at old before.place here))
      (subst (λ n. GoesOn (changes_stored w) c.time (changes_stored v) n f.mail) (sym (time_got v.nodes at new before.place there))
      (subst (λ l. GoesOn l c.time (changes_stored v) d.time f.mail) early
      (subst (λ l. GoesOn c.changes c.time l d.time f.mail) late
      (catalogue_goes_on c d i f (subst (λ l. AreUpTo c.time l) (sym before.changes) before.past) row))))
  step_goes_on book later_book kept taken steps _ _ _ _ good next here nodes (shard_step s t i f own row) =
      elsewhere (record { state = shard_state t; kept = kept ++ f.written; steps = steps }) f.mail
      (λ place. in_order w.nodes s kept taken good.order
      (subst (λ p. slice_get w.nodes p ≡ Some (record { state = shard_state s; kept = kept; steps = taken })) place here)) nodes
      (shard_sends s t i f row)
  step_goes_on book later_book kept taken steps _ _ _ _ good next here nodes (router_step r q i f own row) =
      let place = (fits_here w book at (record { state = router_state r; kept = kept; steps = taken }) good here).state.place in
      elsewhere (record { state = router_state q; kept = kept ++ f.written; steps = steps }) f.mail
      (λ first. omega (arith, place, first)) nodes (router_sends r q i f row)
  step_goes_on book later_book kept taken steps _ _ _ _ good next here nodes (begin_step r q i f closed before row) =
      let place = (fits_here w book at (record { state = router_state r; kept = kept; steps = taken }) good here).state.place in
      elsewhere (record { state = router_state q; kept = _; steps = steps }) f.mail
      (λ first. omega (arith, place, first)) nodes (router_sends _ q i f row)
  step_goes_on book later_book kept taken steps _ _ _ _ good next here nodes (other_step s m other) =
      counts_on (record { state = s; kept = kept; steps = taken }) steps [] here
      (nodes ∙ ap (λ k. slice_set w.nodes at (record { state = s; kept = k; steps = steps })) (append-nil kept)) tt

-- the messages of an event, in which the catalogue is not started
pub record EventGoesOn (w v : World) : Type 0 where
  pub mail : List Letter
  pub sent : v.sent ≡ w.sent ++ mail
  pub goes : WorldGoesOn w v mail

module _ (w v : World) (whole : StaysWhole w) (next : StaysWhole v) where
  moves_on : (at : ℕ) (i : Input) → Moves w at i v → EventGoesOn w v
  moves_on at i m = record {
    mail = m.f.mail;
    sent = ap (λ (x : World). x.sent) m.then;
    goes = step_goes_on w v at whole.facts.0.book next.facts.0.book m.old.kept m.old.steps (m.old.steps + 1) m.old.state m.new i m.f whole.facts.0.good
        next.facts.0.good m.here
        (ap (λ (x : World). x.nodes) m.then) m.step;
  }

  misses_on : (at : ℕ) (i : Input) → Misses w at i v → EventGoesOn w v
  misses_on at i m = record {
    mail = (misses m.old.state m.lack i).mail;
    sent = ap (λ (x : World). x.sent) m.then;
    goes = counts_on w v at m.old (steps_after m.lack m.old.steps) (misses m.old.state m.lack i).mail m.here (ap (λ (x : World). x.nodes) m.then)
        (missed_sends m.old.state m.lack i);
  }

  meets_on : (at : ℕ) (i : Input) → Meets w at i v → EventGoesOn w v
  meets_on at i (inl m) = moves_on at i m
  meets_on at i (inr m) = misses_on at i m

  -- another node is started
  starts_on : (at : ℕ) (new : Held) → at ≢ 0 → v.nodes ≡ slice_set w.nodes at new → v.sent ≡ w.sent ++ [] → EventGoesOn w v
  starts_on at new other nodes sent = record { mail = []; sent = sent; goes = elsewhere w v at new [] other nodes tt }

event_goes_on : (w v : World) (e : Event) → StaysWhole w → StaysWhole v → Happens w e v → EventGoesOn w v
event_goes_on _ _ _ whole next (comes w v at link number request is m) = meets_on w v whole next at _ m
event_goes_on _ _ _ whole next (delivers w v at which l got to m) = meets_on w v whole next at _ m
event_goes_on _ _ _ whole next (passes w v at moment m) = meets_on w v whole next at _ m
event_goes_on _ _ _ whole next (begins w v at m) = meets_on w v whole next at _ m

occurs_goes_on : (w v : World) (e : EventOrStop) → StaysWhole w → StaysWhole v → DoesNotStart 0 e → Occurs w e v → EventGoesOn w v
occurs_goes_on _ _ _ whole next none (occurs w v e h) = event_goes_on w v e whole next h
occurs_goes_on _ _ _ whole next none (restarts w v at m) =
    starts_on w v whole next at _ none (ap (λ (x : World). x.nodes) m.then) (ap (λ (x : World). x.sent) m.then)
occurs_goes_on _ _ _ whole next none (stops w v at e i gives m) =
    starts_on w v whole next at _ none (ap (λ (x : World). x.nodes) m.then) (ap (λ (x : World). x.sent) m.then)

-- A RUN

-- the messages of a run
pub record RunTells (u w : World) (said : List Letter) : Type 0 where
  pub mail : List Letter
  pub sent : w.sent ≡ u.sent ++ mail
  pub tells : AllByRecursion (TellsBy (changes_stored w) (catalogue_time w.nodes)) (said ++ mail)

run_tells : (u w : World) (events : List EventOrStop) (said : List Letter) → StaysWhole u → RunWithStops u events w
    → AllByRecursion (DoesNotStart 0) events → AllByRecursion (TellsBy (changes_stored u) (catalogue_time u.nodes)) said → RunTells u w said
run_tells _ _ _ said whole (stays w) none all =
    record {
      mail = [];
      sent = sym (append-nil w.sent);
      tells = subst (λ l. AllByRecursion (TellsBy (changes_stored w) (catalogue_time w.nodes)) l) (sym (append-nil said)) all;
    }
run_tells _ _ _ said whole (proceeds u v w e events h more) none all =
    let next : StaysWhole v = occurs_keeps u v e whole h in
    let g = occurs_goes_on u v e whole next none.0 h in
    let rest = run_tells v w events (said ++ g.mail) next more none.1
    (still_tells (changes_stored u) (catalogue_time u.nodes) (changes_stored v) (catalogue_time v.nodes) said g.mail g.goes all) in
    record {
      mail = g.mail ++ rest.mail;
      sent = rest.sent ∙ ap (λ l. l ++ rest.mail) g.sent ∙ append_assoc u.sent g.mail rest.mail;
      tells = subst (λ l. AllByRecursion (TellsBy (changes_stored w) (catalogue_time w.nodes)) l) (append_assoc said g.mail rest.mail) rest.tells;
    }

-- CALLS

no_start_later : (n : ℕ) (events : List EventOrStop) → AllByRecursion (DoesNotStart 0) events → AllByRecursion (DoesNotStart 0) (all_later n events)
no_start_later n [] none = tt
no_start_later n (whole_event e ∷ events) none = (tt, no_start_later n events none.1)
no_start_later n (restart_event at ∷ events) none = (none.0, no_start_later n events none.1)
no_start_later n (stop_event at e ∷ events) none = (none.0, no_start_later n events none.1)

rest_of : (sent more : List Letter) → drop (length sent) (sent ++ more) ≡ more
rest_of [] more = refl
rest_of (m ∷ sent) more = rest_of sent more

-- also where messages of earlier calls were sent before
rest_after : (mail early late more : List Letter) → mail ++ late ≡ (mail ++ early) ++ more → drop (length early) late ≡ more
rest_after [] early late more same = ap (λ l. drop (length early) l) same ∙ rest_of early more
rest_after (m ∷ mail) early late more same = rest_after mail early late more (ap (λ l. drop 1 l) same)

pub tables_of_their_times : (u w : World) → CatalogueRuns u w → AllByRecursion (SaysTableOfItsTime (changes_stored w)) (sent_since u w)
tables_of_their_times u w c =
    let o = calls_are_one_run (start c.others c.routers) u c.reached in
    let whole : StaysWhole (with_mail o.mail u) =
    runs_with_stops_stay_true (start c.others c.routers) (with_mail o.mail u) o.events (start_whole c.others c.routers) o.run in
    let t = run_tells (with_mail o.mail u) (with_mail o.mail w) (all_later (length o.mail) c.events) [] whole (mail_runs o.mail u w c.events c.run)
    (no_start_later (length o.mail) c.events c.no_start) tt in
    subst (λ l. AllByRecursion (SaysTableOfItsTime (changes_stored w)) l) (sym (rest_after o.mail u.sent w.sent t.mail t.sent))
    (tells_says (changes_stored w) (catalogue_time w.nodes) t.mail t.tells)

-- so it is where no node stops
no_start_in : (events : List Event) → AllByRecursion (DoesNotStart 0) (wholes events)
no_start_in [] = tt
no_start_in (e ∷ events) = (tt, no_start_in events)

pub catalogue_runs : (others routers : ℕ) (u w : World) (events : List Event) → Reached others routers u → Run u events w → CatalogueRuns u w
catalogue_runs others routers u w events reached run =
    record { others = others; routers = routers; reached = reached; events = wholes events; run = run_whole u w events run; no_start = no_start_in events }
