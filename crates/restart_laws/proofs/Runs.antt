-- Every run in which nodes stop and are started again keeps all facts, and so makes one history.
use Rattle.std.proofs.Common.{◌≡◌, inl, inr, ℕ, ◌+◌, ◌<◌, List, [], ◌∷◌, ◌++◌, refl, sym, ap, subst, ◌∙◌, append-nil}
use Rattle.std.specs.Prelude.{Some}
use Rattle.std.specs.List.{AllByRecursion, slice_get, slice_set}
use Rattle.std.specs.Option.{option_map}
use Rattle.history_model.proofs.Lists.{all_weaken, in_prefix}
use Rattle.chunk_model.specs.Changes.{Change}
use Rattle.reply_model.specs.Accounts.{changes_in as changes_of}
use Rattle.reply_model.specs.Exchanges.{Asked}
use Rattle.reply_model.specs.OneHistory.{WasSent, OneHistory}
use Rattle.node_model.specs.Journal.{Kept, changes_kept, greatest_kept}
use Rattle.node_model.specs.Letters.{Input, client_input, letter_input, moment_input, opened_input, Effect, nothing}
use Rattle.node_model.specs.States.{NodeState}
use Rattle.node_model.specs.World.{Held, World, asked_by, moment_in, is_given, tick, Moves, steps_after, Misses, Meets, Event, Happens, comes, delivers, passes, begins, start, journal_at, history_of, account_of}
use Rattle.node_laws.proofs.Views.{Book, view_of}
use Rattle.node_laws.proofs.Facts.{SameKind, Good}
use Rattle.node_laws.proofs.Causes.{all_still_true}
use Rattle.node_laws.proofs.Journals.{with_more}
use Rattle.node_laws.proofs.LongerJournals.{changes_longer}
use Rattle.node_laws.proofs.CausedWrites.{IsCausedIn, still_caused}
use Rattle.node_laws.proofs.StepsKeep.{HasBook, StaysTrue, WasPosted, given_good, tick_good, input_fits, fits_here, get_set, got_is_in}
use Rattle.node_laws.proofs.Moments.{HadMoment}
use Rattle.node_laws.proofs.OneJournal.{journals_are_own}
use Rattle.node_laws.proofs.Runs.{start_true, makes_one_history}
use Rattle.restart_laws.specs.Calls.{HaveOwnEntries}
use Rattle.node_replay.specs.Acknowledged.{KeepsWrites, WasSentBy}
use Rattle.node_replay.specs.Holds.{HoldsOwn}
use Rattle.node_replay.specs.Openings.{opened, opened_on}
use Rattle.node_replay.specs.ReadTimes.{ComesInTime}
use Rattle.node_replay.specs.Replays.{replayed, records_of, latest_time}
use Rattle.node_replay.specs.Restarts.{after_start, Restarts, Stops, cut_off, Gives, gives_request, gives_message, gives_moment, gives_opening, EventOrStop, whole_event, restart_event, stop_event, Occurs, occurs, restarts, stops, RunWithStops, stays, proceeds}
use Rattle.node_replay.proofs.JournalsStay.{run_with_stops_grows}
use Rattle.node_replay.proofs.Restarts.{became, node_opens, opened_is, opened_replays, given_in_time, occurs_replays}
use Rattle.node_replay.proofs.Starts.{all_starts}
use Rattle.node_replay.proofs.Steps.{StepFollows}
use Rattle.node_replay.proofs.StopStays.{run_with_stops_stays}
use Rattle.node_replay.proofs.Runs.{NodeReplays, WorldReplays, move_shows, step_replays, all_got, all_set, start_replays}
use Rattle.restart_laws.proofs.CutSteps.{kind_self, kind_step, kind_opened, Halts, halted}
use Rattle.restart_laws.proofs.Kept.{event_keeps}
use Rattle.restart_laws.proofs.Givens.{stopped, moment_anew, taken_moments, moments_stop, based_stop}
use Rattle.restart_laws.proofs.StopSteps.{restart_good, stop_good}
use Rattle.restart_laws.proofs.TablesInTime.{StoresInTime, tables_in_time, step_in_time, start_in_time}
use Rattle.restart_laws.proofs.StoredTables.{StorePastTables, StoresOwn, none_owned, step_owns, opened_owns, past_of, tables_later, tables_after}

-- WHAT IS TRUE AT EVERY MOMENT

-- the tables that a shard's journal stores are of collections that were created
abbrev pub HasTables : World → Held → Type 0
HasTables w h = StorePastTables (changes_kept (journal_at w.nodes 0)) h.kept h.state

-- the facts; that journals replay; and what the journals of shards store of tables, with times that are not later than the shards
pub record StaysWhole (w : World) : Type 0 where
  pub facts : StaysTrue w
  pub replays : WorldReplays w
  pub tables : AllByRecursion (HasTables w) w.nodes
  pub in_time : AllByRecursion StoresInTime w.nodes

-- TABLES

-- changes stay
changes_stay : (w v : World) (e : EventOrStop) → Occurs w e v
    → (more : List Change) × (changes_kept (journal_at v.nodes 0) ≡ more ++ changes_kept (journal_at w.nodes 0))
changes_stay w v e h =
    let more = run_with_stops_grows w v (e ∷ []) (proceeds w v v e [] h (stays v)) 0 in
    (changes_kept more.0, ap (λ k. changes_kept k) more.1 ∙ changes_longer (journal_at w.nodes 0) more.0)

-- where the node at a place stores more
stored_tables : (w v : World) (e : EventOrStop) (book : Book) (at : ℕ) (old : Held) (written : List Kept) (new : NodeState) (steps : ℕ) → Occurs w e v
    → Good v book → AllByRecursion (HasTables w) w.nodes → slice_get w.nodes at ≡ Some old
    → v.nodes ≡ slice_set w.nodes at (with_more old written new steps) → SameKind old.state new → StoresOwn written new
    → AllByRecursion (HasTables v) v.nodes
stored_tables w v e book at old written new steps h good tables here nodes kind own =
    let now : Held = with_more old written new steps in
    let there : slice_get v.nodes at ≡ Some (with_more old written new steps) =
    ap (λ l. slice_get l at) nodes ∙ get_set w.nodes at old now here in
    let fits = fits_here v book at now good there in
    let news = changes_stay w v e h in
    subst (λ l. AllByRecursion (HasTables v) l) (sym nodes)
    (all_set (HasTables v) w.nodes at now
    (all_weaken (HasTables w) (HasTables v) w.nodes
    (λ o t. tables_later (changes_kept (journal_at w.nodes 0)) (changes_kept (journal_at v.nodes 0)) news.0 o.kept o.state news.1 t) tables)
    (tables_after (changes_kept (journal_at w.nodes 0)) (changes_kept (journal_at v.nodes 0)) news.0 old.kept written old.state new kind news.1
    (all_got (HasTables w) w.nodes at old tables here) own
    (past_of (view_of v.nodes book) v.asked v.answered at (old.kept ++ written) new fits.state)))

module _ (w v : World) (e : EventOrStop) (h : Occurs w e v) (whole : StaysWhole w) (facts : StaysTrue v) where
  -- a step, or a stop, of the node at a place
  node_tables : (at : ℕ) (old : Held) (written : List Kept) (new : NodeState) (steps : ℕ) → slice_get w.nodes at ≡ Some old
      → v.nodes ≡ slice_set w.nodes at (with_more old written new steps) → SameKind old.state new → StoresOwn written new
      → StoresInTime (with_more old written new steps) → StaysWhole v
  node_tables at old written new steps here nodes kind own in_time = record {
    facts = facts;
    replays = occurs_replays w v e whole.replays h;
    tables = stored_tables w v e facts.0.book at old written new steps h facts.0.good whole.tables here nodes kind own;
    in_time = subst (λ l. AllByRecursion StoresInTime l) (sym nodes)
        (all_set StoresInTime w.nodes at (with_more old written new steps) whole.in_time in_time);
  }

  step_whole : (at : ℕ) (i : Input) → Moves w at i v → StaysWhole v
  step_whole at i m =
      let now : Held = with_more m.old m.f.written m.new (m.old.steps + 1) in
      let nodes : v.nodes ≡ slice_set w.nodes at (with_more m.old m.f.written m.new (m.old.steps + 1)) = ap (λ (x : World). x.nodes) m.then in
      let own = step_owns m.old.state m.new i m.f m.step in
      let fits = fits_here v facts.0.book at now facts.0.good (ap (λ l. slice_get l at) nodes ∙ get_set w.nodes at m.old now m.here) in
      node_tables at m.old m.f.written m.new (m.old.steps + 1) m.here nodes (kind_step m.old.state m.new i m.f m.step) own
      (step_in_time m.old.kept m.old.state m.new i m.f m.step (all_got StoresInTime w.nodes at m.old whole.in_time m.here) own
      (tables_in_time (view_of v.nodes facts.0.book) v.asked v.answered at (m.old.kept ++ m.f.written) m.new fits.state))

  -- a node that takes no step is as it was
  miss_whole : (at : ℕ) (i : Input) → Misses w at i v → StaysWhole v
  miss_whole at i m =
      let steps : ℕ = steps_after m.lack m.old.steps in
      node_tables at m.old [] m.old.state steps m.here
      (ap (λ (x : World). x.nodes) m.then
      ∙ ap (λ k. slice_set w.nodes at (record { state = m.old.state; kept = k; steps = steps })) (sym (append-nil m.old.kept)))
      (kind_self m.old.state) (none_owned m.old.state)
      (subst (λ k. StoresInTime (record { state = m.old.state; kept = k; steps = steps })) (sym (append-nil m.old.kept))
      (all_got StoresInTime w.nodes at m.old whole.in_time m.here))

  meets_whole : (at : ℕ) (i : Input) → Meets w at i v → StaysWhole v
  meets_whole at i (inl m) = step_whole at i m
  meets_whole at i (inr m) = miss_whole at i m

-- A STOP

-- all facts on the world after a stop
stopped_facts : (w : World) (at : ℕ) (i : Input) (old : Held) (steps : ℕ) (f : Effect) (reached : NodeState) → StaysTrue w → slice_get w.nodes at ≡ Some old
    → AllByRecursion (λ a. HadMoment (w.given ++ moment_in at w.now i) a × (a.came < w.now + 1)) (asked_by w.now f.taken)
    → HasBook (after_start (is_given w at i) at old steps (cut_off f) (halted old f reached)) → StaysTrue (stopped w at i old steps f (halted old f reached))
stopped_facts w at i old steps f reached (known, moments, told, based, caused) here taken next =
    let new : NodeState = halted old f reached in
    let kept : List Kept = old.kept ++ f.written in
    let book : Book = next.book in
    let good : Good (stopped w at i old steps f (halted old f reached)) next.book =
    tick_good (is_given (after_start (is_given w at i) at old steps (cut_off f) new) at (moment_input 0)) book
    (given_good (after_start (is_given w at i) at old steps (cut_off f) new) book at (moment_input 0) next.good) in
    let fits = fits_here (stopped w at i old steps f new) book at (record { state = new; kept = kept; steps = steps }) good
    (get_set w.nodes at old (record { state = new; kept = kept; steps = steps }) here) in (
      record { book = next.book; good = good },
      moments_stop w at i old steps f (halted old f reached) moments
          (moment_anew (view_of (stopped w at i old steps f new).nodes book) (stopped w at i old steps f new).asked (stopped w at i old steps f new).answered
          (w.given ++ moment_in at w.now i) at w.now kept (latest_time (records_of kept)) (greatest_kept kept) reached fits.state)
          taken,
      all_still_true w.now w.changed f.written w.asked (asked_by w.now f.taken) w.answered [] known.good.came told tt,
      based_stop w at i old steps f (halted old f reached) based,
      subst (λ l. AllByRecursion (IsCausedIn (stopped w at i old steps f new)) l) (sym (append-nil w.answered))
          (still_caused w (stopped w at i old steps f new) known.book at old (record { state = new; kept = kept; steps = steps }) f.written known.good based
          caused here refl refl (λ x j. in_prefix x w.asked (asked_by w.now f.taken) j)
          (λ x j. in_prefix x (w.given ++ moment_in at w.now i) (moment_in at w.now (moment_input 0)) (in_prefix x w.given (moment_in at w.now i) j))
          (λ x j. j) good.one refl),
    )

-- what is started holds what nodes hold
holds_again : (h : Held) → NodeReplays h → HoldsOwn (record { state = became h; kept = h.kept; steps = 0 })
holds_again h replays = (opened_replays h (became h) replays (node_opens h replays.0)).0.1

-- between two steps
restart_facts : (w v : World) (at : ℕ) → StaysWhole w → Restarts w at v → StaysTrue v
restart_facts w v at whole m =
    let none : m.old.kept ++ [] ≡ m.old.kept = append-nil m.old.kept in
    let replays : NodeReplays (record { state = m.old.state; kept = m.old.kept ++ []; steps = 0 }) =
    subst (λ k. NodeReplays (record { state = m.old.state; kept = k; steps = 0 })) (sym none)
    (all_got NodeReplays w.nodes at m.old whole.replays.nodes m.here) in
    let halts : Halts (changes_kept (journal_at w.nodes 0)) m.old nothing m.old.state = record {
      early = 0;
      late = 0;
      leads = refl;
      replays = replays.0;
      holds = holds_again (record { state = m.old.state; kept = m.old.kept ++ []; steps = 0 }) replays;
      tables = all_got (HasTables w) w.nodes at m.old whole.tables m.here;
      own = none_owned m.old.state;
      same = refl;
    } in
    let same : halted m.old nothing m.old.state ≡ m.new = opened_is (record { state = m.old.state; kept = m.old.kept ++ []; steps = 0 }) m.new replays.0
    (subst (λ k. opened_on m.old.state k ≡ Some m.new) (sym none) m.opens) in
    let given : is_given w at opened_input ≡ w =
    λ j. record {
      nodes = w.nodes;
      sent = w.sent;
      asked = w.asked;
      answered = w.answered;
      given = append-nil w.given j;
      learned = append-nil w.learned j;
      missed = w.missed;
      away = w.away;
      changed = w.changed;
      now = w.now;
    } in
    let good = given_good w whole.facts.0.book at opened_input whole.facts.0.good in
    let facts : StaysTrue (stopped w at opened_input m.old m.steps nothing (halted m.old nothing m.old.state)) =
    stopped_facts w at opened_input m.old m.steps nothing m.old.state whole.facts m.here tt
    (restart_good (is_given w at opened_input) whole.facts.0.book at m.old m.steps good m.here halts) in
    subst (λ x. StaysTrue x)
    (ap (λ s. stopped w at opened_input m.old m.steps nothing s) same
    ∙ ap (λ x. tick (after_start (is_given x at (moment_input 0)) at m.old m.steps nothing m.new)) given
    ∙ sym m.then) facts

-- in a step
given_posted : (w : World) (e : Event) (at : ℕ) (i : Input) → Gives w e at i → WasPosted w i
given_posted w _ _ _ (gives_request at link number request is) = tt
given_posted w _ _ _ (gives_message at which m got to) = got_is_in w.sent which m got
given_posted w _ _ _ (gives_moment at moment) = tt
given_posted w _ _ _ (gives_opening at) = tt

-- what the node has replays, and it is started as this
module _ (w v : World) (at : ℕ) (i : Input) (all : WorldReplays w) (input : ComesInTime i) (m : Stops w at i v) where
  stop_follows : StepFollows (greatest_kept m.old.kept) m.old.state i m.f m.reached
  stop_follows = (move_shows w at m.old m.reached i m.f all input m.here m.step).follows

  stop_replays : NodeReplays (record { state = m.reached; kept = m.old.kept ++ m.f.written; steps = 0 })
  stop_replays = step_replays m.old m.reached i m.f 0 (all_got NodeReplays w.nodes at m.old all.nodes m.here) input stop_follows

  stop_opens : halted m.old m.f m.reached ≡ m.new
  stop_opens =
      let kept : List Kept = m.old.kept ++ m.f.written in
      opened_is (record { state = m.reached; kept = kept; steps = 0 }) m.new stop_replays.0
      (ap (λ e. option_map (opened (latest_time (records_of kept))) (replayed (Some e) (records_of kept))) stop_follows.own ∙ m.opens)

stop_facts : (w v : World) (at : ℕ) (i : Input) → StaysWhole w → WasPosted w i → ComesInTime i → Stops w at i v → StaysTrue v
stop_facts w v at i whole posted input m =
    let kept : List Kept = m.old.kept ++ m.f.written in
    let old : NodeReplays m.old = all_got NodeReplays w.nodes at m.old whole.replays.nodes m.here in
    let follows = stop_follows w v at i whole.replays input m in
    let replays = stop_replays w v at i whole.replays input m in
    let halts : Halts (changes_kept (journal_at w.nodes 0)) m.old m.f m.reached = record {
      early = greatest_kept m.old.kept;
      late = _;
      leads = follows.leads;
      replays = replays.0;
      holds = holds_again (record { state = m.reached; kept = kept; steps = 0 }) replays;
      tables = all_got (HasTables w) w.nodes at m.old whole.tables m.here;
      own = step_owns m.old.state m.reached i m.f m.step;
      same = follows.own;
    } in
    let book : Book = whole.facts.0.book in
    let good : Good w whole.facts.0.book = whole.facts.0.good in
    let facts : StaysTrue (stopped w at i m.old (m.old.steps + 1) m.f (halted m.old m.f m.reached)) =
    stopped_facts w at i m.old (m.old.steps + 1) m.f m.reached whole.facts m.here (taken_moments w at i m.old m.f m.reached whole.facts.1 m.here m.step)
    (stop_good (is_given w at i) book at m.old.kept m.old.steps (m.old.steps + 1) m.old.state m.reached i m.f (given_good w book at i good) m.here
    (input_fits w book at i good
    (all_weaken (λ a. HadMoment w.given a × (a.came < w.now)) (λ (a : Asked). a.came < w.now) w.asked (λ a h. h.1) whole.facts.1.asked) posted)
    m.step old.1 halts) in
    subst (λ x. StaysTrue x) (ap (λ s. stopped w at i m.old (m.old.steps + 1) m.f s) (stop_opens w v at i whole.replays input m) ∙ sym m.then) facts

-- RUNS

event_whole : (w v : World) (e : Event) → StaysWhole w → Happens w e v → StaysWhole v
event_whole _ _ _ whole (comes w v at link number request is m) =
    let h = comes w v at link number request is m in
    meets_whole w v (whole_event _) (occurs w v _ h) whole (event_keeps w v _ whole.facts h) at (client_input link number request) m
event_whole _ _ _ whole (delivers w v at which l got to m) =
    let h = delivers w v at which l got to m in
    meets_whole w v (whole_event _) (occurs w v _ h) whole (event_keeps w v _ whole.facts h) at (letter_input l) m
event_whole _ _ _ whole (passes w v at moment m) =
    let h = passes w v at moment m in
    meets_whole w v (whole_event _) (occurs w v _ h) whole (event_keeps w v _ whole.facts h) at (moment_input moment) m
event_whole _ _ _ whole (begins w v at m) =
    let h = begins w v at m in
    meets_whole w v (whole_event _) (occurs w v _ h) whole (event_keeps w v _ whole.facts h) at opened_input m

pub occurs_keeps : (w v : World) (e : EventOrStop) → StaysWhole w → Occurs w e v → StaysWhole v
occurs_keeps _ _ _ whole (occurs w v e h) = event_whole w v e whole h
occurs_keeps _ _ _ whole (restarts w v at m) =
    let node = all_got NodeReplays w.nodes at m.old whole.replays.nodes m.here in
    let same = opened_is m.old m.new node.0 m.opens in
    node_tables w v (restart_event at) (restarts w v at m) whole (restart_facts w v at whole m) at m.old [] m.new m.steps m.here
    (ap (λ (x : World). x.nodes) m.then)
    (subst (λ s. SameKind m.old.state s) same (kind_opened m.old.state m.old.state _ _ (kind_self m.old.state)))
    (none_owned m.new)
    (subst (λ s. StoresInTime (record { state = s; kept = m.old.kept ++ []; steps = m.steps })) same
    (subst (λ k. StoresInTime (record { state = became m.old; kept = k; steps = m.steps })) (sym (append-nil m.old.kept)) (start_in_time m.old)))
occurs_keeps _ _ _ whole (stops w v at e i gives m) =
    let kept : List Kept = m.old.kept ++ m.f.written in
    let input = given_in_time w e at i whole.replays gives in
    let same = stop_opens w v at i whole.replays input m in
    node_tables w v (stop_event at e) (stops w v at e i gives m) whole (stop_facts w v at i whole (given_posted w e at i gives) input m) at m.old m.f.written
    m.new (m.old.steps + 1) m.here (ap (λ (x : World). x.nodes) m.then)
    (subst (λ s. SameKind m.old.state s) same (kind_opened m.old.state m.reached _ _ (kind_step m.old.state m.reached i m.f m.step)))
    (subst (λ s. StoresOwn m.f.written s) same (opened_owns _ _ m.f.written m.reached (step_owns m.old.state m.reached i m.f m.step)))
    (subst (λ s. StoresInTime (record { state = s; kept = kept; steps = m.old.steps + 1 })) same
    (start_in_time (record { state = m.reached; kept = kept; steps = 0 })))

pub runs_with_stops_stay_true : (u w : World) (events : List EventOrStop) → StaysWhole u → RunWithStops u events w → StaysWhole w
runs_with_stops_stay_true _ _ _ whole (stays w) = whole
runs_with_stops_stay_true _ _ _ whole (proceeds u v w e events h more) = runs_with_stops_stay_true v w events (occurs_keeps u v e whole h) more

-- THE START

pub start_whole : (others routers : ℕ) → StaysWhole (start others routers)
start_whole others routers = record {
  facts = start_true others routers;
  replays = start_replays others routers;
  tables = all_starts (HasTables (start others routers)) others routers tt (λ at. tt) (λ at. tt);
  in_time = all_starts StoresInTime others routers tt (λ at. tt) (λ at. tt);
}

-- LAWS

pub runs_with_stops_make_one_history : (others routers : ℕ) (events : List EventOrStop) (w : World) → RunWithStops (start others routers) events w
    → OneHistory (account_of w)
runs_with_stops_make_one_history others routers events w run =
    makes_one_history w (runs_with_stops_stay_true (start others routers) w events (start_whole others routers) run).facts

-- the changes that were made, newest first, are those that the catalogue's journal stores
pub runs_with_stops_keep_changes : (others routers : ℕ) (events : List EventOrStop) (w : World) → RunWithStops (start others routers) events w
    → changes_of w.changed ≡ changes_kept (journal_at w.nodes 0)
runs_with_stops_keep_changes others routers events w run =
    (runs_with_stops_stay_true (start others routers) w events (start_whole others routers) run).facts.0.good.dated

-- each journal has the entries of its own shard, and they rise
pub runs_with_stops_own_journals : (others routers : ℕ) (events : List EventOrStop) (w : World) → RunWithStops (start others routers) events w
    → HaveOwnEntries w.nodes
runs_with_stops_own_journals others routers events w run at =
    let g = (runs_with_stops_stay_true (start others routers) w events (start_whole others routers) run).facts.0 in
    journals_are_own w g.book g.good at

-- no write that was acknowledged is lost
pub runs_with_stops_keep_writes : (others routers : ℕ) (events : List EventOrStop) (w : World) → RunWithStops (start others routers) events w → KeepsWrites w
runs_with_stops_keep_writes others routers events w run =
    let h : OneHistory (account_of w) = runs_with_stops_make_one_history others routers events w run in
    let s = run_with_stops_stays others routers events w run in
    record {
      legal = h.legal;
      numbers = h.numbers;
      sent = all_weaken (WasSent (account_of w)) (WasSentBy w.asked) (history_of w.nodes) (λ e x. (x.request, x.taken, x.sends)) h.sent;
      acknowledged = s.acknowledged;
      fitting = s.fitting;
      one = s.one;
      dated = s.dated;
    }
