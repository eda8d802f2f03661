-- Where a node stopped and was started again, nothing is said any more of the requests that were taken until then; and of those after them all is known that
-- is known where no node stops.
use Rattle.std.proofs.Common.{◌≡◌, inl, ℕ, ◌+◌, ◌≤◌, List, [], ◌++◌, length, sym, ap, subst, ◌∙◌, append-nil}
use Rattle.std.specs.Prelude.{Some}
use Rattle.std.specs.List.{AllByRecursion, slice_get, slice_set}
use Rattle.base_model.specs.Identities.{RequestId}
use Rattle.history_model.specs.History.{IsIn}
use Rattle.history_model.proofs.Lists.{all_at, all_weaken, in_prefix}
use Rattle.chunk_model.specs.Changes.{Change}
use Rattle.reply_model.specs.Exchanges.{Asked}
use Rattle.node_model.specs.Journal.{Kept, changes_kept}
use Rattle.node_model.specs.Letters.{Letter}
use Rattle.node_model.specs.States.{NodeState, catalogue_state, shard_state, router_state}
use Rattle.node_model.specs.RouterRequests.{id_of}
use Rattle.node_model.specs.World.{Held, World, journal_at, asked_by}
use Rattle.node_laws.proofs.Views.{Book}
use Rattle.node_laws.proofs.Lists.{all_within}
use Rattle.node_laws.proofs.Places.{EachAt, each_set}
use Rattle.node_laws.proofs.Facts.{IsOfRequest, HeldFits, StateFits, ParkedFits, IsOpenOf, Good}
use Rattle.node_replay.specs.Restarts.{EventOrStop, whole_event, restart_event, stop_event, Occurs, occurs, restarts, stops}
use Rattle.restart_laws.proofs.Runs.{StaysWhole}
use Rattle.node_progress.specs.Completion.{IsQuiet}
use Rattle.node_progress.proofs.Places.{length_set}
use Rattle.node_progress.proofs.Shards.{AreShards}
use Rattle.node_progress.proofs.RestartedShards.{occurs_shards}
use Rattle.node_progress.proofs.Versions.{IsWell, well_later}
use Rattle.node_progress.proofs.RunVersions.{runs_later}
use Rattle.node_progress.proofs.Bags.{Left, left_but, AllLost, IsPosted, none_refuses, changes_made, OpenGoes, ParkedGoes, NodeGoes, Bag, MoreMade, changes_more}
use Rattle.node_progress.proofs.BagFacts.{now, ask_taken}
use Rattle.node_progress.proofs.BagSteps.{each_both}
use Rattle.node_progress.proofs.BagRuns.{quiet_goes}
use Rattle.node_progress.proofs.Restarted.{ArePlaced, occurs_placed, opened_on_quiet}

-- a node stops
abbrev pub IsStop : EventOrStop → Type 0
IsStop (whole_event e) = ⊥
IsStop (restart_event at) = Unit {0}
IsStop (stop_event at e) = Unit {0}

abbrev changes_of : List Held → List Change
changes_of nodes = changes_kept (journal_at nodes 0)

-- FROM ONE WORLD TO ANOTHER

-- no message comes, no request goes, and the catalogue makes more changes
module _ (before : Left) (left : ℕ → Type 0) (u v : World) (book : Book) (good : Good u book) (bag : Bag before u) (count : length v.nodes ≡ length u.nodes)
    (more : MoreMade (changes_made u) (changes_made v)) (taken : (a : Asked) → IsIn a u.asked → IsIn a v.asked) where
  abbrev pub later : Left
  later = left_but left (IsOfRequest v.asked)

  pub still_well : (m : Letter) → IsWell (changes_made u) (length u.nodes) m → IsWell (changes_made v) (length v.nodes) m
  still_well m well =
      subst (λ n. IsWell (changes_made v) n m) (sym count) (well_later more.news (changes_made u) (changes_made v) (length u.nodes) m more.is well)

  is_lost : (id : RequestId) → IsOfRequest u.asked id → IsOfRequest v.asked id
  is_lost id o = record { request = o.request; taken = taken o.request o.taken; own = o.own }

  pub forgotten : (j : ℕ) (kept : List Kept) (steps : ℕ) (s : NodeState) → StateFits (now u book) u.asked u.answered j kept s → NodeGoes before u j s → NodeGoes later v j s
  forgotten j kept steps (catalogue_state c) fits goes = tt
  forgotten j kept steps (shard_state s) fits goes =
      all_within (ParkedGoes before u j s) (ParkedGoes later v j s) s.parked
      (λ x there g.
      let p = all_at (ParkedFits (now u book) u.asked s.time) x s.parked fits.parked there in
      record {
        first = g.first;
        ask = g.ask;
        asks = g.asks;
        none = g.none;
        well = still_well x g.well;
        table = inl (is_lost g.ask.id (ask_taken (now u book) u.asked x.sender x.receiver x.time x.body g.ask p.0 g.asks));
      }) goes
  forgotten j kept steps (router_state r) fits goes =
      all_within (OpenGoes before u r) (OpenGoes later v r) r.requests
      (λ q there o.
      let f = all_at (IsOpenOf (now u book) u.asked u.answered r) q r.requests fits.requests there in
      record {
        waiting = o.waiting;
        runs = runs_later more.news (changes_made u) (changes_made v) q.namespace q.work more.is o.runs;
        some = o.some;
        carried = inl (is_lost (id_of r q.count) (record { request = f.request; taken = f.taken; own = f.own }));
      }) goes

-- A STOP

module _ (before : Left) (left : ℕ → Type 0) (u v : World) (book : Book) (good : Good u book) (bag : Bag before u) (at : ℕ) (old : Held) (written : List Kept)
    (new : NodeState) (new_steps : ℕ) (some : AllLost before → ⊥) (here : slice_get u.nodes at ≡ Some old) (nodes : v.nodes ≡ slice_set u.nodes at (record { state = new; kept = old.kept ++ written; steps = new_steps }))
    (sent : v.sent ≡ u.sent) (taken : (a : Asked) → IsIn a u.asked → IsIn a v.asked) (shards : AreShards v.nodes) (placed : ArePlaced v) (quiet : IsQuiet new)
    (fresh : (n : ℕ) → length v.sent ≤ n → left n) where
  abbrev stopped : Held
  stopped = record { state = new; kept = old.kept ++ written; steps = new_steps }

  count : length v.nodes ≡ length u.nodes
  count = ap (λ (l : List Held). length l) nodes ∙ length_set u.nodes at stopped

  more : MoreMade (changes_made u) (changes_made v)
  more = subst (λ l. MoreMade (changes_made u) (changes_of l)) (sym nodes) (changes_more u.nodes at old.state old.kept written old.steps new_steps new here)

  abbrev Before : ℕ → Held → Type 0
  Before j h = HeldFits (now u book) u.asked u.answered u.given j h × NodeGoes before u j h.state

  abbrev then : Left
  then = left_but left (IsOfRequest v.asked)

  nodes_go : EachAt (λ j (h : Held). NodeGoes then v j h.state) 0 (slice_set u.nodes at stopped)
  nodes_go =
      each_set Before (λ j (h : Held). NodeGoes then v j h.state) 0 at u.nodes stopped
      (λ j h other x. forgotten before left u v book good bag count more taken j h.kept h.steps h.state x.0.state x.1) (quiet_goes then v (0 + at) new quiet)
      (each_both (HeldFits (now u book) u.asked u.answered u.given) (λ j (h : Held). NodeGoes before u j h.state) 0 u.nodes good.nodes bag.nodes)

  pub stopped_bag : Bag then v
  stopped_bag = record {
    fresh = fresh;
    well = subst (λ l. AllByRecursion (IsPosted then (changes_made v) (length v.nodes)) l) (sym sent)
        (all_weaken (IsPosted before (changes_made u) (length u.nodes)) (IsPosted then (changes_made v) (length v.nodes)) u.sent
        (λ m posted. inl (still_well before left u v book good bag count more taken m (none_refuses before (changes_made u) (length u.nodes) m some posted)))
        bag.well);
    shards = shards;
    nodes = subst (λ l. EachAt (λ j (h : Held). NodeGoes then v j h.state) 0 l) (sym nodes) nodes_go;
    asked = placed;
  }

-- whichever stop it is
pub stop_bag : (before : Left) (left : ℕ → Type 0) (u v : World) (e : EventOrStop) → StaysWhole u → Bag before u → (AllLost before → ⊥) → ArePlaced u → IsStop e → Occurs u e v
    → ((n : ℕ) → length v.sent ≤ n → left n) → Bag (left_but left (IsOfRequest v.asked)) v
stop_bag before left _ _ _ whole bag some placed is (occurs u v e h) fresh = absurd is
stop_bag before left _ _ _ whole bag some placed is (restarts u v at m) fresh =
    stopped_bag before left u v whole.facts.0.book whole.facts.0.good bag at m.old [] m.new m.steps some m.here (ap (λ (x : World). x.nodes) m.then)
    (ap (λ (x : World). x.sent) m.then ∙ append-nil u.sent)
    (λ a i. subst (λ l. IsIn a l) (sym (ap (λ (x : World). x.asked) m.then)) (in_prefix a u.asked [] i))
    (occurs_shards u v (restart_event at) (restarts u v at m) bag.shards)
    (occurs_placed u v (restart_event at) whole.facts (restarts u v at m) placed) (opened_on_quiet m.old.state m.old.kept m.new m.opens) fresh
stop_bag before left _ _ _ whole bag some placed is (stops u v at e i gives m) fresh =
    stopped_bag before left u v whole.facts.0.book whole.facts.0.good bag at m.old m.f.written m.new (m.old.steps + 1) some m.here (ap (λ (x : World). x.nodes) m.then)
    (ap (λ (x : World). x.sent) m.then ∙ append-nil u.sent)
    (λ a j. subst (λ l. IsIn a l) (sym (ap (λ (x : World). x.asked) m.then)) (in_prefix a u.asked (asked_by u.now m.f.taken) j))
    (occurs_shards u v (stop_event at e) (stops u v at e i gives m) bag.shards)
    (occurs_placed u v (stop_event at e) whole.facts (stops u v at e i gives m) placed)
    (opened_on_quiet m.old.state (m.old.kept ++ m.f.written) m.new m.opens) fresh
