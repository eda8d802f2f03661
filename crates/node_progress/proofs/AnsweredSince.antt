-- Also where nodes stopped: every request that was taken since some world of a run is answered, where every message that was sent since it was delivered, and
-- no node stopped after it.
use Rattle.std.proofs.Common.{◌≡◌, ◌≢◌, ◌⊎◌, inl, inr, ℕ, ◌+◌, ◌<◌, ◌≤◌, List, [], ◌∷◌, ◌++◌, length, refl, sym, ap, subst, ◌∙◌, arith, append-nil, append_assoc}
use Rattle.std.specs.Prelude.{Option, Some, None, drop, false}
use Rattle.std.specs.List.{AllByRecursion, slice_get}
use Rattle.std.proofs.lemmas.Option.{slice_get_within}
use Rattle.chunk_model.specs.Tables.{first_shard}
use Rattle.history_model.specs.History.{IsIn}
use Rattle.history_model.proofs.Lists.{all_at, all_weaken, in_back, in_first, in_later, in_cons, in_none}
use Rattle.reply_model.specs.Exchanges.{Asked}
use Rattle.reply_model.specs.OneHistory.{AreDifferent, ids_asked}
use Rattle.node_model.specs.Letters.{no_time}
use Rattle.node_model.specs.States.{Router, Open, shard_state, router_state}
use Rattle.node_model.specs.RouterRequests.{id_of, shards_of, untold}
use Rattle.node_model.specs.RouterNext.{awaited}
use Rattle.node_model.specs.ShardRows.{Ask}
use Rattle.node_model.specs.World.{Held, World, Event, client_event, deliver_event, moment_event, opened_event, Happens, Run, stands, goes, start, account_of}
use Rattle.node_laws.proofs.Views.{Book}
use Rattle.node_laws.proofs.Lists.{all_within}
use Rattle.node_laws.proofs.Places.{EachAt, each_get}
use Rattle.node_laws.proofs.Facts.{IsOfRequest, HeldFits, RouterFits, IsClosedOrOpen, Good}
use Rattle.node_laws.proofs.StepsKeep.{StaysTrue, fits_here}
use Rattle.restart_laws.proofs.Kept.{event_keeps as facts_keep}
use Rattle.node_replay.specs.Restarts.{EventOrStop, restart_event, stop_event, Occurs, occurs, restarts, stops, RunWithStops, stays, proceeds}
use Rattle.restart_laws.specs.Calls.{with_mail}
use Rattle.restart_laws.proofs.ReachedCalls.{reached_calls_are_one_run, replays_without}
use Rattle.restart_laws.proofs.Runs.{StaysWhole, occurs_keeps, runs_with_stops_stay_true, start_whole}
use Rattle.node_progress.specs.Completion.{IsAnswered, IsServed, IsOfRouter, AreAnsweredSince, asked_since}
use Rattle.node_progress.specs.Firsts.{IsFirst, first_start, first_again}
use Rattle.node_progress.specs.UnderWay.{Thing, a_table, a_part, a_run, things_of, IsSent, IsDelivered, IsLeft}
use Rattle.node_progress.proofs.Things.{awaits, ask_brings, thing_asked}
use Rattle.node_progress.proofs.Lateness.{named_in, names_own}
use Rattle.node_progress.proofs.Bags.{Left, left_but, all_of, AllLost, changes_made, IsCarried, OpenGoes, ParkedGoes, NodeGoes, IsPosted, none_refuses, not_all_taken, Bag}
use Rattle.node_progress.proofs.BagFacts.{now}
use Rattle.node_progress.proofs.BagSteps.{each_both}
use Rattle.node_progress.proofs.BagRuns.{Leaves, BagIn, event_bag, first_bag, left_past, within_more, leaves_last, sent_grows}
use Rattle.node_progress.proofs.StoppedBags.{forgotten, stop_bag}
use Rattle.node_progress.proofs.Firsts.{first_rests, first_shards}
use Rattle.node_progress.proofs.Restarted.{begins_true, begins_reached, occurs_placed}
use Rattle.node_progress.proofs.NoneMissed.{first_none_missed, run_more_missed, stops_more, first_stop_none, first_misses_none, rest_misses_none}
use Rattle.node_progress.proofs.Lives.{AreOfLives, run_lives, dropped}
use Rattle.node_progress.proofs.Progress.{counted}
use Rattle.node_progress.proofs.Answered.{answered_served}

-- THE FIRST WORLD

-- all facts are true in a world that a call begins in
pub first_whole : (first : World) → IsFirst first → StaysWhole first
first_whole _ (first_start others routers) = start_whole others routers
first_whole _ (first_again others routers u first reached begins) =
    let one = reached_calls_are_one_run others routers first (begins_reached others routers u first reached begins) in
    let whole : StaysWhole (with_mail one.mail first) = runs_with_stops_stay_true (start others routers) (with_mail one.mail first) one.events
    (start_whole others routers) one.run in
    record {
      facts = begins_true others routers u first reached begins;
      replays = replays_without one.mail first whole.replays;
      tables = whole.tables;
      in_time = whole.in_time;
    }

-- A RUN IN WHICH NODES STOP

leaves_all : (left : ℕ → Type 0) (e : Event) → Leaves left (λ n. Unit {0}) e
leaves_all left (client_event at link number request) = λ n l. tt
leaves_all left (deliver_event at which) = λ n l. inl tt
leaves_all left (moment_event at moment) = λ n l. tt
leaves_all left (opened_event at) = λ n l. tt

-- some bag
pub record SomeBag (w : World) : Type 1 where
  pub left : Left
  pub some : AllLost left → ⊥
  pub bag : Bag left w

occurs_bag : (u v : World) (e : EventOrStop) → StaysWhole u → SomeBag u → v.missed ≡ u.missed → Occurs u e v → SomeBag v
occurs_bag _ _ _ whole b none (occurs u v e h) = record {
  left = left_but (λ n. Unit {0}) b.left.lost;
  some = b.some;
  bag = event_bag b.left (left_but (λ n. Unit {0}) b.left.lost) u v whole.facts.0.book e whole.facts.0.good b.bag (leaves_all b.left.places e) (λ id l. l)
      (λ n le. tt) (inl none) h;
}
occurs_bag _ _ _ whole b none (restarts u v at m) = record {
  left = left_but (λ n. Unit {0}) (IsOfRequest v.asked);
  some = not_all_taken (λ n. Unit {0}) v (occurs_placed u v (restart_event at) whole.facts (restarts u v at m) b.bag.asked);
  bag = stop_bag b.left (λ n. Unit {0}) u v (restart_event at) whole b.bag b.some b.bag.asked tt (restarts u v at m) (λ n le. tt);
}
occurs_bag _ _ _ whole b none (stops u v at e i gives m) = record {
  left = left_but (λ n. Unit {0}) (IsOfRequest v.asked);
  some = not_all_taken (λ n. Unit {0}) v (occurs_placed u v (stop_event at e) whole.facts (stops u v at e i gives m) b.bag.asked);
  bag = stop_bag b.left (λ n. Unit {0}) u v (stop_event at e) whole b.bag b.some b.bag.asked tt (stops u v at e i gives m) (λ n le. tt);
}

pub run_some_bag : (u w : World) (events : List EventOrStop) → StaysWhole u → SomeBag u → RunWithStops u events w → w.missed ≡ u.missed → SomeBag w
run_some_bag _ _ _ whole b (stays w) none = b
run_some_bag _ _ _ whole b (proceeds u v w e events h more) none =
    let first : v.missed ≡ u.missed = first_stop_none u v w e events h more none in
    run_some_bag v w events (occurs_keeps u v e whole h) (occurs_bag u v e whole b first h) more (none ∙ sym first)

-- FROM A WORLD ON

each_map : (P Q : ℕ → Held → Type 0) (i : ℕ) (xs : List Held) → ((j : ℕ) (h : Held) → P j h → Q j h) → EachAt P i xs → EachAt Q i xs
each_map P Q i [] f all = tt
each_map P Q i (x ∷ xs) f all = (f i x all.0, each_map P Q (i + 1) xs f all.1)

-- of all requests until then nothing is said
pub forget_bag : (before : Left) (left : ℕ → Type 0) (v : World) (book : Book) → Good v book → Bag before v → (AllLost before → ⊥) → ((n : ℕ) → length v.sent ≤ n → left n)
    → Bag (left_but left (IsOfRequest v.asked)) v
forget_bag before left v book good bag some fresh = record {
  fresh = fresh;
  well = all_weaken (IsPosted before (changes_made v) (length v.nodes)) (IsPosted (left_but left (IsOfRequest v.asked)) (changes_made v) (length v.nodes)) v.sent
      (λ m posted. inl (none_refuses before (changes_made v) (length v.nodes) m some posted)) bag.well;
  shards = bag.shards;
  nodes = each_map Before (λ j (h : Held). NodeGoes (left_but left (IsOfRequest v.asked)) v j h.state) 0 v.nodes
      (λ j h x. forgotten before left v v book good bag refl (record { news = []; is = refl }) (λ a i. i) j h.kept h.steps h.state x.0.state x.1)
      (each_both (HeldFits (now v book) v.asked v.answered v.given) (λ j (h : Held). NodeGoes before v j h.state) 0 v.nodes good.nodes bag.nodes);
  asked = bag.asked;
}
  where
    Before : ℕ → Held → Type 0
    Before j h = HeldFits (now v book) v.asked v.answered v.given j h × NodeGoes before v j h.state

pub since_bag : (first : World) (early : List EventOrStop) (v : World) → IsFirst first → RunWithStops first early v → v.missed ≡ first.missed → (left : ℕ → Type 0)
    → ((n : ℕ) → length v.sent ≤ n → left n) → BagIn (left_but left (IsOfRequest v.asked)) v
since_bag first early v is run none left fresh =
    let whole = first_whole first is in
    let b : SomeBag first = record {
      left = all_of (λ n. Unit {0});
      some = λ all. all (record { router = 0; life = 0; count = 0 });
      bag = first_bag (λ n. Unit {0}) first (first_rests first is) (first_shards first is) (λ n. tt);
    } in
    let there = run_some_bag first v early whole b run none in
    let facts = (runs_with_stops_stay_true first v early whole run).facts in
    record { true_there = facts; bag = forget_bag there.left left v facts.0.book facts.0.good there.bag there.some fresh }

-- WHERE NOTHING IS LEFT

in_ids : (a : Asked) (asked : List Asked) → IsIn a asked → IsIn a.id (ids_asked asked)
in_ids a [] i = absurd (in_none a i)
in_ids a (x ∷ asked) i = by_place (in_cons a x asked i) (λ j. in_ids a asked j)
  where
    by_place : (a ≡ x) ⊎ IsIn a asked → (IsIn a asked → IsIn a.id (ids_asked asked)) → IsIn a.id (ids_asked (x ∷ asked))
    by_place (inl same) later = subst (λ (y : Asked). IsIn y.id (ids_asked (x ∷ asked))) (sym same) (in_first x.id (ids_asked asked))
    by_place (inr there) later = in_later a.id x.id (ids_asked asked) (later there)

-- what was taken later is none of what was taken before
taken_apart : (old since : List Asked) (a b : Asked) → AreDifferent (ids_asked (old ++ since)) → IsIn a old → IsIn b since → a.id ≡ b.id → ⊥
taken_apart [] since a b different i j same = absurd (in_none a i)
taken_apart (x ∷ old) since a b different i j same = by_place (in_cons a x old i) (λ k. taken_apart old since a b different.1 k j same)
  where
    by_place : (a ≡ x) ⊎ IsIn a old → (IsIn a old → ⊥) → ⊥
    by_place (inl one) later =
        all_at (λ other. ¬ (other ≡ x.id)) b.id (ids_asked (old ++ since)) different.0 (in_ids b (old ++ since) (in_back b old since j))
        (sym same ∙ ap (λ (y : Asked). y.id) one)
    by_place (inr there) later = later there

module _ (v w : World) (left : ℕ → Type 0) (good : StaysTrue w) (bag : Bag (left_but left (IsOfRequest v.asked)) w) (are : AreOfLives v.asked w)
    (none : (n : ℕ) → n < length w.sent → left n → ⊥) where
  abbrev lost : Left
  lost = left_but left (IsOfRequest v.asked)

  none_sent : (t : Thing) → IsSent left w.sent t → ⊥
  none_sent t s = none s.place (slice_get_within w.sent s.place s.letter s.got) s.undelivered

  goes_there : (at : ℕ) (h : Held) → slice_get w.nodes at ≡ Some h → NodeGoes lost w at h.state
  goes_there at h here =
      let from_zero : 0 + at ≡ at = omega arith in
      subst (λ k. NodeGoes lost w k h.state) from_zero (each_get (λ j (x : Held). NodeGoes lost w j x.state) 0 at w.nodes h bag.nodes here)

  -- a request since then is none of those before
  is_new : (a : Asked) → IsIn a are.since → IsOfRequest v.asked a.id → ⊥
  is_new a there o =
      taken_apart v.asked are.since o.request a (subst (λ l. AreDifferent (ids_asked l)) are.all good.0.good.one) o.taken there o.own

  none_waits : (a : Asked) → IsIn a are.since → (r : Router) (q : Open) → a.id ≡ id_of r q.count → (things : List Thing)
      → ((t : Thing) → IsIn t things → IsIn t (things_of r q)) → things ≢ [] → AllByRecursion (IsCarried lost w) things → ⊥
  none_waits a there r q own [] among some all = some refl
  none_waits a there r q own (t ∷ things) among some all = by_place all.0
    where
      by_place : IsCarried lost w t → ⊥
      by_place (inl s) = none_sent t s
      by_place (inr h) =
          let g = all_at (ParkedGoes lost w h.at h.shard) h.letter h.shard.parked
          (goes_there h.at (record { state = shard_state h.shard; kept = h.kept; steps = h.steps }) h.here) h.parked in
          let thing = ask_brings t h.letter.sender h.letter.receiver h.letter.body g.ask g.asks h.brings in
          let mine : g.ask.id ≡ id_of r q.count =
          names_own (id_of r q.count) r.me (untold q.told (shards_of r)) (awaited q.targets q.parts) q.namespace q.work q.wait t g.ask.id
          (awaits r q t (among t (in_first t things))) (ap (λ x. named_in x) thing ∙ named_asked g.ask) in
          by_table g.ask (own ∙ sym mine) g.table
        where
          named_asked : (k : Ask) → named_in (thing_asked k) ≡ Some k.id
          named_asked k = by_first k.first
            where
              by_first : (o : Option ℕ) → named_in (elim o as (λ (z : Option ℕ). Thing) [ None ↦ a_part k.id first_shard k.turn | Some first ↦ a_run k.id first ]) ≡ Some k.id
              by_first None = refl
              by_first (Some first) = refl

          by_table : (k : Ask) → a.id ≡ k.id
              → IsOfRequest v.asked k.id ⊎ IsSent left w.sent (a_table first_shard k.namespace false no_time) → ⊥
          by_table k same (inl before) = is_new a there (subst (λ id. IsOfRequest v.asked id) (sym same) before)
          by_table k same (inr s) = none_sent (a_table first_shard k.namespace false no_time) s

  answered_one : (a : Asked) → IsIn a are.since → IsOfRouter w.nodes a.id → IsAnswered w.answered a
  answered_one a there o =
      let in_all : IsIn a w.asked = subst (λ l. IsIn a l) (sym are.all) (in_back a v.asked are.since there) in
      let fits : RouterFits (now w good.0.book) w.asked w.answered a.id.router o.router =
      (fits_here w good.0.book a.id.router (record { state = router_state o.router; kept = o.kept; steps = o.steps }) good.0.good o.here).state in
      by_place fits (all_at (λ (x : Asked). x.id.router ≡ a.id.router → x.id.life ≡ o.router.life → IsClosedOrOpen o.router.requests w.answered x) a w.asked
      fits.closed in_all refl o.life)
    where
      by_place : RouterFits (now w good.0.book) w.asked w.answered a.id.router o.router → IsClosedOrOpen o.router.requests w.answered a → IsAnswered w.answered a
      by_place fits (inr done) = done
      by_place fits (inl is_open) =
          let q = counted a.id.count o.router.requests is_open in
          let own : a.id ≡ id_of o.router q.0.count =
          λ i. record { router = sym fits.own i; life = o.life i; count = sym q.2 i } in
          let g = all_at (OpenGoes lost w o.router) q.0 o.router.requests (goes_there a.id.router (record { state = router_state o.router; kept = o.kept; steps = o.steps }) o.here)
          q.1 in
          absurd (by_carried q.0 own g.some g.carried)
        where
          by_carried : (q : Open) → a.id ≡ id_of o.router q.count → things_of o.router q ≢ []
              → IsOfRequest v.asked (id_of o.router q.count) ⊎ AllByRecursion (IsCarried lost w) (things_of o.router q) → ⊥
          by_carried q own some (inl before) = is_new a there (subst (λ id. IsOfRequest v.asked id) (sym own) before)
          by_carried q own some (inr all) = none_waits a there o.router q own (things_of o.router q) (λ t i. i) some all

  pub are_answered_since : AreAnsweredSince v w
  are_answered_since =
      let same : asked_since v w ≡ are.since = ap (λ l. drop (length v.asked) l) are.all ∙ dropped v.asked are.since in
      let answered : AllByRecursion (IsAnswered w.answered) are.since =
      all_within (λ (a : Asked). IsOfRouter w.nodes a.id) (IsAnswered w.answered) are.since (λ a there o. answered_one a there o) are.lives in
      record {
        answered = subst (λ l. AllByRecursion (IsAnswered w.answered) l) (sym same) answered;
        served = subst (λ l. AllByRecursion (IsServed (account_of w)) l) (sym same)
            (all_within (IsAnswered w.answered) (IsServed (account_of w)) are.since
            (λ a there done. answered_served w good a (subst (λ l. IsIn a l) (sym are.all) (in_back a v.asked are.since there)) done) answered);
      }

-- THE LAW

-- requests since a world are of lives that go on
pub lives_since : (v : World) (late : List Event) (w : World) → StaysTrue v → Run v late w → AreOfLives v.asked w
lives_since v late w good run = run_lives v.asked v late w good (record { since = []; all = sym (append-nil v.asked); lives = tt }) run

-- the messages that were sent since a world, and that none of these events delivers
abbrev LeftSince : World → List Event → ℕ → Type 0
LeftSince v before n = (length v.sent ≤ n) × IsLeft before n

record LateBag (v : World) (before : List Event) (w : World) : Type 0 where
  true_there : StaysTrue w
  bag : Bag (left_but (LeftSince v before) (IsOfRequest v.asked)) w
  within : (at n : ℕ) → IsIn (deliver_event at n) before → n < length w.sent
  more : length v.sent ≤ length w.sent

leaves_since : (base left later : ℕ → Type 0) (e : Event) → Leaves left later e → Leaves (λ n. base n × left n) (λ n. base n × later n) e
leaves_since base left later (client_event at link number request) leaves = λ n l. (l.0, leaves n l.1)
leaves_since base left later (deliver_event at which) leaves = λ n l. by_place n l.0 (leaves n l.1)
  where
    by_place : (n : ℕ) → base n → later n ⊎ (n ≡ which) → (base n × later n) ⊎ (n ≡ which)
    by_place n b (inl still) = inl (b, still)
    by_place n b (inr same) = inr same
leaves_since base left later (moment_event at moment) leaves = λ n l. (l.0, leaves n l.1)
leaves_since base left later (opened_event at) leaves = λ n l. (l.0, leaves n l.1)

late_event : (v : World) (before : List Event) (w x : World) (e : Event) → LateBag v before w → x.missed ≡ w.missed → Happens w e x → LateBag v (before ++ e ∷ []) x
late_event v before w x e b none h =
    let grows = sent_grows w x e h in
    record {
      true_there = facts_keep w x e b.true_there h;
      bag = event_bag (left_but (LeftSince v before) (IsOfRequest v.asked)) (left_but (LeftSince v (before ++ e ∷ [])) (IsOfRequest v.asked)) w x
          b.true_there.0.book e b.true_there.0.good b.bag
          (leaves_since (λ n. length v.sent ≤ n) (IsLeft before) (IsLeft (before ++ e ∷ [])) e (leaves_last before e)) (λ id l. l)
          (λ n le. let m = b.more in (omega (arith, m, le), left_past before w x e b.within h n le)) (inl none) h;
      within = within_more before w x e b.within h;
      more = let m = b.more in omega (arith, m, grows);
    }

late_run : (v : World) (before : List Event) (u : World) (es : List Event) (w : World) → LateBag v before u → Run u es w → w.missed ≡ u.missed → LateBag v (before ++ es) w
late_run v before _ _ _ b (stands w) none = subst (λ l. LateBag v l w) (sym (append-nil before)) b
late_run v before _ _ _ b (goes u x w e es h run) none =
    subst (λ l. LateBag v l w) (append_assoc before (e ∷ []) es)
    (late_run v (before ++ e ∷ []) x es w (late_event v before u x e b (first_misses_none u x w e es h run none) h) run (rest_misses_none u x w e es h run none))

pub delivered_since_are_answered : (first : World) (early : List EventOrStop) (v : World) (late : List Event) (w : World) → IsFirst first
    → RunWithStops first early v → Run v late w → w.missed ≡ first.missed → ((n : ℕ) → length v.sent ≤ n → n < length w.sent → IsDelivered late n) → AreAnsweredSince v w
delivered_since_are_answered first early v late w is run more none all =
    let until : v.missed ≡ first.missed = first_none_missed first v w (stops_more first v early run) (run_more_missed v w late more) none in
    let b = since_bag first early v is run until (LeftSince v []) (λ n le. (le, λ at i. in_none (deliver_event at n) i)) in
    let there = late_run v [] v late w
    (record { true_there = b.true_there; bag = b.bag; within = λ at n i. absurd (in_none (deliver_event at n) i); more = omega arith }) more (none ∙ sym until) in
    are_answered_since v w (LeftSince v late) there.true_there there.bag (lives_since v late w b.true_there more)
    (λ n below l. let d = all n l.0 below in l.1 d.0 d.1)
