-- What is under way in each world of a run; and where no message is left, every request is answered.
use Rattle.std.proofs.Common.{◌≡◌, ◌⊎◌, inl, inr, ℕ, ◌+◌, suc, ◌<◌, List, [], ◌∷◌, ◌++◌, length, map, refl, sym, subst, ◌∙◌, arith}
use Rattle.std.specs.Prelude.{Some, false}
use Rattle.std.specs.List.{AllByRecursion, slice_get}
use Rattle.std.proofs.lemmas.Option.{slice_get_within}
use Rattle.history_model.specs.History.{IsIn}
use Rattle.history_model.proofs.Lists.{all_at, all_weaken, in_first, in_later, in_none, in_cons}
use Rattle.reply_model.specs.Exchanges.{Asked}
use Rattle.node_model.specs.Journal.{Kept}
use Rattle.node_model.specs.Letters.{no_time, Letter}
use Rattle.node_model.specs.States.{Shard, Router, Open, NodeState, catalogue_state, shard_state, router_state}
use Rattle.node_model.specs.World.{Held, World, Event, Run}
use Rattle.node_laws.proofs.Views.{Book}
use Rattle.node_laws.proofs.Lists.{all_within}
use Rattle.node_laws.proofs.Places.{each_get}
use Rattle.node_laws.proofs.Facts.{counts_of, IsClosedOrOpen, ShardFits, RouterFits, Good}
use Rattle.node_laws.proofs.StepsKeep.{fits_here}
use Rattle.node_progress.specs.Completion.{IsQuiet, IsAnswered, IsOfRouter, asked_since}
use Rattle.node_progress.specs.Arrivals.{arrivals, arrival_of}
use Rattle.node_progress.specs.Firsts.{IsFirst}
use Rattle.node_progress.specs.UnderWay.{Thing, a_table, things_of, IsSent, IsFetched, IsComing, AreComing, IsServedNext, IsUnderWay, IsLeft}
use Rattle.node_progress.proofs.Arrivals.{run_takes}
use Rattle.node_progress.proofs.Bags.{all_of, OpenGoes, ParkedGoes, NodeGoes, IsCarried, Bag}
use Rattle.node_progress.proofs.BagFacts.{now}
use Rattle.node_progress.proofs.BagRuns.{run_bag}
use Rattle.node_progress.proofs.Firsts.{first_true, first_rests, first_shards}
use Rattle.node_progress.proofs.Lives.{TakenSince, taken_since}

-- FROM THE BAG

pub counted : (n : ℕ) (requests : List Open) → IsIn n (counts_of requests) → (q : Open) × IsIn q requests × (q.count ≡ n)
counted n [] i = absurd (in_none n i)
counted n (q ∷ requests) i = by_place (in_cons n q.count (counts_of requests) i) (λ j. counted n requests j)
  where
    by_place : (n ≡ q.count) ⊎ IsIn n (counts_of requests) → (IsIn n (counts_of requests) → (p : Open) × IsIn p requests × (p.count ≡ n))
        → (p : Open) × IsIn p (q ∷ requests) × (p.count ≡ n)
    by_place (inl same) later = (q, in_first q requests, sym same)
    by_place (inr there) later = let x = later there in (x.0, in_later x.0 q requests x.1, x.2)

-- where nothing was lost
unlost : {X : Type 0} → ⊥ ⊎ X → X
unlost (inl none) = absurd none
unlost (inr x) = x

module _ (left : ℕ → Type 0) (w : World) (book : Book) (good : Good w book) (bag : Bag (all_of left) w) where
  node_goes : (at : ℕ) (h : Held) → slice_get w.nodes at ≡ Some h → NodeGoes (all_of left) w at h.state
  node_goes at h here =
      let from_zero : 0 + at ≡ at = omega arith in
      subst (λ k. NodeGoes (all_of left) w k h.state) from_zero (each_get (λ j (x : Held). NodeGoes (all_of left) w j x.state) 0 at w.nodes h bag.nodes here)

  fetched : (at : ℕ) (s : Shard) (kept : List Kept) (steps : ℕ) (p : Letter) → slice_get w.nodes at ≡ Some (record { state = shard_state s; kept = kept; steps = steps })
      → IsIn p s.parked → IsFetched left w.sent s p
  fetched at s kept steps p here there =
      let fits : ShardFits (now w book) w.asked at kept s = (fits_here w book at (record { state = shard_state s; kept = kept; steps = steps }) good here).state in
      let g = all_at (ParkedGoes (all_of left) w at s) p s.parked (node_goes at (record { state = shard_state s; kept = kept; steps = steps }) here) there in
      record {
        ask = g.ask;
        asks = g.asks;
        table = subst (λ n. IsSent left w.sent (a_table n g.ask.namespace false no_time)) (sym (fits.own ∙ g.first)) (unlost g.table);
      }

  coming : (t : Thing) → IsCarried (all_of left) w t → IsComing left w t
  coming t (inl sent) = inl sent
  coming t (inr h) = inr (record {
    at = h.at;
    shard = h.shard;
    kept = h.kept;
    steps = h.steps;
    letter = h.letter;
    here = h.here;
    parked = h.parked;
    brings = h.brings;
    fetched = fetched h.at h.shard h.kept h.steps h.letter h.here h.parked;
  })

  open_coming : (at : ℕ) (r : Router) (kept : List Kept) (steps : ℕ) (q : Open) → slice_get w.nodes at ≡ Some (record { state = router_state r; kept = kept; steps = steps })
      → IsIn q r.requests → AreComing left w (things_of r q)
  open_coming at r kept steps q here there =
      let o = all_at (OpenGoes (all_of left) w r) q r.requests (node_goes at (record { state = router_state r; kept = kept; steps = steps }) here) there in
      record { some = o.some; each = all_weaken (IsCarried (all_of left) w) (IsComing left w) (things_of r q) coming (unlost o.carried) }

  served_next : (a : Asked) → IsIn a w.asked → IsOfRouter w.nodes a.id → IsAnswered w.answered a ⊎ IsServedNext left w a
  served_next a there o =
      let fits : RouterFits (now w book) w.asked w.answered a.id.router o.router =
      (fits_here w book a.id.router (record { state = router_state o.router; kept = o.kept; steps = o.steps }) good o.here).state in
      by_place o fits (all_at (λ (x : Asked). x.id.router ≡ a.id.router → x.id.life ≡ o.router.life → IsClosedOrOpen o.router.requests w.answered x) a w.asked
      fits.closed there refl o.life)
    where
      by_place : (o : IsOfRouter w.nodes a.id) → RouterFits (now w book) w.asked w.answered a.id.router o.router
          → IsClosedOrOpen o.router.requests w.answered a → IsAnswered w.answered a ⊎ IsServedNext left w a
      by_place o fits (inr done) = inl done
      by_place o fits (inl is_open) =
          let q = counted a.id.count o.router.requests is_open in
          inr (record {
            router = o.router;
            kept = o.kept;
            steps = o.steps;
            request = q.0;
            here = o.here;
            there = q.1;
            own = λ i. record { router = sym fits.own i; life = o.life i; count = sym q.2 i };
            coming = open_coming a.id.router o.router o.kept o.steps q.0 o.here q.1;
          })

  pub bag_under_way : (first : World) → TakenSince first w → IsUnderWay first left w
  bag_under_way first taken = record {
    taken = all_within (λ (a : Asked). IsOfRouter w.nodes a.id) (λ (a : Asked). IsAnswered w.answered a ⊎ IsServedNext left w a) (asked_since first w)
        (λ a there o. served_next a (taken.among a there) o) taken.lives;
    waiting = open_coming;
    parked = fetched;
  }

-- FROM A FIRST WORLD

pub each_request_is_taken : (first : World) (events : List Event) (w : World) → IsFirst first → Run first events w → w.missed ≡ first.missed
    → map arrival_of w.asked ≡ map arrival_of first.asked ++ arrivals events
each_request_is_taken first events w is run none = run_takes first events w (first_true first is) run none

pub requests_are_of_lives : (first : World) (events : List Event) (w : World) → IsFirst first → Run first events w
    → AllByRecursion (λ (a : Asked). IsOfRouter w.nodes a.id) (asked_since first w)
requests_are_of_lives first events w is run = (taken_since first (first_true first is) events w run).lives

pub run_under_way : (first : World) (events : List Event) (w : World) → IsFirst first → Run first events w → w.missed ≡ first.missed → IsUnderWay first (IsLeft events) w
run_under_way first events w is run none =
    let b = run_bag first (first_true first is) (first_rests first is) (first_shards first is) events w run none in
    bag_under_way (IsLeft events) w b.true_there.0.book b.true_there.0.good b.bag first (taken_since first (first_true first is) events w run)

-- WHERE NOTHING IS LEFT

each_place : (P : Held → Type 0) (nodes : List Held) → ((k : ℕ) (h : Held) → slice_get nodes k ≡ Some h → P h) → AllByRecursion P nodes
each_place P [] each = tt
each_place P (h ∷ nodes) each = (each 0 h refl, each_place P nodes (λ k x got. each (suc k) x got))

none_in : {X : Type 0} (xs : List X) → ((x : X) → IsIn x xs → ⊥) → xs ≡ []
none_in [] none = refl
none_in (x ∷ xs) none = absurd (none x (in_first x xs))

module _ (first : World) (left : ℕ → Type 0) (w : World) (none : (n : ℕ) → n < length w.sent → left n → ⊥) where
  none_sent : (t : Thing) → IsSent left w.sent t → ⊥
  none_sent t s = none s.place (slice_get_within w.sent s.place s.letter s.got) s.undelivered

  none_comes : (t : Thing) → IsComing left w t → ⊥
  none_comes t (inl s) = none_sent t s
  none_comes t (inr p) = none_sent (a_table p.shard.me p.fetched.ask.namespace false no_time) p.fetched.table

  none_waits : (things : List Thing) → AreComing left w things → ⊥
  none_waits [] all = all.some refl
  none_waits (t ∷ things) all = none_comes t all.each.0

  -- all that was taken is answered
  pub all_answered : IsUnderWay first left w → AllByRecursion (IsAnswered w.answered) (asked_since first w)
  all_answered u =
      all_weaken (λ (a : Asked). IsAnswered w.answered a ⊎ IsServedNext left w a) (IsAnswered w.answered) (asked_since first w) (λ a h. by_place a h) u.taken
    where
      by_place : (a : Asked) → IsAnswered w.answered a ⊎ IsServedNext left w a → IsAnswered w.answered a
      by_place a (inl done) = done
      by_place a (inr s) = absurd (none_waits (things_of s.router s.request) s.coming)

  -- no request is open, and none is parked
  pub all_quiet : IsUnderWay first left w → AllByRecursion (λ (h : Held). IsQuiet h.state) w.nodes
  all_quiet u = each_place (λ (h : Held). IsQuiet h.state) w.nodes (λ k h here. by_state k h.kept h.steps h.state here)
    where
      by_state : (k : ℕ) (kept : List Kept) (steps : ℕ) (s : NodeState) → slice_get w.nodes k ≡ Some (record { state = s; kept = kept; steps = steps }) → IsQuiet s
      by_state k kept steps (catalogue_state c) here = tt
      by_state k kept steps (shard_state s) here =
          none_in s.parked (λ p there. let f = u.parked k s kept steps p here there in none_sent (a_table s.me f.ask.namespace false no_time) f.table)
      by_state k kept steps (router_state r) here = none_in r.requests (λ q there. none_waits (things_of r q) (u.waiting k r kept steps q here there))
