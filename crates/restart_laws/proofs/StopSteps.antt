-- All facts stay where a node stops and is started again.
use Rattle.std.proofs.Common.{◌≡◌, ◌⊎◌, inl, inr, ℕ, List, [], ◌∷◌, ◌++◌, refl, sym, subst, append_assoc}
use Rattle.std.specs.Prelude.{Some, true, false}
use Rattle.std.specs.List.{AllByRecursion, slice_get}
use Rattle.node_model.specs.Journal.{Kept, kept_life, changes_kept}
use Rattle.node_model.specs.Letters.{Input, opened_input, Effect, nothing, writes, both}
use Rattle.node_model.specs.States.{Router, NodeState, router_state}
use Rattle.node_model.specs.RouterRows.{begins, router_begin, RouterRow}
use Rattle.node_model.specs.Steps.{Step, catalogue_step, shard_step, router_step, begin_step, other_step, BeginsBefore}
use Rattle.node_model.specs.World.{Held, World, journal_at}
use Rattle.node_model.proofs.Journals.{journal_got}
use Rattle.node_laws.proofs.Views.{Book, More, view_of}
use Rattle.node_laws.proofs.Facts.{node_of, raises_of, Good}
use Rattle.node_laws.proofs.Owes.{asked_after, answered_after, InputFits, StaysHeard, Owes}
use Rattle.node_laws.proofs.Places.{each_get}
use Rattle.node_laws.proofs.TimeFacts.{IsHeard, HeardFits}
use Rattle.node_laws.proofs.Journals.{with_more, more_self, views_later}
use Rattle.node_laws.proofs.Causes.{shard_aside, router_aside}
use Rattle.node_laws.proofs.Dates.{IsNoChange}
use Rattle.node_laws.proofs.Keeps.{turned, book_after, good_after}
use Rattle.node_laws.proofs.CatalogueRows.{catalogue_owes}
use Rattle.node_laws.proofs.ShardRows.{shard_owes}
use Rattle.node_laws.proofs.RouterRows.{router_owes}
use Rattle.node_laws.proofs.StepsKeep.{fits_here, get_set, fits_later, reach_here, hears_here, HasBook}
use Rattle.node_replay.specs.Durable.{durable_router, empty_router}
use Rattle.node_replay.specs.Holds.{HoldsOwn, Replays}
use Rattle.node_replay.specs.Restarts.{after_start, cut_off}
use Rattle.node_replay.proofs.Restarts.{became}
use Rattle.node_replay.proofs.RouterFollows.{RouterFollows, RouterHolds, begins_holds, router_follows}
use Rattle.restart_laws.proofs.Kept.{gives_owe}
use Rattle.restart_laws.proofs.BothSteps.{start_both}
use Rattle.restart_laws.proofs.CutSteps.{nothing_owes, Halts, halted, cut_heard, cut_owes}

-- a step that is cut off, by what the whole of it owes
cut_good : (w : World) (book : Book) (at : ℕ) (old : Held) (steps : ℕ) (f : Effect) (reached : NodeState) → Good w book → slice_get w.nodes at ≡ Some old
    → (at ≡ 0) ⊎ AllByRecursion IsNoChange f.written → Owes w book at (node_of old) f reached → Halts (changes_kept (journal_at w.nodes 0)) old f reached
    → HasBook (after_start w at old steps (cut_off f) (halted old f reached))
cut_good w book at old steps f reached good here changes owes halts = record {
  book = _;
  good = good_after w book at old (cut_off f) (halted old f reached) steps w.missed w.away good here (more_self w.missed) good.lacks good.away changes
      (cut_heard w book at old f reached good here owes halts) (cut_owes w book at old f reached good here owes halts);
}

-- a node that stops between two steps
pub restart_good : (w : World) (book : Book) (at : ℕ) (old : Held) (steps : ℕ) → Good w book → slice_get w.nodes at ≡ Some old
    → Halts (changes_kept (journal_at w.nodes 0)) old nothing old.state
    → HasBook (after_start w at old steps nothing (halted old nothing old.state))
restart_good w book at old steps good here halts =
    cut_good w book at old steps nothing old.state good here (inr tt) (nothing_owes w book at old good here) halts

-- outside of a life nothing was heard
begin_heard : (w : World) (book : Book) (at : ℕ) (kept : List Kept) (count : ℕ) (r : Router) → Good w book
    → slice_get w.nodes at ≡ Some (record { state = router_state r; kept = kept; steps = count }) → r.begun ≡ false → (r.begun ≡ true) ⊎ (r.requests ≡ [])
    → StaysHeard w at (writes (kept_life r.life ∷ []) []) (router_state (begins r))
begin_heard w book at kept count r good here nb (inl begun) v apart = absurd (cc)
begin_heard w book at kept count r good here nb (inr none) v apart =
    let f : Effect = writes (kept_life r.life ∷ []) [] in
    record {
      some = (each_get (λ k (x : Held). HeardFits (view_of w.nodes book) w.asked w.answered x.state) 0 at w.nodes _ good.heard here).some;
      requests = subst (λ l. AllByRecursion (IsHeard v (asked_after w f) (answered_after w f) (begins r)) l) (sym none) tt;
    }

-- a router that stops in the step in which its life begins
begin_good : (w : World) (book : Book) (at : ℕ) (kept : List Kept) (count steps : ℕ) (r q : Router) (i : Input) (f : Effect) → Good w book
    → slice_get w.nodes at ≡ Some (record { state = router_state r; kept = kept; steps = count }) → InputFits w book at i → (not_begun : r.begun ≡ false)
    → BeginsBefore i → RouterHolds r → RouterRow (begins r) i f q
    → Replays (record { state = router_state q; kept = kept ++ (kept_life r.life ∷ f.written); steps = 0 })
    → HoldsOwn (record {
      state = became (record { state = router_state q; kept = kept ++ (kept_life r.life ∷ f.written); steps = 0 });
      kept = kept ++ (kept_life r.life ∷ f.written);
      steps = 0;
    })
    → HasBook (after_start w at (record { state = router_state r; kept = kept; steps = count }) steps (cut_off (both (writes (kept_life r.life ∷ []) []) f))
    (became (record { state = router_state q; kept = kept ++ (kept_life r.life ∷ f.written); steps = 0 })))
begin_good w book at kept count steps r q i f good here input nb before holds row replays again =
    let old : Held = record { state = router_state r; kept = kept; steps = count } in
    let first : Effect = writes (kept_life r.life ∷ []) [] in
    let owes = router_owes w book at kept r (begins r) opened_input first good (reach_here w book at old good here) (hears_here w book at old good here)
    (fits_here w book at old good here) tt (gives_owe w book at kept r good (fits_here w book at old good here) (reach_here w book at old good here))
    (router_begin r nb) in
    let begun : Book = book_after w book at old first (router_state (begins r)) w.missed owes in
    let u : World = turned w at old first (router_state (begins r)) count w.missed w.away in
    let good_v : Good (turned w at old first (router_state (begins r)) count w.missed w.away)
    (book_after w book at old first (router_state (begins r)) w.missed owes) =
    good_after w book at old first (router_state (begins r)) count w.missed w.away good here (more_self w.missed) good.lacks good.away (inr (tt, tt))
    (begin_heard w book at kept count r good here nb holds.1) owes in
    let now : Held = with_more old first.written (router_state (begins r)) count in
    let here_v : slice_get u.nodes at ≡ Some now = get_set w.nodes at old (with_more old first.written (router_state (begins r)) count) here in
    let later = views_later w.nodes at old first.written (router_state (begins r)) count book owes.news owes.cursors w.given w.missed
    (raises_of (router_state (begins r))) good.given (subst (λ l. More l w.missed) good.missed (more_self w.missed)) here owes.rises
    (fits_here w book at old good here).within in
    let next = router_owes u begun at (kept ++ kept_life r.life ∷ []) (begins r) q i f good_v (reach_here u begun at now good_v here_v)
    (hears_here u begun at now good_v here_v) (fits_here u begun at now good_v here_v)
    (fits_later w book at old first (router_state (begins r)) count begun i before refl later input)
    (gives_owe u begun at (kept ++ kept_life r.life ∷ []) (begins r) good_v (fits_here u begun at now good_v here_v) (reach_here u begun at now good_v here_v))
    row in
    let follows : RouterFollows (begins r) f q = router_follows (begins r) q i f (begins_holds r holds) row in
    let same : kept ++ (kept_life r.life ∷ f.written) ≡ (kept ++ kept_life r.life ∷ []) ++ f.written =
    sym (append_assoc kept (kept_life r.life ∷ []) f.written) in
    let cut = cut_good u begun at now steps f (router_state q)
    good_v here_v (inr (router_aside (begins r) q i f row)) next
    (record {
      early = 0;
      late = 0;
      leads = follows.leads;
      replays = subst (λ k. Replays (record { state = router_state q; kept = k; steps = 0 })) same replays;
      holds = subst (λ k. HoldsOwn (record { state = became (record { state = router_state q; kept = k; steps = 0 }); kept = k; steps = 0 })) same again;
      tables = tt;
      own = tt;
      same = λ j. durable_router (empty_router (follows.own j) (follows.shards j));
    }) in
    subst (λ k. HasBook (after_start w at old steps (cut_off (both first f)) (became (record { state = router_state q; kept = k; steps = 0 })))) (sym same)
    (subst (λ x. HasBook x) (start_both w at old count steps first (cut_off f) (router_state (begins r))
    (became (record { state = router_state q; kept = (kept ++ kept_life r.life ∷ []) ++ f.written; steps = 0 }))) cut)

-- a node that stops in a step
pub stop_good : (w : World) (book : Book) (at : ℕ) (kept : List Kept) (count steps : ℕ) (s t : NodeState) (i : Input) (f : Effect) → Good w book
    → slice_get w.nodes at ≡ Some (record { state = s; kept = kept; steps = count }) → InputFits w book at i → Step s i f t
    → HoldsOwn (record { state = s; kept = kept; steps = count })
    → Halts (changes_kept (journal_at w.nodes 0)) (record { state = s; kept = kept; steps = count }) f t
    → HasBook (after_start w at (record { state = s; kept = kept; steps = count }) steps (cut_off f)
    (halted (record { state = s; kept = kept; steps = count }) f t))
stop_good w book at kept count steps _ _ _ _ good here input (catalogue_step c d i f own row) holds halts =
    cut_good w book at _ steps f _ good here (inl (fits_here w book at _ good here).state.place)
    (catalogue_owes w book at kept c d i f good (fits_here w book at _ good here) input row) halts
stop_good w book at kept count steps _ _ _ _ good here input (shard_step s t i f own row) holds halts =
    cut_good w book at _ steps f _ good here (inr (shard_aside s t i f row).stores)
    (shard_owes w book at kept s t i f good (journal_got w.nodes at _ here) (fits_here w book at _ good here) own input row) halts
stop_good w book at kept count steps _ _ _ _ good here input (router_step r q i f own row) holds halts =
    cut_good w book at _ steps f _ good here (inr (router_aside r q i f row))
    (router_owes w book at kept r q i f good (reach_here w book at _ good here) (hears_here w book at _ good here) (fits_here w book at _ good here) input
    (gives_owe w book at kept r good (fits_here w book at _ good here) (reach_here w book at _ good here)) row) halts
stop_good w book at kept count steps _ _ _ _ good here input (other_step s m other) holds halts =
    restart_good w book at (record { state = s; kept = kept; steps = count }) steps good here halts
stop_good w book at kept count steps _ _ _ _ good here input (begin_step r q i f nb before row) holds halts =
    begin_good w book at kept count steps r q i f good here input nb before holds row halts.replays halts.holds
