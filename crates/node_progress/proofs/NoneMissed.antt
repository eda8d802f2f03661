-- What was missed is kept; so where no more was missed in a run, no step of it was missed.
use Rattle.std.proofs.Common.{◌≡◌, ◌⊎◌, inl, inr, List, [], ◌∷◌, ◌++◌, refl, sym, ap, ◌∙◌, append-nil, append_assoc, ℕ}
use Rattle.reply_model.specs.Accounts.{Missed}
use Rattle.node_model.specs.Letters.{Input}
use Rattle.node_replay.specs.Restarts.{EventOrStop, Occurs, occurs, restarts, stops, RunWithStops, stays, proceeds}
use Rattle.node_model.specs.World.{World, Misses, Meets, Event, Happens, comes, delivers, passes, begins as was_opened, Run, stands, goes}

append_none : {X : Type 0} (xs ys : List X) → xs ++ ys ≡ xs → ys ≡ []
append_none [] ys same = same
append_none (x ∷ xs) ys same = append_none xs ys (cc same)

first_none : {X : Type 0} (xs ys : List X) → xs ++ ys ≡ [] → xs ≡ []
first_none [] ys same = refl
first_none (x ∷ xs) ys same = absurd (cc same)

-- more was missed then, or nothing
pub record MissedMore (w v : World) : Type 0 where
  pub news : List Missed
  pub is : v.missed ≡ w.missed ++ news

meets_more : (w v : World) (at : ℕ) (i : Input) → Meets w at i v → MissedMore w v
meets_more w v at i (inl m) = record { news = []; is = ap (λ (x : World). x.missed) m.then ∙ sym (append-nil w.missed) }
meets_more w v at i (inr m) = record { news = _; is = ap (λ (x : World). x.missed) m.then }

pub happens_more : (w v : World) (e : Event) → Happens w e v → MissedMore w v
happens_more _ _ _ (comes w v at link number request is m) = meets_more w v at _ m
happens_more _ _ _ (delivers w v at which letter got to m) = meets_more w v at _ m
happens_more _ _ _ (passes w v at moment m) = meets_more w v at _ m
happens_more _ _ _ (was_opened w v at m) = meets_more w v at _ m

pub run_more_missed : (u w : World) (es : List Event) → Run u es w → MissedMore u w
run_more_missed _ _ _ (stands w) = record { news = []; is = sym (append-nil w.missed) }
run_more_missed _ _ _ (goes u v w e es h run) =
    let first = happens_more u v e h in
    let rest = run_more_missed v w es run in
    record { news = first.news ++ rest.news; is = rest.is ∙ (ap (λ l. l ++ rest.news) first.is ∙ append_assoc u.missed first.news rest.news) }

pub more_then_more : (u v w : World) → MissedMore u v → MissedMore v w → MissedMore u w
more_then_more u v w first rest =
    record { news = first.news ++ rest.news; is = rest.is ∙ (ap (λ l. l ++ rest.news) first.is ∙ append_assoc u.missed first.news rest.news) }

-- where nothing is missed, nothing was until then
pub first_none_missed : (u v w : World) → MissedMore u v → MissedMore v w → w.missed ≡ u.missed → v.missed ≡ u.missed
first_none_missed u v w first rest none =
    let all : u.missed ++ (first.news ++ rest.news) ≡ u.missed =
    sym (append_assoc u.missed first.news rest.news) ∙ (sym (ap (λ l. l ++ rest.news) first.is) ∙ (sym rest.is ∙ none)) in
    first.is ∙ (ap (λ l. u.missed ++ l) (first_none first.news rest.news (append_none u.missed (first.news ++ rest.news) all)) ∙ append-nil u.missed)

-- where the run misses nothing, neither its first event does, nor the rest
pub first_misses_none : (u v w : World) (e : Event) (es : List Event) → Happens u e v → Run v es w → w.missed ≡ u.missed → v.missed ≡ u.missed
first_misses_none u v w e es h run none = first_none_missed u v w (happens_more u v e h) (run_more_missed v w es run) none

pub rest_misses_none : (u v w : World) (e : Event) (es : List Event) → Happens u e v → Run v es w → w.missed ≡ u.missed → w.missed ≡ v.missed
rest_misses_none u v w e es h run none = none ∙ sym (first_misses_none u v w e es h run none)

-- a step that is missed is noted
pub miss_noted : {X : Type 0} (w v : World) (at : ℕ) (i : Input) → Misses w at i v → v.missed ≡ w.missed → X
miss_noted w v at i m none =
    let one = append_none w.missed _ (sym (ap (λ (x : World). x.missed) m.then) ∙ none) in
    absurd (cc one)

-- RUNS WITH STOPS

occurs_more : (u v : World) (e : EventOrStop) → Occurs u e v → MissedMore u v
occurs_more _ _ _ (occurs u v e h) = happens_more u v e h
occurs_more _ _ _ (restarts u v at m) = record { news = []; is = ap (λ (x : World). x.missed) m.then ∙ sym (append-nil u.missed) }
occurs_more _ _ _ (stops u v at e i gives m) = record { news = []; is = ap (λ (x : World). x.missed) m.then ∙ sym (append-nil u.missed) }

pub stops_more : (u w : World) (es : List EventOrStop) → RunWithStops u es w → MissedMore u w
stops_more _ _ _ (stays w) = record { news = []; is = sym (append-nil w.missed) }
stops_more _ _ _ (proceeds u v w e es h run) = more_then_more u v w (occurs_more u v e h) (stops_more v w es run)

pub first_stop_none : (u v w : World) (e : EventOrStop) (es : List EventOrStop) → Occurs u e v → RunWithStops v es w → w.missed ≡ u.missed → v.missed ≡ u.missed
first_stop_none u v w e es h run none = first_none_missed u v w (occurs_more u v e h) (stops_more v w es run) none

-- EITHER

-- the event misses no step, or more was missed then than in any world before
pub missed_or : (first w v : World) (e : Event) → MissedMore first w → Happens w e v → (v.missed ≡ w.missed) ⊎ (v.missed ≡ first.missed → ⊥)
missed_or first w v e before h = by_news (happens_more w v e h)
  where
    by_news : MissedMore w v → (v.missed ≡ w.missed) ⊎ (v.missed ≡ first.missed → ⊥)
    by_news m = by_list m.news m.is
      where
        by_list : (l : List Missed) → v.missed ≡ w.missed ++ l → (v.missed ≡ w.missed) ⊎ (v.missed ≡ first.missed → ⊥)
        by_list [] is = inl (is ∙ append-nil w.missed)
        by_list (x ∷ l) is = inr (λ none.
            let same : w.missed ≡ first.missed = first_none_missed first w v before (record { news = x ∷ l; is = is }) none in
            let more : w.missed ++ x ∷ l ≡ w.missed = sym is ∙ (none ∙ sym same) in
            let left : x ∷ l ≡ [] = append_none w.missed (x ∷ l) more in
            cc left)
