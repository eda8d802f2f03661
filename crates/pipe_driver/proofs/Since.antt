-- What is put for answers since a world.
use Rattle.std.proofs.Common.{◌≡◌, inl, inr, ℕ, List, [], ◌∷◌, ◌++◌, length, sym, ap, ◌∙◌, append_assoc, append-nil}
use Rattle.std.specs.Prelude.{drop}
use Rattle.node_model.specs.Exchanges.{Answered}
use Rattle.node_model.specs.Letters.{Input}
use Rattle.node_model.specs.World.{World, answered_by, Moves, Meets, Event, Happens, comes, delivers, passes, begins as was_opened}
use Rattle.node_replay.specs.Restarts.{EventOrStop, Occurs, RunWithStops, occurs, proceeds, restarts, stays, stops}
use Rattle.node_progress.proofs.Lives.{dropped}
use Rattle.node_traits.specs.declared.outputs.ToLink.{ToLink}
use Rattle.driver_steps.specs.Crashes.{LeadsTo}
use Rattle.driver_steps.specs.Worlds.{puts_given}
use Rattle.driver_steps.proofs.Stepping.{puts_append}
use Rattle.pipe_driver.specs.Rounds.{puts_since}

-- these answers were given after others
abbrev GaveMore : (old new : List Answered) → Type 0
GaveMore old new = (more : List Answered) × (new ≡ old ++ more)

move_gives : (w v : World) (at : ℕ) (i : Input) → Moves w at i v → GaveMore w.answered v.answered
move_gives w v at i m = (answered_by w.now m.f.replies, ap (λ (x : World). x.answered) m.then)

meet_gives : (w v : World) (at : ℕ) (i : Input) → Meets w at i v → GaveMore w.answered v.answered
meet_gives w v at i (inl m) = move_gives w v at i m
meet_gives w v at i (inr m) = ([], ap (λ (x : World). x.answered) m.then ∙ sym (append-nil w.answered))

happens_gives : (w v : World) (e : Event) → Happens w e v → GaveMore w.answered v.answered
happens_gives _ _ _ (comes w v at link number request router m) = meet_gives w v at _ m
happens_gives _ _ _ (delivers w v at which letter got to m) = meet_gives w v at _ m
happens_gives _ _ _ (passes w v at moment m) = meet_gives w v at _ m
happens_gives _ _ _ (was_opened w v at m) = meet_gives w v at _ m

occurs_gives : (w v : World) (e : EventOrStop) → Occurs w e v → GaveMore w.answered v.answered
occurs_gives _ _ _ (occurs w v e h) = happens_gives w v e h
occurs_gives _ _ _ (restarts w v at m) = ([], ap (λ (x : World). x.answered) m.then)
occurs_gives _ _ _ (stops w v at e i gives m) = ([], ap (λ (x : World). x.answered) m.then)

run_gives : (u : World) (es : List EventOrStop) (w : World) → RunWithStops u es w → GaveMore u.answered w.answered
run_gives _ _ _ (stays w) = ([], sym (append-nil w.answered))
run_gives _ _ _ (proceeds u v w e es h run) =
    let one = occurs_gives u v e h in
    let more = run_gives v es w run in
    (one.0 ++ more.0, more.1 ∙ (ap (λ (l : List Answered). l ++ more.0) one.1 ∙ append_assoc u.answered one.0 more.0))

same_behind : {X : Type 0} (xs ys zs : List X) → xs ++ ys ≡ xs ++ zs → ys ≡ zs
same_behind [] ys zs e = e
same_behind (x ∷ xs) ys zs e = same_behind xs ys zs (cc e)

since_by : (first w : World) (more : List Answered) → w.answered ≡ first.answered ++ more → puts_since first w ≡ puts_given more
since_by first w more is = ap (λ (l : List Answered). puts_given (drop (length first.answered) l)) is ∙ ap puts_given (dropped first.answered more)

-- nothing, where nothing was answered
pub since_none : (first w : World) → w.answered ≡ first.answered → puts_since first w ≡ []
since_none first w same = since_by first w [] (same ∙ sym (append-nil first.answered))

-- what a later world has more than an earlier one
pub since_more : (first u w : World) (given : List ToLink) → LeadsTo first u → LeadsTo u w → puts_given w.answered ≡ puts_given u.answered ++ given
    → puts_since first w ≡ puts_since first u ++ given
since_more first u w given before (events, run) gave =
    let early = run_gives first before.0 u before.1 in
    let late = run_gives u events w run in
    let both : w.answered ≡ first.answered ++ (early.0 ++ late.0) =
    late.1 ∙ (ap (λ (l : List Answered). l ++ late.0) early.1 ∙ append_assoc first.answered early.0 late.0) in
    let all : puts_given u.answered ++ puts_given late.0 ≡ puts_given u.answered ++ given =
    sym (puts_append u.answered late.0) ∙ (ap puts_given (sym late.1) ∙ gave) in
    let news : puts_given late.0 ≡ given = same_behind (puts_given u.answered) (puts_given late.0) given all in
    since_by first w (early.0 ++ late.0) both
    ∙ (puts_append early.0 late.0
    ∙ (ap (λ (l : List ToLink). l ++ puts_given late.0) (sym (since_by first u early.0 early.1))
    ∙ ap (λ (l : List ToLink). puts_since first u ++ l) news))
