-- Journals grow at their end in every run with stops: no record that was stored is lost.
use Rattle.std.proofs.Common.{◌≡◌, inl, inr, ℕ, ◌+◌, zero, suc, List, [], ◌∷◌, ◌++◌, sym, ap, ◌∙◌, append_assoc, append-nil}
use Rattle.std.specs.Prelude.{Some}
use Rattle.std.specs.List.{slice_get, slice_set}
use Rattle.node_model.specs.Journal.{Kept}
use Rattle.node_model.specs.Letters.{Input}
use Rattle.node_model.specs.States.{NodeState}
use Rattle.node_model.specs.World.{Held, World, Moves, Misses, Meets, steps_after, Event, Happens, comes, delivers, passes, begins, journal_at}
use Rattle.node_replay.specs.Acknowledged.{KeepsJournals}
use Rattle.node_replay.specs.Restarts.{EventOrStop, Occurs, occurs, restarts, stops, RunWithStops, stays, proceeds}

-- more records are stored in one journal
kept_longer : (nodes : List Held) (at : ℕ) (old : Held) (written : List Kept) (new : NodeState) (steps : ℕ) → slice_get nodes at ≡ Some old → (p : ℕ)
    → (more : List Kept)
    × (journal_at (slice_set nodes at (record { state = new; kept = old.kept ++ written; steps = steps })) p ≡ journal_at nodes p ++ more)
kept_longer [] at old written new steps here p = absurd (cc)
kept_longer (h ∷ nodes) zero old written new steps here zero =
    let same : h ≡ old = cc in
    (written, ap (λ (x : Held). x.kept ++ written) (sym same))
kept_longer (h ∷ nodes) zero old written new steps here (suc p) = ([], sym (append-nil (journal_at nodes p)))
kept_longer (h ∷ nodes) (suc at) old written new steps here zero = ([], sym (append-nil h.kept))
kept_longer (h ∷ nodes) (suc at) old written new steps here (suc p) = kept_longer nodes at old written new steps here p

module _ (w v : World) (at : ℕ) (old : Held) (written : List Kept) (new : NodeState) (steps : ℕ) where
  journals_grow : slice_get w.nodes at ≡ Some old → v.nodes ≡ slice_set w.nodes at (record { state = new; kept = old.kept ++ written; steps = steps })
      → KeepsJournals w v
  journals_grow here nodes p = let k = kept_longer w.nodes at old written new steps here p in (k.0, ap (λ l. journal_at l p) nodes ∙ k.1)

move_grows : (w v : World) (at : ℕ) (i : Input) → Moves w at i v → KeepsJournals w v
move_grows w v at i m = journals_grow w v at m.old m.f.written m.new (m.old.steps + 1) m.here (ap (λ (x : World). x.nodes) m.then)

miss_grows : (w v : World) (at : ℕ) (i : Input) → Misses w at i v → KeepsJournals w v
miss_grows w v at i m =
    let steps : ℕ = steps_after m.lack m.old.steps in
    journals_grow w v at m.old [] m.old.state steps m.here
    (ap (λ (x : World). x.nodes) m.then
    ∙ ap (λ k. slice_set w.nodes at (record { state = m.old.state; kept = k; steps = steps })) (sym (append-nil m.old.kept)))

meets_grows : (w v : World) (at : ℕ) (i : Input) → Meets w at i v → KeepsJournals w v
meets_grows w v at i (inl m) = move_grows w v at i m
meets_grows w v at i (inr m) = miss_grows w v at i m

event_grows : (w v : World) (e : Event) → Happens w e v → KeepsJournals w v
event_grows _ _ _ (comes w v at link number request is m) = meets_grows w v at _ m
event_grows _ _ _ (delivers w v at which l got to m) = meets_grows w v at _ m
event_grows _ _ _ (passes w v at moment m) = meets_grows w v at _ m
event_grows _ _ _ (begins w v at m) = meets_grows w v at _ m

occurs_grows : (w v : World) (e : EventOrStop) → Occurs w e v → KeepsJournals w v
occurs_grows _ _ _ (occurs w v e h) = event_grows w v e h
occurs_grows _ _ _ (restarts w v at m) = journals_grow w v at m.old [] m.new m.steps m.here (ap (λ (x : World). x.nodes) m.then)
occurs_grows _ _ _ (stops w v at e i gives m) =
    journals_grow w v at m.old m.f.written m.new (m.old.steps + 1) m.here (ap (λ (x : World). x.nodes) m.then)

pub run_with_stops_grows : (u w : World) (events : List EventOrStop) → RunWithStops u events w → KeepsJournals u w
run_with_stops_grows _ _ _ (stays w) p = ([], sym (append-nil (journal_at w.nodes p)))
run_with_stops_grows _ _ _ (proceeds u v w e events h more) p =
    let first = occurs_grows u v e h p in
    let later = run_with_stops_grows v w events more p in
    (first.0 ++ later.0, later.1 ∙ ap (λ l. l ++ later.0) first.1 ∙ append_assoc (journal_at u.nodes p) first.0 later.0)
