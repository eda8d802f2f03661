-- The nodes of a world after each of them was started on its journal, in order.
use Rattle.std.proofs.Common.{◌≡◌, ℕ, zero, suc, ◌+◌, List, [], ◌∷◌, ◌++◌, length, refl, sym, ap, subst, ◌∙◌, arith, append_assoc, append-nil, length-append}
use Rattle.std.specs.Prelude.{Some}
use Rattle.std.specs.List.{slice_get, slice_set}
use Rattle.std.proofs.lemmas.Option.{same_Some}
use Rattle.node_model.specs.World.{Held, World}
use Rattle.node_replay.specs.Openings.{opened_on}
use Rattle.node_replay.specs.Restarts.{Restarts, EventOrStop, restart_event, Occurs, occurs, restarts, stops, RunWithStops, stays, proceeds}
use Rattle.restart_laws.specs.Calls.{BeginsOn, restarts_of}

-- the node is what the other one's journal opens, and has this journal
pub record IsStarted (old new : Held) : Type 0 where
  pub opens : opened_on old.state old.kept ≡ Some new.state
  pub kept : new.kept ≡ old.kept

abbrev pub AreStarted : (olds news : List Held) → Type 0
AreStarted [] [] = Unit {0}
AreStarted (old ∷ olds) (new ∷ news) = IsStarted old new × AreStarted olds news
AreStarted olds news = ⊥

-- PLACES

got_behind : {X : Type 0} (before more : List X) (x : X) (at : ℕ) → at ≡ length before → slice_get (before ++ x ∷ more) at ≡ Some x
got_behind [] more x zero is = refl
got_behind [] more x (suc at) is = absurd (omega (arith, is))
got_behind (y ∷ before) more x zero is = absurd (omega (arith, is))
got_behind (y ∷ before) more x (suc at) is = got_behind before more x at (omega (arith, is))

set_behind : {X : Type 0} (before more : List X) (x y : X) (at : ℕ) → at ≡ length before → slice_set (before ++ x ∷ more) at y ≡ (before ++ y ∷ []) ++ more
set_behind [] more x y zero is = refl
set_behind [] more x y (suc at) is = absurd (omega (arith, is))
set_behind (z ∷ before) more x y zero is = absurd (omega (arith, is))
set_behind (z ∷ before) more x y (suc at) is = ap (λ l. z ∷ l) (set_behind before more x y at (omega (arith, is)))

-- ONE AFTER ANOTHER

restart_at : (w v : World) (e : EventOrStop) (at : ℕ) → Occurs w e v → e ≡ restart_event at → Restarts w at v
restart_at _ _ _ at (occurs w v e h) is = absurd (cc)
restart_at _ _ _ at (restarts w v place m) is = let one : place ≡ at = cc in subst (λ n. Restarts w n v) one m
restart_at _ _ _ at (stops w v place e i gives m) is = absurd (cc)

-- some nodes stay, and the others, after them, are started
record Started (before olds nodes : List Held) : Type 0 where
  pub news : List Held
  pub are : nodes ≡ before ++ news
  pub started : AreStarted olds news

-- one node is started, and then those after it
module _ (u v : World) (before olds : List Held) (h : Held) (at : ℕ) (place : at ≡ length before) (nodes : u.nodes ≡ before ++ h ∷ olds)
    (m : Restarts u at v) where
  old_is : m.old ≡ h
  old_is = same_Some _ _ (sym m.here ∙ ap (λ (l : List Held). slice_get l at) nodes ∙ got_behind before olds h at place)

  abbrev now : Held
  now = record { state = m.new; kept = h.kept; steps = m.steps }

  nodes_then : v.nodes ≡ (before ++ now ∷ []) ++ olds
  nodes_then =
      ap (λ (x : World). x.nodes) m.then
      ∙ ap (λ (l : List Held). slice_set l at (record { state = m.new; kept = m.old.kept ++ []; steps = m.steps })) nodes
      ∙ ap (λ k. slice_set (before ++ h ∷ olds) at (record { state = m.new; kept = k; steps = m.steps }))
      (append-nil m.old.kept ∙ ap (λ (x : Held). x.kept) old_is)
      ∙ set_behind before olds h now at place

  one_started : IsStarted h now
  one_started = record { opens = subst (λ (x : Held). opened_on x.state x.kept ≡ Some m.new) old_is m.opens; kept = refl }

  one_more : (nodes_last : List Held) → Started (before ++ now ∷ []) olds nodes_last → Started before (h ∷ olds) nodes_last
  one_more nodes_last s = record {
    news = now ∷ s.news;
    are = s.are ∙ append_assoc before (now ∷ []) s.news;
    started = (one_started, s.started);
  }

started_from : (u w : World) (events : List EventOrStop) (before olds : List Held) (at n : ℕ) → RunWithStops u events w → events ≡ restarts_of at n
    → n ≡ length olds → at ≡ length before → u.nodes ≡ before ++ olds → Started before olds w.nodes
started_from _ _ _ before [] at zero (stays w) same long place nodes = record { news = []; are = nodes; started = tt }
started_from _ _ _ before (h ∷ olds) at zero (stays w) same long place nodes = absurd (omega (arith, long))
started_from _ _ _ before olds at (suc n) (stays w) same long place nodes = absurd (cc)
started_from _ _ _ before olds at zero (proceeds u v w e events o later) same long place nodes = absurd (cc)
started_from _ _ _ before [] at (suc n) (proceeds u v w e events o later) same long place nodes = absurd (omega (arith, long))
started_from _ _ _ before (h ∷ olds) at (suc n) (proceeds u v w e events o later) same long place nodes =
    let first : e ≡ restart_event at = cc in
    let others : events ≡ restarts_of (at + 1) n = cc in
    let m : Restarts u at v = restart_at u v e at o first in
    let new : Held = now u v before olds h at place nodes m in
    let next : at + 1 ≡ length (before ++ new ∷ []) = omega (arith, place, length-append before (new ∷ [])) in
    one_more u v before olds h at place nodes m w.nodes
    (started_from v w events (before ++ new ∷ []) olds (at + 1) n later others (omega (arith, long)) next (nodes_then u v before olds h at place nodes m))

-- a call begins with each node started
pub begins_started : (u first : World) → BeginsOn u first → AreStarted u.nodes first.nodes
begins_started u first b =
    let s : Started [] u.nodes b.started.nodes =
    started_from u b.started (restarts_of 0 (length u.nodes)) [] u.nodes 0 (length u.nodes) b.starts refl refl refl refl in
    subst (λ (l : List Held). AreStarted u.nodes l) (sym (ap (λ (x : World). x.nodes) b.then ∙ s.are)) s.started
