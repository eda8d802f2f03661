-- A call that begins on what earlier calls left: in its first world nothing is under way.
use Rattle.std.proofs.Common.{◌≡◌, ◌≢◌, ◌⊎◌, inl, inr, ℕ, zero, suc, ◌+◌, ◌<◌, List, [], ◌∷◌, ◌++◌, length, refl, sym, ap, subst, ◌∙◌, arith}
use Rattle.std.specs.Prelude.{Option, Some, None}
use Rattle.std.specs.List.{AllByRecursion, slice_get, slice_set}
use Rattle.std.specs.Option.{option_map}
use Rattle.std.proofs.lemmas.Option.{slice_get_within}
use Rattle.history_model.proofs.Lists.{all_weaken, all_append}
use Rattle.reply_model.specs.Exchanges.{Asked}
use Rattle.node_model.specs.Journal.{Kept}
use Rattle.node_model.specs.Letters.{Letter, Input, Taken, Effect}
use Rattle.node_model.specs.States.{NodeState}
use Rattle.node_model.specs.Steps.{Step}
use Rattle.node_model.specs.World.{Held, World, asked_by, Moves, steps_after, Misses, Meets, Event, Happens, comes, delivers, passes, begins as was_opened, start}
use Rattle.node_laws.proofs.Facts.{SentFits, Good}
use Rattle.node_laws.proofs.Lists.{all_mapped}
use Rattle.node_laws.proofs.StepsKeep.{StaysTrue, get_set}
use Rattle.node_laws.proofs.Views.{Book, view_of}
use Rattle.node_replay.specs.Durable.{DurableState, durable_catalogue, durable_shard, durable_router, empty_of}
use Rattle.node_replay.specs.Openings.{opened, opened_on}
use Rattle.node_replay.specs.Replays.{replayed, records_of, latest_time}
use Rattle.node_replay.specs.Restarts.{EventOrStop, restart_event, Occurs, occurs, restarts, stops, Restarts, RunWithStops, stays, proceeds}
use Rattle.restart_laws.specs.Calls.{BeginsOn, Reached, next_call, restarts_of, with_mail}
use Rattle.restart_laws.proofs.ReachedCalls.{reached_calls_are_one_run}
use Rattle.restart_laws.proofs.Runs.{StaysWhole, occurs_keeps, runs_with_stops_stay_true, start_whole}
use Rattle.node_progress.specs.Completion.{IsQuiet}
use Rattle.node_progress.specs.Firsts.{IsAtRest}
use Rattle.node_progress.proofs.Arrivals.{me_of, own_place}
use Rattle.node_progress.proofs.Places.{get_other, length_set, same_place}
use Rattle.node_progress.proofs.Shards.{AreShards, start_shards}
use Rattle.node_progress.proofs.RestartedShards.{run_shards}
use Rattle.node_progress.proofs.Lives.{IsOfLife, step_keeps_life}

-- EACH REQUEST IS OF A NODE

abbrev pub ArePlaced : World → Type 0
ArePlaced w = AllByRecursion (λ (a : Asked). a.id.router < length w.nodes) w.asked

taken_placed : (s : NodeState) (i : Input) (f : Effect) (t : NodeState) (at n now : ℕ) → me_of s at → Step s i f t → at < n
    → AllByRecursion (λ (a : Asked). a.id.router < n) (asked_by now f.taken)
taken_placed s i f t at n now me step below =
    all_mapped (λ (a : Asked). a.id.router < n) _ f.taken
    (all_weaken (IsOfLife at t) (λ (x : Taken). x.id.router < n) f.taken (λ x h. subst (λ k. k < n) (sym h.place) below)
    (step_keeps_life s i f t at me step).taken)

placed_more : (w : World) (at : ℕ) (h : Held) (more : List Asked) → ArePlaced w → AllByRecursion (λ (a : Asked). a.id.router < length w.nodes) more
    → AllByRecursion (λ (a : Asked). a.id.router < length (slice_set w.nodes at h)) (w.asked ++ more)
placed_more w at h more placed all =
    subst (λ n. AllByRecursion (λ (a : Asked). a.id.router < n) (w.asked ++ more)) (sym (length_set w.nodes at h))
    (all_append (λ (a : Asked). a.id.router < length w.nodes) w.asked more placed all)

step_placed : (w : World) (at : ℕ) (i : Input) (old : Held) (f : Effect) (reached : NodeState) (h : Held) → StaysTrue w → slice_get w.nodes at ≡ Some old
    → Step old.state i f reached → ArePlaced w
    → AllByRecursion (λ (a : Asked). a.id.router < length (slice_set w.nodes at h)) (w.asked ++ asked_by w.now f.taken)
step_placed w at i old f reached h good here step placed =
    placed_more w at h (asked_by w.now f.taken) placed
    (taken_placed old.state i f reached at (length w.nodes) w.now (own_place w good at old here) step (slice_get_within w.nodes at old here))

move_placed : (w v : World) (at : ℕ) (i : Input) → StaysTrue w → Moves w at i v → ArePlaced w → ArePlaced v
move_placed w v at i good m placed =
    subst (λ x. ArePlaced x) (sym m.then)
    (step_placed w at i m.old m.f m.new (record { state = m.new; kept = m.old.kept ++ m.f.written; steps = m.old.steps + 1 }) good m.here m.step placed)

miss_placed : (w v : World) (at : ℕ) (i : Input) → Misses w at i v → ArePlaced w → ArePlaced v
miss_placed w v at i m placed =
    subst (λ x. ArePlaced x) (sym m.then)
    (subst (λ n. AllByRecursion (λ (a : Asked). a.id.router < n) w.asked) (sym (length_set w.nodes at stepped)) placed)
  where
    stepped : Held
    stepped = record { state = m.old.state; kept = m.old.kept; steps = steps_after m.lack m.old.steps }

meet_placed : (w v : World) (at : ℕ) (i : Input) → StaysTrue w → Meets w at i v → ArePlaced w → ArePlaced v
meet_placed w v at i good (inl m) placed = move_placed w v at i good m placed
meet_placed w v at i good (inr m) placed = miss_placed w v at i m placed

happens_placed : (w v : World) (e : Event) → StaysTrue w → Happens w e v → ArePlaced w → ArePlaced v
happens_placed _ _ _ good (comes w v at link number request router m) placed = meet_placed w v at _ good m placed
happens_placed _ _ _ good (delivers w v at which letter got to m) placed = meet_placed w v at _ good m placed
happens_placed _ _ _ good (passes w v at moment m) placed = meet_placed w v at _ good m placed
happens_placed _ _ _ good (was_opened w v at m) placed = meet_placed w v at _ good m placed

pub occurs_placed : (w v : World) (e : EventOrStop) → StaysTrue w → Occurs w e v → ArePlaced w → ArePlaced v
occurs_placed _ _ _ good (occurs w v e h) placed = happens_placed w v e good h placed
occurs_placed _ _ _ good (restarts w v at m) placed =
    subst (λ x. ArePlaced x) (sym m.then) (placed_more w at (record { state = m.new; kept = m.old.kept ++ []; steps = m.steps }) [] placed tt)
occurs_placed _ _ _ good (stops w v at e i gives m) placed =
    subst (λ x. ArePlaced x) (sym m.then)
    (step_placed w at i m.old m.f m.reached (record { state = m.new; kept = m.old.kept ++ m.f.written; steps = m.old.steps + 1 }) good m.here m.step placed)

pub run_placed : (u w : World) (events : List EventOrStop) → StaysWhole u → RunWithStops u events w → ArePlaced u → ArePlaced w
run_placed _ _ _ whole (stays w) placed = placed
run_placed _ _ _ whole (proceeds u v w e events h more) placed =
    run_placed v w events (occurs_keeps u v e whole h) more (occurs_placed u v e whole.facts h placed)

-- what calls lead to is a world of one run, but for messages
pub reached_placed : (others routers : ℕ) (w : World) → Reached others routers w → ArePlaced w
reached_placed others routers w reached =
    let one = reached_calls_are_one_run others routers w reached in
    run_placed (start others routers) (with_mail one.mail w) one.events (start_whole others routers) one.run tt

-- NOTHING IS OPEN

opened_quiet : (time : ℕ) (d : DurableState) → IsQuiet (opened time d)
opened_quiet time (durable_catalogue d) = tt
opened_quiet time (durable_shard d) = refl
opened_quiet time (durable_router d) = refl

pub opened_on_quiet : (s : NodeState) (kept : List Kept) (new : NodeState) → opened_on s kept ≡ Some new → IsQuiet new
opened_on_quiet s kept new = by_replay (replayed (Some (empty_of s)) (records_of kept))
  where
    by_replay : (d : Option DurableState) → option_map (opened (latest_time (records_of kept))) d ≡ Some new → IsQuiet new
    by_replay None is = absurd (cc is)
    by_replay (Some d) is =
        let same : opened (latest_time (records_of kept)) d ≡ new = cc is in
        subst (λ t. IsQuiet t) same (opened_quiet (latest_time (records_of kept)) d)

-- nodes before a place have nothing open, and there are so many
record AreQuietBelow (count at : ℕ) (w : World) : Type 0 where
  counted : length w.nodes ≡ count
  quiet : (k : ℕ) (h : Held) → k < at → slice_get w.nodes k ≡ Some h → IsQuiet h.state

restart_quiet : (count at : ℕ) (w v : World) → Restarts w at v → AreQuietBelow count at w → AreQuietBelow count (at + 1) v
restart_quiet count at w v m below =
    subst (λ x. AreQuietBelow count (at + 1) x) (sym m.then)
    (record { counted = length_set w.nodes at started ∙ below.counted; quiet = λ k h less got. by_place k h less got (same_place k at) })
  where
    started : Held
    started = record { state = m.new; kept = m.old.kept ++ []; steps = m.steps }

    by_place : (k : ℕ) (h : Held) → k < at + 1 → slice_get (slice_set w.nodes at started) k ≡ Some h → (k ≡ at) ⊎ (k ≢ at) → IsQuiet h.state
    by_place k h less got (inl same) =
        let both : Some started ≡ Some h = sym (get_set w.nodes at m.old started m.here) ∙ (ap (λ j. slice_get (slice_set w.nodes at started) j) (sym same) ∙ got) in
        let one : started ≡ h = cc both in
        subst (λ (x : Held). IsQuiet x.state) one (opened_on_quiet m.old.state m.old.kept m.new m.opens)
    by_place k h less got (inr other) =
        below.quiet k h (omega (arith, less, other)) (sym (get_other w.nodes at k started other) ∙ got)

restarts_quiet : (count at n : ℕ) (w v : World) (events : List EventOrStop) → events ≡ restarts_of at n → RunWithStops w events v
    → AreQuietBelow count at w → AreQuietBelow count (at + n) v
restarts_quiet count at zero _ _ _ is (stays w) below = let none : at ≡ at + 0 = omega arith in subst (λ k. AreQuietBelow count k w) none below
restarts_quiet count at zero _ _ _ is (proceeds u v w e events h more) below = absurd (cc is)
restarts_quiet count at (suc n) _ _ _ is (stays w) below = absurd (cc is)
restarts_quiet count at (suc n) _ _ _ is (proceeds u v w e events h more) below =
    let one : e ≡ restart_event at = cc is in
    let rest : events ≡ restarts_of (at + 1) n = cc is in
    let there : (at + 1) + n ≡ at + suc n = omega arith in
    subst (λ k. AreQuietBelow count k w) there
    (restarts_quiet count (at + 1) n v w events rest more (by_event (subst (λ x. Occurs u x v) one h)))
  where
    by_event : Occurs u (restart_event at) v → AreQuietBelow count (at + 1) v
    by_event (restarts u v at m) = restart_quiet count at u v m below

each_quiet : (nodes : List Held) → ((k : ℕ) (h : Held) → slice_get nodes k ≡ Some h → IsQuiet h.state) → AllByRecursion (λ (h : Held). IsQuiet h.state) nodes
each_quiet [] each = tt
each_quiet (h ∷ nodes) each = (each 0 h refl, each_quiet nodes (λ k x got. each (suc k) x got))

-- THE FIRST WORLD

pub begins_reached : (others routers : ℕ) (u first : World) → Reached others routers u → BeginsOn u first → Reached others routers first
begins_reached others routers u first reached b = next_call u first first [] reached b (stays first)

pub begins_at_rest : (others routers : ℕ) (u first : World) → Reached others routers u → BeginsOn u first → IsAtRest first
begins_at_rest others routers u first reached b =
    let below : AreQuietBelow (length u.nodes) (0 + length u.nodes) b.started =
    restarts_quiet (length u.nodes) 0 (length u.nodes) u b.started (restarts_of 0 (length u.nodes)) refl b.starts
    (record { counted = refl; quiet = λ k h less got. absurd (omega (arith, less)) }) in
    let quiet = each_quiet b.started.nodes (λ k h got. below.quiet k h (omega (arith, slice_get_within b.started.nodes k h got, below.counted)) got) in
    record {
      none_sent = ap (λ (x : World). x.sent) b.then;
      placed = reached_placed others routers first (begins_reached others routers u first reached b);
      quiet = subst (λ (x : World). AllByRecursion (λ (h : Held). IsQuiet h.state) x.nodes) (sym b.then) quiet;
    }

pub begins_shards : (others routers : ℕ) (u first : World) → Reached others routers u → BeginsOn u first → AreShards first.nodes
begins_shards others routers u first reached b =
    let one = reached_calls_are_one_run others routers first (begins_reached others routers u first reached b) in
    run_shards (start others routers) (with_mail one.mail first) one.events one.run (start_shards others routers)

good_without : (w : World) (mail : List Letter) (book : Book) → w.sent ≡ [] → Good (with_mail mail w) book → Good w book
good_without w mail book none g = record {
  order = g.order;
  nodes = g.nodes;
  dated = g.dated;
  beside = g.beside;
  letters = subst (λ l. AllByRecursion (SentFits (view_of w.nodes book) w.changed w.asked w.answered w.given) l) (sym none) tt;
  heard = g.heard;
  answers = g.answers;
  decided = g.decided;
  came = g.came;
  one = g.one;
  once = g.once;
  fresh = g.fresh;
  in_order = g.in_order;
  known = g.known;
  met = g.met;
  given = g.given;
  missed = g.missed;
  lacks = g.lacks;
  away = g.away;
  reach = g.reach;
  noted = g.noted;
}

true_without : (w : World) (mail : List Letter) → w.sent ≡ [] → StaysTrue (with_mail mail w) → StaysTrue w
true_without w mail none (known, moments, told, based, caused) = (
  record { book = known.book; good = good_without w mail known.book none known.good },
  record { nodes = moments.nodes; asked = moments.asked; givens = moments.givens },
  told,
  record { steps = based.steps; replies = based.replies },
  caused,
)

pub begins_true : (others routers : ℕ) (u first : World) → Reached others routers u → BeginsOn u first → StaysTrue first
begins_true others routers u first reached b =
    let one = reached_calls_are_one_run others routers first (begins_reached others routers u first reached b) in
    true_without first one.mail (ap (λ (x : World). x.sent) b.then)
    (runs_with_stops_stay_true (start others routers) (with_mail one.mail first) one.events (start_whole others routers) one.run).facts
