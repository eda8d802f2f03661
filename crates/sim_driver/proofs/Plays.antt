-- Lines that were played are a run, in which the router stays and no message is forgotten.
use Rattle.std.proofs.Common.{◌≡◌, inl, inr, ℕ, zero, suc, ◌+◌, ◌<◌, ◌≤◌, List, [], ◌∷◌, ◌++◌, length, refl, sym, ap, subst, ◌∙◌, arith}
use Rattle.std.proofs.Common.{length-append, append_assoc, append-nil}
use Rattle.std.specs.Prelude.{Option, Some, None, Bool}
use Rattle.std.specs.List.{slice_get, slice_set}
use Rattle.std.proofs.lemmas.Option.{slice_get_within}
use Rattle.opmsg_frames.specs.Outline.{FrameFault}
use Rattle.opmsg_frames.specs.Frames.{FramesFrom, ends, fails, goes_on}
use Rattle.node_model.specs.Journal.{Kept}
use Rattle.node_model.specs.Letters.{Input}
use Rattle.node_model.specs.Requests.{Request}
use Rattle.node_model.specs.States.{NodeState, Router, catalogue_state, new_router, router_state, shard_state}
use Rattle.node_model.specs.World.{Held, World, IsRouter, Meets, Event, deliver_event, moment_event, Happens, comes, delivers, passes, begins as was_opened}
use Rattle.node_model.specs.World.{Run, stands, goes, shards_from, routers_from, start}
use Rattle.node_model.specs.Schedule.{openings}
use Rattle.node_replay.specs.Durable.{DurableState, durable_router, empty_of, empty_router}
use Rattle.node_replay.specs.Restarts.{EventOrStop, Occurs, occurs, restarts, stops, RunWithStops, stays, proceeds}
use Rattle.restart_laws.specs.Calls.{Reached, next_call, this_call}
use Rattle.restart_laws.proofs.Parts.{reached_parts}
use Rattle.restart_laws.proofs.ReachedCalls.{calls_proceed, run_whole, stops_then}
use Rattle.node_progress.specs.Firsts.{IsFirst, first_again, first_start}
use Rattle.node_progress.proofs.BagRuns.{sent_grows}
use Rattle.driver_steps.specs.Restarts.{HaveParts, MayStop, stop_and_open}
use Rattle.pipe_driver.specs.Progress.{AreAsked}
use Rattle.script_lines.specs.Lines.{Line, client_line}
use Rattle.sim_driver.specs.Links.{LinkView}
use Rattle.sim_driver.specs.Moves.{HasRouters, MayPlay}
use Rattle.sim_driver.specs.Plays.{IsPlayed, IsPartOfLine, StopsNode, part_of_restart, part_of_whole, plays_restart, plays_whole, stops_between, stops_kept, stops_lost, stops_unkept}
use Rattle.sim_driver.specs.Plays.{IsPlayedWhole, plays_client, closes, plays_deliver, plays_moment, plays_settle, plays_next, loses_next, events_on}
use Rattle.sim_driver.specs.Plays.{SettlesBut, but_none, but_passed, but_next, but_lost, IsPartOfWhole, part_of_client, part_of_deliver, part_of_moment}
use Rattle.sim_driver.specs.Plays.{part_of_settle, part_of_next}
use Rattle.sim_driver.specs.Scripts.{ScriptView, ClosesLink, closes_none, closes_open, marked, place_from}
use Rattle.sim_driver.specs.Simulations.{Plays, plays_none, plays_more}
use Rattle.sim_driver.proofs.Deliveries.{but_run}
use Rattle.sim_driver.proofs.Marks.{marked_length}
use Rattle.sim_driver.proofs.Places.{place_at}

pub whole_run : (u : World) (s : ScriptView) (line : Line) (events : List Event) (w : World) (t : ScriptView) (closed : Option ℕ)
    → IsPlayedWhole u s line events w t closed → Run u events w
whole_run u s _ _ _ _ _ (plays_client router link bytes left requests w here frames run) = run
whole_run u s _ _ _ _ _ (closes router link bytes left requests fault w here frames run) = run
whole_run u s _ _ _ _ _ (plays_deliver node k which w place h) = goes u w w (deliver_event node which) [] h (stands w)
whole_run u s _ _ _ _ _ (plays_moment node moment w h) = goes u w w (moment_event node moment) [] h (stands w)
whole_run u s _ _ _ _ _ (plays_settle except events w ds settles) = but_run except u s.delivered 0 events w ds (length w.sent) settles
whole_run u s _ _ _ _ _ (plays_next kind which m w place got h) = goes u w w (deliver_event m.receiver which) [] h (stands w)
whole_run u s _ _ _ _ _ (loses_next kind which m place got none) = stands u

pub played_run : (u : World) (s : ScriptView) (line : Line) (events : List EventOrStop) (w : World) (t : ScriptView) (closed : Option ℕ)
    → IsPlayed u s line events w t closed → RunWithStops u events w
played_run u s _ _ _ _ _ (plays_whole line events w t closed whole) = run_whole u w events (whole_run u s line events w t closed whole)
played_run u s _ _ _ _ _ (plays_restart line node e delivered w t closed stop run close) = run

pub plays_run : (first_router : ℕ) (first : World) (lines : List (List ℕ)) (events : List EventOrStop) (w : World) (s : ScriptView) (out : List ℕ)
    → Plays first_router first lines events w s out → RunWithStops first events w
plays_run first_router first _ _ _ _ _ (plays_none w run) = run_whole first w (openings 0 (length first.nodes)) run
plays_run first_router first _ _ _ _ _ (plays_more lines before events u w s t out bytes line closed given earlier says played gave) =
    stops_then first u w before events (plays_run first_router first lines before u s out earlier) (played_run u s line events w t closed played)

-- NODES

count_set : (nodes : List Held) (at : ℕ) (h : Held) → length (slice_set nodes at h) ≡ length nodes
count_set [] at h = refl
count_set (x ∷ nodes) zero h = refl
count_set (x ∷ nodes) (suc at) h = omega (arith, count_set nodes at h)

meet_count : (w v : World) (at : ℕ) (i : Input) → Meets w at i v → length v.nodes ≡ length w.nodes
meet_count w v at i (inl m) = ap (λ (x : World). length x.nodes) m.then ∙ count_set w.nodes at _
meet_count w v at i (inr m) = ap (λ (x : World). length x.nodes) m.then ∙ count_set w.nodes at _

happens_count : (w v : World) (e : Event) → Happens w e v → length v.nodes ≡ length w.nodes
happens_count _ _ _ (comes w v at link number request router m) = meet_count w v at _ m
happens_count _ _ _ (delivers w v at which letter got to m) = meet_count w v at _ m
happens_count _ _ _ (passes w v at moment m) = meet_count w v at _ m
happens_count _ _ _ (was_opened w v at m) = meet_count w v at _ m

occurs_count : (w v : World) (e : EventOrStop) → Occurs w e v → length v.nodes ≡ length w.nodes
occurs_count _ _ _ (occurs w v e h) = happens_count w v e h
occurs_count _ _ _ (restarts w v at m) =
    ap (λ (x : World). length x.nodes) m.then ∙ count_set w.nodes at _
occurs_count _ _ _ (stops w v at e i gives m) =
    ap (λ (x : World). length x.nodes) m.then ∙ count_set w.nodes at _

pub run_count : (u : World) (es : List EventOrStop) (w : World) → RunWithStops u es w → length w.nodes ≡ length u.nodes
run_count _ _ _ (stays w) = refl
run_count _ _ _ (proceeds u v w e es h run) = run_count v es w run ∙ occurs_count u v e h

-- THE ROUTERS

-- each node from a place on is a router
from_is_router : (first shards at count : ℕ) → at < count → (r : Router) × (kept : List Kept) × (steps : ℕ)
    × (slice_get (routers_from first shards count) at ≡ Some (record { state = router_state r; kept = kept; steps = steps }))
from_is_router first shards at zero below = absurd (omega (arith, below))
from_is_router first shards zero (suc count) below = (new_router first shards, [], 0, refl)
from_is_router first shards (suc at) (suc count) below = from_is_router (first + 1) shards at count (omega (arith, below))

from_length : (first shards count : ℕ) → length (routers_from first shards count) ≡ count
from_length first shards zero = refl
from_length first shards (suc count) = omega (arith, from_length (first + 1) shards count)

-- nodes after some shards
after_shards : (first others at : ℕ) (nodes : List Held) → slice_get (shards_from first others ++ nodes) (others + at) ≡ slice_get nodes at
after_shards first zero at nodes = let here : zero + at ≡ at = omega arith in ap (λ (n : ℕ). slice_get nodes n) here
after_shards first (suc others) at nodes =
    let there : suc others + at ≡ suc (others + at) = omega arith in
    ap (λ (n : ℕ). slice_get (shards_from first (suc others) ++ nodes) n) there ∙ after_shards (first + 1) others at nodes

shards_length : (first others : ℕ) (nodes : List Held) → length (shards_from first others ++ nodes) ≡ others + length nodes
shards_length first zero nodes = omega arith
shards_length first (suc others) nodes = omega (arith, shards_length (first + 1) others nodes)

-- the routers come after the catalogue, the first shard and so many others
pub start_count : (others routers : ℕ) → length (start others routers).nodes ≡ others + 2 + routers
start_count others routers =
    omega (
      arith,
      shards_length (1 + 1) others (routers_from (1 + others + 1) (others + 1) routers),
      from_length (1 + others + 1) (others + 1) routers,
    )

pub start_router : (others routers router : ℕ) → router < routers → IsRouter (start others routers).nodes (others + 2 + router)
start_router others routers router below =
    let there : others + 2 + router ≡ suc (suc (others + router)) = omega arith in
    let at = after_shards (1 + 1) others router (routers_from (1 + others + 1) (others + 1) routers) in
    let is = from_is_router (1 + others + 1) (others + 1) router routers below in
    subst (λ (n : ℕ). IsRouter (start others routers).nodes n) (sym there) (is.0, is.1, is.2, at ∙ is.3)

-- a script may be played from empty journals on
pub start_may_play : (others routers : ℕ) → MayPlay (others + 2) (start others routers)
start_may_play others routers = record {
  begins = first_start others routers;
  routers = λ router below. start_router others routers router (omega (arith, below, start_count others routers));
}

pub plays_count : (first_router : ℕ) (first : World) (lines : List (List ℕ)) (events : List EventOrStop) (w : World) (s : ScriptView) (out : List ℕ)
    → Plays first_router first lines events w s out → length w.nodes ≡ length first.nodes
plays_count first_router first lines events w s out plays = run_count first events w (plays_run first_router first lines events w s out plays)

-- A NODE MAY STOP

pub first_reached : (first : World) → IsFirst first → (others : ℕ) × (routers : ℕ) × Reached others routers first
first_reached _ (first_start others routers) = (others, routers, this_call (start others routers) [] (stays (start others routers)))
first_reached _ (first_again others routers u first reached begins) = (others, routers, next_call u first first [] reached begins (stays first))

pub plays_may_stop : (part : ℕ → DurableState) (first_router : ℕ) (first : World) → IsFirst first → HaveParts part first.nodes → (lines : List (List ℕ))
    (events : List EventOrStop) (w : World) (s : ScriptView) (out : List ℕ) → Plays first_router first lines events w s out → MayStop part w
plays_may_stop part first_router first begins parts lines events w s out plays =
    let r = first_reached first begins in
    let run = plays_run first_router first lines events w s out plays in
    record {
      others = r.0;
      routers = r.1;
      reached = calls_proceed (start r.0 r.1) first w events r.2 run;
      parts = reached_parts part r.0 r.1 first w events r.2 parts run;
    }

node_there : (nodes : List Held) (at : ℕ) → at < length nodes → (h : Held) × (slice_get nodes at ≡ Some h)
node_there [] at below = absurd (omega (arith, below))
node_there (x ∷ nodes) zero below = (x, refl)
node_there (x ∷ nodes) (suc at) below = node_there nodes at (omega (arith, below))

-- nodes that stay what they are
router_by_part : (part : ℕ → DurableState) (nodes others : List Held) (at : ℕ) → HaveParts part nodes → HaveParts part others → IsRouter nodes at
    → at < length others → IsRouter others at
router_by_part part nodes others at these those (r, kept, steps, here) below =
    let other = node_there others at below in
    by_state other.0.state other.0.kept other.0.steps other.1
    (those at other.0 other.1 ∙ sym (these at (record { state = router_state r; kept = kept; steps = steps }) here))
  where
    by_state : (state : NodeState) (mine : List Kept) (count : ℕ) → slice_get others at ≡ Some (record { state = state; kept = mine; steps = count })
        → empty_of state ≡ durable_router (empty_router r.me r.shards) → IsRouter others at
    by_state (catalogue_state c) mine count got is = absurd (cc is)
    by_state (shard_state d) mine count got is = absurd (cc is)
    by_state (router_state q) mine count got is = (q, mine, count, got)

plays_routers : (part : ℕ → DurableState) (first_router : ℕ) (first : World) → IsFirst first → HaveParts part first.nodes → HasRouters first_router first
    → (lines : List (List ℕ)) (events : List EventOrStop) (w : World) (s : ScriptView) (out : List ℕ)
    → Plays first_router first lines events w s out → HasRouters first_router w
plays_routers part first_router first begins parts there lines events w s out plays router below =
    let count = plays_count first_router first lines events w s out plays in
    router_by_part part first.nodes w.nodes (first_router + router) parts
    (plays_may_stop part first_router first begins parts lines events w s out plays).parts (there router (omega (arith, below, count))) below

-- their place in a script stays
whole_place : (u : World) (s : ScriptView) (line : Line) (events : List Event) (w : World) (t : ScriptView) (closed : Option ℕ)
    → IsPlayedWhole u s line events w t closed → t.first_router ≡ s.first_router
whole_place u s _ _ _ _ _ (plays_client router link bytes left requests w here frames run) = refl
whole_place u s _ _ _ _ _ (closes router link bytes left requests fault w here frames run) = refl
whole_place u s _ _ _ _ _ (plays_deliver node k which w place h) = refl
whole_place u s _ _ _ _ _ (plays_moment node moment w h) = refl
whole_place u s _ _ _ _ _ (plays_settle except events w ds settles) = refl
whole_place u s _ _ _ _ _ (plays_next kind which m w place got h) = refl
whole_place u s _ _ _ _ _ (loses_next kind which m place got none) = refl

closes_place : (s t : ScriptView) (node : ℕ) (closed : Option ℕ) → ClosesLink s node t closed → t.first_router ≡ s.first_router
closes_place s _ node _ (closes_open router link is got opened) = refl
closes_place s _ node _ (closes_none none) = refl

played_place : (u : World) (s : ScriptView) (line : Line) (events : List EventOrStop) (w : World) (t : ScriptView) (closed : Option ℕ)
    → IsPlayed u s line events w t closed → t.first_router ≡ s.first_router
played_place u s _ _ _ _ _ (plays_whole line events w t closed whole) = whole_place u s line events w t closed whole
played_place u s _ _ _ _ _ (plays_restart line node e delivered w t closed stop run close) = closes_place s t node closed close

plays_place : (first_router : ℕ) (first : World) (lines : List (List ℕ)) (events : List EventOrStop) (w : World) (s : ScriptView) (out : List ℕ)
    → Plays first_router first lines events w s out → s.first_router ≡ first_router
plays_place first_router first _ _ _ _ _ (plays_none w run) = refl
plays_place first_router first _ _ _ _ _ (plays_more lines before events u w s t out bytes line closed given earlier says played gave) =
    played_place u s line events w t closed played ∙ plays_place first_router first lines before u s out earlier

-- the routers of the script are there
pub plays_script : (part : ℕ → DurableState) (first_router : ℕ) (first : World) → IsFirst first → HaveParts part first.nodes → HasRouters first_router first
    → (lines : List (List ℕ)) (events : List EventOrStop) (w : World) (s : ScriptView) (out : List ℕ) → Plays first_router first lines events w s out
    → HasRouters s.first_router w
plays_script part first_router first begins parts there lines events w s out plays =
    subst (λ (n : ℕ). HasRouters n w) (sym (plays_place first_router first lines events w s out plays))
    (plays_routers part first_router first begins parts there lines events w s out plays)

-- MESSAGES

run_grows : (u : World) (es : List Event) (w : World) → Run u es w → length u.sent ≤ length w.sent
run_grows _ _ _ (stands w) = omega arith
run_grows _ _ _ (goes u v w e es h run) = omega (arith, sent_grows u v e h, run_grows v es w run)

occurs_grows : (w v : World) (e : EventOrStop) → Occurs w e v → length w.sent ≤ length v.sent
occurs_grows _ _ _ (occurs w v e h) = sent_grows w v e h
occurs_grows _ _ _ (restarts w v at m) =
    subst (λ (x : World). length w.sent ≤ length x.sent) (sym m.then) (omega (arith, length-append w.sent []))
occurs_grows _ _ _ (stops w v at e i gives m) =
    subst (λ (x : World). length w.sent ≤ length x.sent) (sym m.then) (omega (arith, length-append w.sent []))

with_stops_grows : (u : World) (es : List EventOrStop) (w : World) → RunWithStops u es w → length u.sent ≤ length w.sent
with_stops_grows _ _ _ (stays w) = omega arith
with_stops_grows _ _ _ (proceeds u v w e es h run) = omega (arith, occurs_grows u v e h, with_stops_grows v es w run)

settles_marks : (except : Option (List ℕ)) (u : World) (ds : List Bool) (next : ℕ) (events : List Event) (w : World) (es : List Bool) (later : ℕ)
    → SettlesBut except u ds next events w es later → length ds ≤ length u.sent → length es ≤ length w.sent
settles_marks except _ _ _ _ _ _ _ (but_none w ds next) most = most
settles_marks except _ _ _ _ _ _ _ (but_passed u w ds es next later m events got is more) most =
    settles_marks except u ds (next + 1) events w es later more most
settles_marks except _ _ _ _ _ _ _ (but_next u v w ds es next later m events got new h more) most =
    settles_marks except v (marked next ds) (next + 1) events w es later more
    (omega (arith, marked_length next (length u.sent) ds most (slice_get_within u.sent next m got), sent_grows u v (deliver_event m.receiver next) h))
settles_marks except _ _ _ _ _ _ _ (but_lost u w ds es next later m events got new none more) most =
    settles_marks except u (marked next ds) (next + 1) events w es later more
    (marked_length next (length u.sent) ds most (slice_get_within u.sent next m got))

taken_marks : (u : World) (s : ScriptView) (node k which : ℕ) → length s.delivered ≤ length u.sent → place_from 0 node k u.sent ≡ Some which
    → length (marked which s.delivered) ≤ length u.sent
taken_marks u s node k which most place =
    let there = place_at 0 node k u.sent which place in
    marked_length which (length u.sent) s.delivered most (omega (arith, there.1, slice_get_within u.sent there.0 there.2 there.3))

whole_marks : (u : World) (s : ScriptView) (line : Line) (events : List Event) (w : World) (t : ScriptView) (closed : Option ℕ)
    → length s.delivered ≤ length u.sent → IsPlayedWhole u s line events w t closed → length t.delivered ≤ length w.sent
whole_marks u s _ _ _ _ _ most (plays_client router link bytes left requests w here frames run) =
    omega (arith, most, run_grows u (events_on s.first_router router link requests) w run)
whole_marks u s _ _ _ _ _ most (closes router link bytes left requests fault w here frames run) =
    omega (arith, most, run_grows u (events_on s.first_router router link requests) w run)
whole_marks u s _ _ _ _ _ most (plays_deliver node k which w place h) =
    let there = place_at 0 node k u.sent which place in
    let inside : which < length u.sent = omega (arith, there.1, slice_get_within u.sent there.0 there.2 there.3) in
    omega (arith, marked_length which (length u.sent) s.delivered most inside, sent_grows u w (deliver_event node which) h)
whole_marks u s _ _ _ _ _ most (plays_moment node moment w h) = omega (arith, most, sent_grows u w (moment_event node moment) h)
whole_marks u s _ _ _ _ _ most (plays_settle except events w ds settles) =
    settles_marks except u s.delivered 0 events w ds (length w.sent) settles most
whole_marks u s _ _ _ _ _ most (plays_next kind which m w place got h) =
    omega (arith, marked_length which (length u.sent) s.delivered most (slice_get_within u.sent which m got), sent_grows u w (deliver_event m.receiver which) h)
whole_marks u s _ _ _ _ _ most (loses_next kind which m place got none) =
    marked_length which (length u.sent) s.delivered most (slice_get_within u.sent which m got)

stop_marks : (u : World) (s : ScriptView) (line : Line) (node : ℕ) (e : EventOrStop) (ds : List Bool) → length s.delivered ≤ length u.sent
    → StopsNode u s line node e ds → length ds ≤ length u.sent
stop_marks u s _ _ _ _ most (stops_between node) = most
stop_marks u s _ _ _ _ most (stops_kept node k which place) = taken_marks u s node k which most place
stop_marks u s _ _ _ _ most (stops_unkept node k which place) = taken_marks u s node k which most place
stop_marks u s _ _ _ _ most (stops_lost node k which place) = taken_marks u s node k which most place

played_marks : (u : World) (s : ScriptView) (line : Line) (events : List EventOrStop) (w : World) (t : ScriptView) (closed : Option ℕ)
    → length s.delivered ≤ length u.sent → IsPlayed u s line events w t closed → length t.delivered ≤ length w.sent
played_marks u s _ _ _ _ _ most (plays_whole line events w t closed whole) = whole_marks u s line events w t closed most whole
played_marks u s _ _ _ _ _ most (plays_restart line node e delivered w t closed stop run close) =
    omega (arith, stop_marks u s line node e delivered most stop, with_stops_grows u (stop_and_open node e) w run)

-- what was delivered was sent
pub plays_marks : (first_router : ℕ) (first : World) (lines : List (List ℕ)) (events : List EventOrStop) (w : World) (s : ScriptView) (out : List ℕ)
    → Plays first_router first lines events w s out → length s.delivered ≤ length w.sent
plays_marks first_router first _ _ _ _ _ (plays_none w run) = omega arith
plays_marks first_router first _ _ _ _ _ (plays_more lines before events u w s t out bytes line closed given earlier says played gave) =
    played_marks u s line events w t closed (plays_marks first_router first lines before u s out earlier) played

-- A LINE THAT WAS PLAYED WHOLE, AS A PART

frames_asked : (place : ℕ) (bytes : List ℕ) (requests : List Request) (left : List ℕ) (fault : Option (FrameFault × ℕ))
    → FramesFrom place bytes requests left fault → (consumed : List ℕ) × (bytes ≡ consumed ++ left) × AreAsked consumed requests
frames_asked place _ _ _ _ (ends at bytes partial) = ([], refl, record { all = refl; each = tt })
frames_asked place _ _ _ _ (fails at bytes fault told) = ([], refl, record { all = refl; each = tt })
frames_asked place _ _ _ _ (goes_on at bytes behind request requests left fault first more) =
    let r = frames_asked (at + length request.bytes) behind requests left fault more in (
      request.bytes ++ r.0,
      first.split ∙ (ap (λ (b : List ℕ). request.bytes ++ b) r.1 ∙ sym (append_assoc request.bytes r.0 left)),
      record { all = ap (λ (b : List ℕ). request.bytes ++ b) r.2.all; each = (first.reads, r.2.each) },
    )

pub client_is_part : (u : World) (s : ScriptView) (router : ℕ) (link : LinkView) (bytes left : List ℕ) (requests : List Request)
    (fault : Option (FrameFault × ℕ)) → slice_get s.links router ≡ Some link → FramesFrom 0 (link.left ++ bytes) requests left fault
    → IsPartOfWhole u s (client_line router bytes) (events_on s.first_router router link requests)
client_is_part u s router link bytes left requests fault here frames =
    let r = frames_asked 0 (link.left ++ bytes) requests left fault frames in
    part_of_client router link bytes r.0 left requests (events_on s.first_router router link requests) here r.1 r.2
    ([], sym (append-nil (events_on s.first_router router link requests)))

all_is_part : (u : World) (s : ScriptView) (line : Line) (events : List Event) (w : World) (t : ScriptView) (closed : Option ℕ)
    → IsPlayedWhole u s line events w t closed → IsPartOfWhole u s line events
all_is_part u s _ _ _ _ _ (plays_client router link bytes left requests w here frames run) =
    client_is_part u s router link bytes left requests None here frames
all_is_part u s _ _ _ _ _ (closes router link bytes left requests fault w here frames run) =
    client_is_part u s router link bytes left requests (Some fault) here frames
all_is_part u s _ _ _ _ _ (plays_deliver node k which w place h) = part_of_deliver node k which (deliver_event node which ∷ []) place ([], refl)
all_is_part u s _ _ _ _ _ (plays_moment node moment w h) = part_of_moment node moment (moment_event node moment ∷ []) ([], refl)
all_is_part u s _ _ _ _ _ (plays_settle except events w ds settles) =
    part_of_settle except events (record {
      before = events;
      more = [];
      then = w;
      marks = ds;
      later = length w.sent;
      at = 0;
      settles = settles;
      first = (deliver_event 0 (length w.sent) ∷ [], refl);
      all = sym (append-nil events);
    })
all_is_part u s _ _ _ _ _ (plays_next kind which m w place got h) =
    part_of_next kind which m (deliver_event m.receiver which ∷ []) place got ([], refl)
all_is_part u s _ _ _ _ _ (loses_next kind which m place got none) =
    part_of_next kind which m [] place got (deliver_event m.receiver which ∷ [], refl)

pub whole_is_part : (u : World) (s : ScriptView) (line : Line) (events : List EventOrStop) (w : World) (t : ScriptView) (closed : Option ℕ)
    → IsPlayed u s line events w t closed → IsPartOfLine u s line events
whole_is_part u s _ _ _ _ _ (plays_whole line events w t closed whole) = part_of_whole line events (all_is_part u s line events w t closed whole)
whole_is_part u s _ _ _ _ _ (plays_restart line node e delivered w t closed stop run close) =
    part_of_restart line node e delivered (stop_and_open node e) stop ([], refl)
