-- What is under way after the lines of a script; and after `settle` every request is answered.
use Rattle.std.proofs.Common.{◌≡◌, ◌≢◌, ◌⊎◌, inl, inr, ℕ, zero, suc, ◌+◌, ◌<◌, ◌≤◌, List, [], ◌∷◌, ◌++◌, length, refl, sym, ap, subst, ◌∙◌, arith, true, false}
use Rattle.std.proofs.Common.{append_assoc, append-nil}
use Rattle.std.specs.Prelude.{Bool, Option, Some, None, ◌||◌, codes}
use Rattle.std.specs.List.{AllByRecursion, slice_get}
use Rattle.std.proofs.lemmas.List.{length_push, same_from_push}
use Rattle.base_model.specs.Identities.{RequestId}
use Rattle.node_model.specs.Letters.{Letter}
use Rattle.node_model.specs.Requests.{Request}
use Rattle.node_model.specs.World.{World, Event, deliver_event, moment_event, Happens, Run, stands}
use Rattle.node_model.specs.Schedule.{openings}
use Rattle.node_model.proofs.Schedules.{run_then}
use Rattle.node_replay.specs.Restarts.{EventOrStop, whole_event, RunWithStops}
use Rattle.restart_laws.specs.Calls.{wholes}
use Rattle.restart_laws.proofs.ReachedCalls.{run_whole}
use Rattle.node_progress.specs.Completion.{AreAnswered}
use Rattle.node_progress.specs.Firsts.{IsFirst}
use Rattle.node_progress.specs.UnderWay.{IsUnderWay}
use Rattle.node_progress.proofs.AnsweredSince.{are_answered_since, lives_since, since_bag}
use Rattle.node_laws.proofs.Facts.{IsOfRequest}
use Rattle.node_progress.proofs.BagRuns.{BagIn, first_bag}
use Rattle.node_progress.proofs.NoneMissed.{first_none_missed, stops_more}
use Rattle.node_progress.proofs.Places.{same_place}
use Rattle.node_progress.proofs.Firsts.{first_true, first_rests, first_shards}
use Rattle.node_progress.proofs.Lives.{TakenSince, taken_since}
use Rattle.node_progress.proofs.Progress.{bag_under_way}
use Rattle.node_progress.proofs.Answered.{are_answered}
use Rattle.node_progress.proofs.Rounds.{openings_deliver_none}
use Rattle.driver_steps.specs.Restarts.{stop_and_open}
use Rattle.script_lines.specs.Lines.{Line, settle_line, Says, says_client, says_deliver, says_moment, says_settle, says_except, says_next, says_restart, says_kept, says_lost}
use Rattle.sim_driver.specs.Plays.{client_events, events_on, SettlesBut, but_none, but_passed, but_next, but_lost, IsPlayed, plays_restart, plays_whole}
use Rattle.sim_driver.specs.Plays.{IsPlayedWhole, plays_client, closes, plays_deliver, plays_moment, plays_settle, plays_next, loses_next}
use Rattle.sim_driver.specs.Plays.{StopsNode, stops_between, stops_kept, stops_lost, stops_unkept}
use Rattle.sim_driver.specs.Scripts.{ScriptView, is_delivered, marked, new_script, printed, with_delivered}
use Rattle.sim_driver.specs.Simulations.{Plays, plays_none, plays_more, AllPlayed, AreAnsweredAfterRestarts, EndInRestart, EndInSettle, HaveNoRestart, IsRestart, router_count}
use Rattle.sim_driver.specs.Undelivered.{IsUndelivered}
use Rattle.sim_driver.proofs.LineBags.{left_of, marked_here, marked_stays, others_bag, whole_bag}
use Rattle.sim_driver.proofs.Plays.{played_run, plays_marks, plays_run, whole_run}

abbrev first_byte : List ℕ → ℕ
first_byte [] = 0
first_byte (b ∷ bytes) = b

-- LINES IN WHICH NO NODE STOPS

-- a line that starts a node again says so
stop_says : (u : World) (s : ScriptView) (line : Line) (node : ℕ) (e : EventOrStop) (ds : List Bool) (bytes : List ℕ) → StopsNode u s line node e ds
    → Says bytes line → IsRestart bytes
stop_says u s _ _ _ _ _ (stops_between node) (says_restart word _ number) = (word, refl)
stop_says u s _ _ _ _ _ (stops_kept node k which place) (says_kept a b _ _ first second) = (a ++ 32 ∷ (codes "kept" ++ 32 ∷ b), refl)
stop_says u s _ _ _ _ _ (stops_unkept node k which place) (says_kept a b _ _ first second) = (a ++ 32 ∷ (codes "kept" ++ 32 ∷ b), refl)
stop_says u s _ _ _ _ _ (stops_lost node k which place) (says_lost a b _ _ first second) = (a ++ 32 ∷ (codes "lost" ++ 32 ∷ b), refl)

none_before : (lines : List (List ℕ)) (bytes : List ℕ) → HaveNoRestart (lines ++ bytes ∷ []) → HaveNoRestart lines × (¬ IsRestart bytes)
none_before [] bytes none = (tt, none.0)
none_before (l ∷ lines) bytes none = let r = none_before lines bytes none.1 in ((none.0, r.0), r.1)

-- where no step was missed in all lines, none was in those before the last one, nor in the last one
none_until : (first u w : World) (before events : List EventOrStop) → RunWithStops first before u → RunWithStops u events w → w.missed ≡ first.missed
    → u.missed ≡ first.missed
none_until first u w before events run more none = first_none_missed first u w (stops_more first u before run) (stops_more u w events more) none

-- these lines were played by events, and no message was lost by a stop
record PlaysWhole (first : World) (events : List EventOrStop) (w : World) (s : ScriptView) : Type 0 where
  whole : List Event
  run : Run first whole w
  bag : BagIn (left_of (λ id. ⊥) s.delivered) w

plays_whole_lines : (first_router : ℕ) (first : World) → IsFirst first → (lines : List (List ℕ)) (events : List EventOrStop) (w : World) (s : ScriptView)
    (out : List ℕ) → Plays first_router first lines events w s out → HaveNoRestart lines → w.missed ≡ first.missed → PlaysWhole first events w s
plays_whole_lines first_router first begins _ _ _ _ _ (plays_none w run) none kept = record {
  whole = openings 0 (length first.nodes);
  run = run;
  bag = others_bag (λ id. ⊥) first [] (openings 0 (length first.nodes)) w (openings_deliver_none 0 (length first.nodes))
      (record {
        true_there = first_true first begins;
        bag = first_bag (IsUndelivered []) first (first_rests first begins) (first_shards first begins) (λ n. refl);
      }) run kept;
}
plays_whole_lines first_router first begins _ _ _ _ _ (plays_more lines before _ u w s t out bytes line closed given played says
    (plays_whole _ events _ _ _ is) gives) none kept =
    let until = none_until first u w before (wholes events) (plays_run first_router first lines before u s out played)
    (run_whole u w events (whole_run u s line events w t closed is)) kept in
    let p = plays_whole_lines first_router first begins lines before u s out played (none_before lines bytes none).0 until in
    record {
      whole = p.whole ++ events;
      run = run_then first p.whole u events w p.run (whole_run u s line events w t closed is);
      bag = whole_bag (λ id. ⊥) u s line events w t closed is (kept ∙ sym until) p.bag;
    }
plays_whole_lines first_router first begins _ _ _ _ _ (plays_more lines before _ u w s _ out bytes line closed given played says
    (plays_restart _ node e delivered _ t _ stop run close) gives) none kept =
    absurd ((none_before lines bytes none).1 (stop_says u s line node e delivered bytes stop says))

plays_since : (first : World) → IsFirst first → (events : List EventOrStop) (w : World) (s : ScriptView) → PlaysWhole first events w s → TakenSince first w
plays_since first begins events w s p = taken_since first (first_true first begins) p.whole w p.run

-- after the lines of a script in which no node stops all that open requests wait for is under way
pub scripts_are_under_way : (first_router : ℕ) (first : World) (lines : List (List ℕ)) (events : List EventOrStop) (w : World) (s : ScriptView) (out : List ℕ)
    → IsFirst first → HaveNoRestart lines → Plays first_router first lines events w s out → w.missed ≡ first.missed
    → IsUnderWay first (IsUndelivered s.delivered) w
scripts_are_under_way first_router first lines events w s out begins none plays kept =
    let p = plays_whole_lines first_router first begins lines events w s out plays none kept in
    bag_under_way (IsUndelivered s.delivered) w p.bag.true_there.0.book p.bag.true_there.0.good p.bag.bag first (plays_since first begins events w s p)

-- SINCE A NODE WAS STARTED AGAIN

-- Lines were played, the last of which starts a node again, if one does, and then others: what was asked for since and is not answered is under way.
record PlaysSince (first_router : ℕ) (first : World) (lines : List (List ℕ)) (events : List EventOrStop) (w : World) (s : ScriptView) : Type 0 where
  before : List (List ℕ)
  after : List (List ℕ)
  all : lines ≡ before ++ after
  last : (before ≡ []) ⊎ EndInRestart before
  none_after : HaveNoRestart after
  early : List EventOrStop
  late : List Event
  restarted : World
  script : ScriptView
  out : List ℕ
  parts : events ≡ early ++ wholes late
  played : Plays first_router first before early restarted script out
  none_missed : restarted.missed ≡ first.missed
  then : Run restarted late w
  bag : BagIn (left_of (IsOfRequest restarted.asked) s.delivered) w

past_marks : (ds : List Bool) (n : ℕ) → length ds ≤ n → is_delivered ds n ≡ false
past_marks [] n le = refl
past_marks (d ∷ ds) zero le = absurd (omega (arith, le))
past_marks (d ∷ ds) (suc n) le = past_marks ds n (omega (arith, le))

-- from here on
since_here : (first_router : ℕ) (first : World) → IsFirst first → (lines : List (List ℕ)) (events : List EventOrStop) (w : World) (s : ScriptView)
    (out : List ℕ)
    → Plays first_router first lines events w s out → (lines ≡ []) ⊎ EndInRestart lines → w.missed ≡ first.missed
    → PlaysSince first_router first lines events w s
since_here first_router first begins lines events w s out plays last none =
    let most = plays_marks first_router first lines events w s out plays in
    record {
      before = lines;
      after = [];
      all = sym (append-nil lines);
      last = last;
      none_after = tt;
      early = events;
      late = [];
      restarted = w;
      script = s;
      out = out;
      parts = sym (append-nil events);
      played = plays;
      none_missed = none;
      then = stands w;
      bag = since_bag first events w begins (plays_run first_router first lines events w s out plays) none (IsUndelivered s.delivered)
          (λ n le. past_marks s.delivered n (omega (arith, most, le)));
    }

wholes_append : (es more : List Event) → wholes (es ++ more) ≡ wholes es ++ wholes more
wholes_append [] more = refl
wholes_append (e ∷ es) more = ap (λ (l : List EventOrStop). whole_event e ∷ l) (wholes_append es more)

none_then : (lines : List (List ℕ)) (bytes : List ℕ) → HaveNoRestart lines → (¬ IsRestart bytes) → HaveNoRestart (lines ++ bytes ∷ [])
none_then [] bytes none is = (is, tt)
none_then (l ∷ lines) bytes none is = (none.0, none_then lines bytes none.1 is)

-- a line in which no node stops does not say that one is started again
whole_says : (u : World) (s : ScriptView) (line : Line) (events : List Event) (w : World) (t : ScriptView) (closed : Option ℕ) (bytes : List ℕ)
    → IsPlayedWhole u s line events w t closed → Says bytes line → ¬ IsRestart bytes
whole_says u s _ _ _ _ _ _ (plays_client router link b left requests w there frames run) (says_client x y _ _ number hex) (rest, is) =
    let other : 99 ≡ 114 = ap first_byte is in absurd (omega (arith, other))
whole_says u s _ _ _ _ _ _ (closes router link b left requests fault w there frames run) (says_client x y _ _ number hex) (rest, is) =
    let other : 99 ≡ 114 = ap first_byte is in absurd (omega (arith, other))
whole_says u s _ _ _ _ _ _ (plays_deliver node k which w place h) (says_deliver words _ _ numbers) (rest, is) =
    let other : 100 ≡ 114 = ap first_byte is in absurd (omega (arith, other))
whole_says u s _ _ _ _ _ _ (plays_moment node moment w h) (says_moment words _ _ numbers) (rest, is) =
    let other : 109 ≡ 114 = ap first_byte is in absurd (omega (arith, other))
whole_says u s _ _ _ _ _ _ (plays_settle except events w delivered settles) says_settle (rest, is) =
    let other : 115 ≡ 114 = ap first_byte is in absurd (omega (arith, other))
whole_says u s _ _ _ _ _ _ (plays_settle except events w delivered settles) (says_except kind known) (rest, is) =
    let other : 115 ≡ 114 = ap first_byte is in absurd (omega (arith, other))
whole_says u s _ _ _ _ _ _ (plays_next kind which m w place got h) (says_next _ known) (rest, is) =
    let other : 110 ≡ 114 = ap first_byte is in absurd (omega (arith, other))
whole_says u s _ _ _ _ _ _ (loses_next kind which m place got none) (says_next _ known) (rest, is) =
    let other : 110 ≡ 114 = ap first_byte is in absurd (omega (arith, other))

plays_since_restart : (first_router : ℕ) (first : World) → IsFirst first → (lines : List (List ℕ)) (events : List EventOrStop) (w : World) (s : ScriptView)
    (out : List ℕ) → Plays first_router first lines events w s out → w.missed ≡ first.missed → PlaysSince first_router first lines events w s
plays_since_restart first_router first begins _ _ _ _ _ (plays_none w run) none =
    since_here first_router first begins [] (wholes (openings 0 (length first.nodes))) w (new_script first_router (router_count first_router first)) []
    (plays_none w run) (inl refl) none
plays_since_restart first_router first begins _ _ _ _ _ (plays_more lines before _ u w s t out bytes line closed given played says
    (plays_whole _ events _ _ _ is) gives) none =
    let until = none_until first u w before (wholes events) (plays_run first_router first lines before u s out played)
    (run_whole u w events (whole_run u s line events w t closed is)) none in
    let p = plays_since_restart first_router first begins lines before u s out played until in
    record {
      before = p.before;
      after = p.after ++ bytes ∷ [];
      all = ap (λ (l : List (List ℕ)). l ++ bytes ∷ []) p.all ∙ append_assoc p.before p.after (bytes ∷ []);
      last = p.last;
      none_after = none_then p.after bytes p.none_after (whole_says u s line events w t closed bytes is says);
      early = p.early;
      late = p.late ++ events;
      restarted = p.restarted;
      script = p.script;
      out = p.out;
      parts = ap (λ (l : List EventOrStop). l ++ wholes events) p.parts ∙ (append_assoc p.early (wholes p.late) (wholes events)
          ∙ ap (λ (l : List EventOrStop). p.early ++ l) (sym (wholes_append p.late events)));
      played = p.played;
      none_missed = p.none_missed;
      then = run_then p.restarted p.late u events w p.then (whole_run u s line events w t closed is);
      bag = whole_bag (IsOfRequest p.restarted.asked) u s line events w t closed is (none ∙ sym until) p.bag;
    }
plays_since_restart first_router first begins _ _ _ _ _ (plays_more lines before _ u w s _ out bytes line closed given played says
    (plays_restart _ node e delivered _ t _ stop run close) gives) none =
    since_here first_router first begins (lines ++ bytes ∷ []) (before ++ stop_and_open node e) w (with_delivered t delivered)
    (out ++ printed s.links given closed)
    (plays_more lines before (stop_and_open node e) u w s (with_delivered t delivered) out bytes line closed given played says
    (plays_restart line node e delivered w t closed stop run close) gives)
    (inr (lines, bytes, refl, stop_says u s line node e delivered bytes stop says)) none

-- SETTLE

passed_delivered : (b : Bool) → (b || false) ≡ true → b ≡ true
passed_delivered true is = refl
passed_delivered false is = absurd (cc is)

but_stays : (except : Option (List ℕ)) (u : World) (ds : List Bool) (next : ℕ) (events : List Event) (w : World) (es : List Bool) (later n : ℕ)
    → SettlesBut except u ds next events w es later → is_delivered ds n ≡ true → is_delivered es n ≡ true
but_stays except _ _ _ _ _ _ _ n (but_none w ds next) is = is
but_stays except _ _ _ _ _ _ _ n (but_passed u w ds es next later m events got old more) is = but_stays except u ds (next + 1) events w es later n more is
but_stays except _ _ _ _ _ _ _ n (but_next u v w ds es next later m events got new h more) is =
    but_stays except v (marked next ds) (next + 1) events w es later n more (marked_stays next n ds is)
but_stays except _ _ _ _ _ _ _ n (but_lost u w ds es next later m events got new none more) is =
    but_stays except u (marked next ds) (next + 1) events w es later n more (marked_stays next n ds is)

-- each message from one place to another is delivered
settled_between : (u : World) (ds : List Bool) (next : ℕ) (events : List Event) (w : World) (es : List Bool) (later n : ℕ)
    → SettlesBut None u ds next events w es later → next ≤ n → n < later → is_delivered es n ≡ true
settled_between _ _ _ _ _ _ _ n (but_none w ds next) from below = absurd (omega (arith, from, below))
settled_between _ _ _ _ _ _ _ n (but_passed u w ds es next later m events got old more) from below =
    by_place (same_place n next) (but_stays None u ds (next + 1) events w es later n more)
    (λ less. settled_between u ds (next + 1) events w es later n more less below)
  where
    by_place : (n ≡ next) ⊎ (n ≢ next) → (is_delivered ds n ≡ true → is_delivered es n ≡ true) → (next + 1 ≤ n → is_delivered es n ≡ true)
        → is_delivered es n ≡ true
    by_place (inl same) stays later_on = stays (ap (λ k. is_delivered ds k) same ∙ passed_delivered (is_delivered ds next) old)
    by_place (inr other) stays later_on = later_on (omega (arith, from, other))
settled_between _ _ _ _ _ _ _ n (but_next u v w ds es next later m events got new h more) from below =
    by_place (same_place n next) (but_stays None v (marked next ds) (next + 1) events w es later n more)
    (λ less. settled_between v (marked next ds) (next + 1) events w es later n more less below)
  where
    by_place : (n ≡ next) ⊎ (n ≢ next) → (is_delivered (marked next ds) n ≡ true → is_delivered es n ≡ true) → (next + 1 ≤ n → is_delivered es n ≡ true)
        → is_delivered es n ≡ true
    by_place (inl same) stays later_on = stays (ap (λ k. is_delivered (marked next ds) k) same ∙ marked_here next ds)
    by_place (inr other) stays later_on = later_on (omega (arith, from, other))
settled_between _ _ _ _ _ _ _ n (but_lost u w ds es next later m events got new none more) from below =
    by_place (same_place n next) (but_stays None u (marked next ds) (next + 1) events w es later n more)
    (λ less. settled_between u (marked next ds) (next + 1) events w es later n more less below)
  where
    by_place : (n ≡ next) ⊎ (n ≢ next) → (is_delivered (marked next ds) n ≡ true → is_delivered es n ≡ true) → (next + 1 ≤ n → is_delivered es n ≡ true)
        → is_delivered es n ≡ true
    by_place (inl same) stays later_on = stays (ap (λ k. is_delivered (marked next ds) k) same ∙ marked_here next ds)
    by_place (inr other) stays later_on = later_on (omega (arith, from, other))

settled_all : (u : World) (ds : List Bool) (events : List Event) (w : World) (es : List Bool) → SettlesBut None u ds 0 events w es (length w.sent)
    → (n : ℕ) → n < length w.sent → IsUndelivered es n → ⊥
settled_all u ds events w es settles n below left =
    let done = settled_between u ds 0 events w es (length w.sent) n settles (omega arith) below in cc (done, left)

-- the last line was `settle`: these were the messages that were left
settle_was : (u : World) (s : ScriptView) (line : Line) (events : List EventOrStop) (w : World) (t : ScriptView) (closed : Option ℕ)
    → line ≡ settle_line None → IsPlayed u s line events w t closed → (n : ℕ) → n < length w.sent → IsUndelivered t.delivered n → ⊥
settle_was u s _ _ _ _ _ is (plays_whole _ _ _ _ _ (plays_client router link bytes left requests w there frames run)) = absurd (cc is)
settle_was u s _ _ _ _ _ is (plays_whole _ _ _ _ _ (closes router link bytes left requests fault w there frames run)) = absurd (cc is)
settle_was u s _ _ _ _ _ is (plays_whole _ _ _ _ _ (plays_deliver node k which w place h)) = absurd (cc is)
settle_was u s _ _ _ _ _ is (plays_whole _ _ _ _ _ (plays_moment node moment w h)) = absurd (cc is)
settle_was u s _ _ _ _ _ is (plays_whole _ _ _ _ _ (plays_settle None events w delivered settles)) = settled_all u s.delivered events w delivered settles
settle_was u s _ _ _ _ _ is (plays_whole _ _ _ _ _ (plays_settle (Some kind) events w delivered settles)) = absurd (cc is)
settle_was u s _ _ _ _ _ is (plays_whole _ _ _ _ _ (plays_next kind which m w place got h)) = absurd (cc is)
settle_was u s _ _ _ _ _ is (plays_whole _ _ _ _ _ (loses_next kind which m place got none)) = absurd (cc is)
settle_was u s _ _ _ _ _ is (plays_restart _ _ _ _ _ _ _ (stops_between node) run close) = absurd (cc is)
settle_was u s _ _ _ _ _ is (plays_restart _ _ _ _ _ _ _ (stops_kept node k which place) run close) = absurd (cc is)
settle_was u s _ _ _ _ _ is (plays_restart _ _ _ _ _ _ _ (stops_unkept node k which place) run close) = absurd (cc is)
settle_was u s _ _ _ _ _ is (plays_restart _ _ _ _ _ _ _ (stops_lost node k which place) run close) = absurd (cc is)

settles_alone : (bytes : List ℕ) (line : Line) → Says bytes line → bytes ≡ codes "settle" → line ≡ settle_line None
settles_alone _ _ (says_client a b router bytes number hex) is = absurd (cc is)
settles_alone _ _ (says_deliver words node k numbers) is = absurd (cc is)
settles_alone _ _ (says_moment words node moment numbers) is = absurd (cc is)
settles_alone _ _ says_settle is = refl
settles_alone _ _ (says_except kind known) is = absurd (cc is)
settles_alone _ _ (says_next kind known) is = let other : 110 ≡ 115 = ap first_byte is in absurd (omega (arith, other))
settles_alone _ _ (says_restart word node number) is = let other : 114 ≡ 115 = ap first_byte is in absurd (omega (arith, other))
settles_alone _ _ (says_kept a b node k first second) is = let other : 114 ≡ 115 = ap first_byte is in absurd (omega (arith, other))
settles_alone _ _ (says_lost a b node k first second) is = let other : 114 ≡ 115 = ap first_byte is in absurd (omega (arith, other))

-- where the last line is `settle` no message is left
last_settles : (first_router : ℕ) (first : World) (lines : List (List ℕ)) (events : List EventOrStop) (w : World) (s : ScriptView) (out : List ℕ)
    → Plays first_router first lines events w s out → EndInSettle lines → (n : ℕ) → n < length w.sent → IsUndelivered s.delivered n → ⊥
last_settles first_router first _ _ _ _ _ (plays_none w run) (before, is) =
    absurd (omega (arith, length_push before (codes "settle"), ap (λ (l : List (List ℕ)). length l) is))
last_settles first_router first _ _ _ _ _ (plays_more lines earlier events u w s t out bytes line closed given played says is_played gives) (before, is) =
    settle_was u s line events w t closed (settles_alone bytes line says (same_from_push lines before bytes (codes "settle") is).1) is_played

-- no node stops in a line `settle`
settle_whole : (u : World) (s : ScriptView) (line : Line) (events : List EventOrStop) (w : World) (t : ScriptView) (closed : Option ℕ)
    → line ≡ settle_line None → IsPlayed u s line events w t closed → (whole : List Event) × IsPlayedWhole u s line whole w t closed
settle_whole u s _ _ _ _ _ is (plays_whole line events w t closed whole) = (events, whole)
settle_whole u s _ _ _ _ _ is (plays_restart _ _ _ _ _ _ _ (stops_between node) run close) = absurd (cc is)
settle_whole u s _ _ _ _ _ is (plays_restart _ _ _ _ _ _ _ (stops_kept node k which place) run close) = absurd (cc is)
settle_whole u s _ _ _ _ _ is (plays_restart _ _ _ _ _ _ _ (stops_unkept node k which place) run close) = absurd (cc is)
settle_whole u s _ _ _ _ _ is (plays_restart _ _ _ _ _ _ _ (stops_lost node k which place) run close) = absurd (cc is)

pub settled_scripts_are_answered : (first_router : ℕ) (first : World) (lines : List (List ℕ)) (before events : List EventOrStop) (u w : World)
    (s t : ScriptView) (out : List ℕ) (closed : Option ℕ) → IsFirst first → HaveNoRestart lines → Plays first_router first lines before u s out
    → IsPlayed u s (settle_line None) events w t closed → w.missed ≡ first.missed → AreAnswered first w
settled_scripts_are_answered first_router first lines before events u w s t out closed begins none plays settles kept =
    let until = none_until first u w before events (plays_run first_router first lines before u s out plays)
    (played_run u s (settle_line None) events w t closed settles) kept in
    let p = plays_whole_lines first_router first begins lines before u s out plays none until in
    let e = settle_whole u s (settle_line None) events w t closed refl settles in
    let b = whole_bag (λ id. ⊥) u s (settle_line None) e.0 w t closed e.1 (kept ∙ sym until) p.bag in
    are_answered first (IsUndelivered t.delivered) w b.true_there b.bag
    (taken_since first (first_true first begins) (p.whole ++ e.0) w
    (run_then first p.whole u e.0 w p.run (whole_run u s (settle_line None) e.0 w t closed e.1)))
    (settle_was u s (settle_line None) events w t closed refl settles)

-- where the last line of a script is `settle`, every request is answered
pub ends_answered : (first_router : ℕ) (first : World) → IsFirst first → (lines : List (List ℕ)) (events : List EventOrStop) (w : World) (s : ScriptView)
    (out : List ℕ) → Plays first_router first lines events w s out → EndInSettle lines → HaveNoRestart lines → w.missed ≡ first.missed
    → AreAnswered first w
ends_answered first_router first begins _ _ _ _ _ (plays_none w run) (before, is) none kept =
    absurd (omega (arith, length_push before (codes "settle"), ap (λ (l : List (List ℕ)). length l) is))
ends_answered first_router first begins _ _ _ _ _ (plays_more lines earlier events u w s t out bytes line closed given played says is_played gives)
    (before, is) none kept =
    let settle : line ≡ settle_line None = settles_alone bytes line says (same_from_push lines before bytes (codes "settle") is).1 in
    settled_scripts_are_answered first_router first lines earlier events u w s t out closed begins (none_before lines bytes none).0 played
    (subst (λ l. IsPlayed u s l events w t closed) settle is_played) kept

-- and where nodes stop, those that came since the last stop
pub restarted_scripts_are_answered : (first_router : ℕ) (first : World) (lines : List (List ℕ)) (events : List EventOrStop) (w : World) (s : ScriptView)
    (out : List ℕ) → IsFirst first → Plays first_router first lines events w s out → EndInSettle lines → w.missed ≡ first.missed
    → AreAnsweredAfterRestarts first_router first lines events w
restarted_scripts_are_answered first_router first lines events w s out begins plays ends none =
    let p = plays_since_restart first_router first begins lines events w s out plays none in
    let good = (since_bag first p.early p.restarted begins (plays_run first_router first p.before p.early p.restarted p.script p.out p.played) p.none_missed
    (λ n. Unit {0}) (λ n le. tt)).true_there in
    record {
      before = p.before;
      after = p.after;
      all = p.all;
      last = p.last;
      none_after = p.none_after;
      early = p.early;
      late = wholes p.late;
      restarted = p.restarted;
      script = p.script;
      out = p.out;
      parts = p.parts;
      played = p.played;
      then = run_whole p.restarted w p.late p.then;
      answered = are_answered_since p.restarted w (IsUndelivered s.delivered) p.bag.true_there p.bag.bag (lives_since p.restarted p.late w good p.then)
          (last_settles first_router first lines events w s out plays ends);
    }

-- both, of all lines that were played
unfoldable pub all_played : (first_router : ℕ) (first : World) → IsFirst first → (lines : List (List ℕ)) (events : List EventOrStop) (w : World)
    (s : ScriptView)
    (out : List ℕ) → Plays first_router first lines events w s out → AllPlayed first_router first lines out w
all_played first_router first begins lines events w s out plays = record {
  events = events;
  script = s;
  played = plays;
  answered = λ ends none kept. ends_answered first_router first begins lines events w s out plays ends none kept;
  answered_after = λ ends kept. restarted_scripts_are_answered first_router first lines events w s out begins plays ends kept;
}
