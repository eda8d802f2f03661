-- A line is played.
use Rattle.std.proofs.Common.{◌≡◌, ◌⊎◌, inl, inr, ℕ, zero, suc, ◌+◌, ◌<◌, Bool, IsTrue, true, false, List, [], ◌∷◌, ◌++◌, length, refl, sym, ap, subst, ◌∙◌, arith}
use Rattle.std.proofs.lemmas.Result.{err_from_is_err_and}
use Rattle.std.specs.Prelude.{Err, IfErr, IfOk, IsErrAnd, Ok, Option, Result, Some, None}
use Rattle.outside.specs.Logs.{LogFacts}
use Rattle.outside.specs.Notes.{Note}
use Rattle.opmsg_frames.specs.Outline.{FrameFault}
use Rattle.opmsg_frames.specs.Frames.{FramesFrom}
use Rattle.std.specs.List.{slice_get, slice_set}
use Rattle.node_model.specs.Letters.{Letter}
use Rattle.node_model.specs.States.{NodeState}
use Rattle.node_model.specs.World.{World, Event, deliver_event, moment_event, Happens, Run, stands, goes}
use Rattle.node_traits.specs.declared.outputs.ToLink.{ToLink}
use Rattle.driver_steps.specs.declared.seat.Seat.{Seat}
use Rattle.driver_steps.specs.Crashes.{Since, with_notes}
use Rattle.driver_steps.specs.Seats.{Hosted, AreDurable, SeatView, notes_of, seat_since}
use Rattle.driver_steps.specs.Together.{hosted}
use Rattle.driver_steps.specs.Worlds.{NetworkView}
use Rattle.driver_steps.specs.Moves.{BeginWith, DeliversOrLoses, HasHappened}
use Rattle.script_lines.specs.Lines.{Line, Says, client_line, deliver_line, moment_line, settle_line, next_line}
use Rattle.sim_driver.specs.Moves.{HasAsked, HasFault, HasDeliveredOne, HasSettledBut, AreStill, IsCut, IsFirstAsked, IsPartOfDelivery}
use Rattle.pipe_driver.proofs.Covers.{note_stands, now_noted}
use Rattle.pipe_driver.specs.declared.status.Status.{Status}
use Rattle.pipe_driver.specs.declared.status.Status.TheVariants as statuses
use Rattle.sim_driver.specs.LineOutcomes.{HasPlayed, HasPlayedWhole, HasPlayedBytes, IsOfLine, StopsWhole, stops_unplayed, stops_at_disk, stops_at_memory}
use Rattle.sim_driver.specs.LineOutcomes.{StopsLine, line_unplayed, line_at_disk, line_at_memory}
use Rattle.sim_driver.specs.LineOutcomes.{IsPartOfBytes, part_unread, part_read, names_nothing, StopsBytes, bytes_refused, bytes_at_disk, bytes_at_memory}
use Rattle.sim_driver.specs.Links.{LinkView}
use Rattle.sim_driver.specs.Plays.{IsPartOfLine, part_of_whole, plays_whole}
use Rattle.sim_driver.specs.Plays.{IsPlayedWhole, plays_client, closes, plays_deliver, plays_moment, plays_settle, plays_next, loses_next, events_on}
use Rattle.sim_driver.specs.Plays.{IsPartOfWhole, part_of_client, part_of_deliver, part_of_next}
use Rattle.sim_driver.specs.Scripts.{ScriptView, marked, next_from, place_from, with_closed, with_delivered, with_link}
use Rattle.sim_driver.proofs.Deliveries.{but_run}
use Rattle.restart_laws.specs.Calls.{wholes}
use Rattle.restart_laws.proofs.ReachedCalls.{run_whole}
use Rattle.sim_driver.proofs.Faults.{cut_here, cut_in, cut_in_as, cut_in_here, still}
use Rattle.sim_driver.proofs.Places.{place_at}
use Rattle.sim_driver.proofs.Plays.{client_is_part}

-- a disk failed or memory ended
pub is_of_line : (status : Status) → (status ≡ statuses.DiskFailed) ⊎ (status ≡ statuses.OutOfMemory) → IsOfLine status
is_of_line status either = inr either

pub stops_either : {S : Type 0} (view : S → SeatView) (hosts : Hosted S) (w : World) (line : Line) (old : ScriptView) (status : Status)
    → (status ≡ statuses.DiskFailed) ⊎ (status ≡ statuses.OutOfMemory) → IsCut view hosts w (IsPartOfWhole w old line) status
    → StopsWhole view hosts w line old status
stops_either view hosts w line old status (inl is) cut =
    subst (λ (n : Status). StopsWhole view hosts w line old n) (sym is)
    (stops_at_disk (subst (λ (n : Status). IsCut view hosts w (IsPartOfWhole w old line) n) is cut))
stops_either view hosts w line old status (inr is) cut =
    subst (λ (n : Status). StopsWhole view hosts w line old n) (sym is)
    (stops_at_memory (subst (λ (n : Status). IsCut view hosts w (IsPartOfWhole w old line) n) is cut))

-- REQUESTS

module _ {S : Type 0} (view : S → SeatView) (hosts : Hosted S) (network : NetworkView) (handed : List ToLink) (w : World) (s : ScriptView)
    (router : ℕ) (link : LinkView) (here : slice_get s.links router ≡ Some link) (bytes left : List ℕ) (replied : ℕ) where
  pub client_played : HasAsked view hosts network handed w (s.first_router + router) link.number link.replied (link.left ++ bytes) left replied false
      → HasPlayedWhole view hosts network handed w (client_line router bytes) s
      (with_link s router (record { number = link.number; left = left; replied = replied; is_open = true })) None
  client_played a = by_fault a.fault a.frames a.ends
    where
      by_fault : (fault : Option (FrameFault × ℕ)) → FramesFrom 0 (link.left ++ bytes) a.requests left fault → HasFault fault false
          → HasPlayedWhole view hosts network handed w (client_line router bytes) s
          (with_link s router (record { number = link.number; left = left; replied = replied; is_open = true })) None
      by_fault (Some fault) frames e = absurd (cc e)
      by_fault None frames e = record {
        events = events_on s.first_router router link a.requests;
        end = a.end;
        run = a.run;
        played = subst (λ (n : ℕ). IsPlayedWhole w s (client_line router bytes) (events_on s.first_router router link a.requests) a.end
            (with_link s router (record { number = link.number; left = left; replied = n; is_open = true })) None) (sym a.count)
            (plays_client router link bytes left a.requests a.end here frames a.run);
        stands = a.stands;
      }

  pub client_closed : HasAsked view hosts network handed w (s.first_router + router) link.number link.replied (link.left ++ bytes) left replied true
      → HasPlayedWhole view hosts network handed w (client_line router bytes) s (with_closed s router) (Some router)
  client_closed a = by_fault a.fault a.frames a.ends
    where
      by_fault : (fault : Option (FrameFault × ℕ)) → FramesFrom 0 (link.left ++ bytes) a.requests left fault → HasFault fault true
          → HasPlayedWhole view hosts network handed w (client_line router bytes) s (with_closed s router) (Some router)
      by_fault None frames e = absurd (cc e)
      by_fault (Some fault) frames e = record {
        events = events_on s.first_router router link a.requests;
        end = a.end;
        run = a.run;
        played = closes router link bytes left a.requests fault a.end here frames a.run;
        stands = a.stands;
      }

  -- a link can't be numbered any more
  pub client_full : HasAsked view hosts network handed w (s.first_router + router) link.number link.replied (link.left ++ bytes) left replied true
      → IsCut view hosts w (IsPartOfWhole w s (client_line router bytes)) statuses.OutOfMemory
  client_full a =
      cut_here view hosts w (events_on s.first_router router link a.requests) a.end (IsPartOfWhole w s (client_line router bytes)) statuses.OutOfMemory a.run
      (client_is_part w s router link bytes left a.requests a.fault here a.frames)
      (still view hosts network handed a.end a.stands)

pub client_part : (w : World) (s : ScriptView) (router : ℕ) (link : LinkView) (bytes : List ℕ) → slice_get s.links router ≡ Some link
    → (events : List Event) → IsFirstAsked (s.first_router + router) link.number link.replied (link.left ++ bytes) events
    → IsPartOfWhole w s (client_line router bytes) events
client_part w s router link bytes here events f = part_of_client router link bytes f.consumed f.rest f.requests events here f.all f.asked f.first

-- what the script has, said otherwise
pub played_to : {S : Type 0} (view : S → SeatView) (hosts : Hosted S) (network : NetworkView) (handed : List ToLink) (w : World) (line : Line)
    (s t other : ScriptView) (closed : Option ℕ) → t ≡ other → HasPlayedWhole view hosts network handed w line s t closed
    → HasPlayedWhole view hosts network handed w line s other closed
played_to view hosts network handed w line s t other closed same h =
    subst (λ (x : ScriptView). HasPlayedWhole view hosts network handed w line s x closed) same h

-- a link to which bytes came
pub same_link : (old new : LinkView) → new.number ≡ old.number → new.is_open ≡ true
    → record { number = old.number; left = new.left; replied = new.replied; is_open = true } ≡ new
same_link old new number is_open =
    ap (λ (n : ℕ). record { number = n; left = new.left; replied = new.replied; is_open = true }) (sym number)
    ∙ ap (λ (b : Bool). record { number = new.number; left = new.left; replied = new.replied; is_open = b }) (sym is_open)

-- a link that is set twice
pub set_twice : {A : Type 0} (items : List A) (at : ℕ) (first last : A) → slice_set (slice_set items at first) at last ≡ slice_set items at last
set_twice [] at first last = refl
set_twice (a ∷ items) zero first last = refl
set_twice {A} (a ∷ items) (suc at) first last = ap (λ (l : List A). a ∷ l) (set_twice items at first last)

-- DELIVERIES

module _ {S : Type 0} (view : S → SeatView) (hosts : Hosted S) (network : NetworkView) (handed : List ToLink) (w : World) (s : ScriptView) where
  -- the message at the place of the k-th message to a node goes to that node
  pub goes_there : (node k which : ℕ) (m : Letter) → place_from 0 node k w.sent ≡ Some which → slice_get w.sent which ≡ Some m → m.receiver ≡ node
  goes_there node k which m place got =
      let there = place_at 0 node k w.sent which place in
      let same : which ≡ there.0 = omega (arith, there.1) in
      let both : Some there.2 ≡ Some m = sym there.3 ∙ (ap (λ (n : ℕ). slice_get w.sent n) (sym same) ∙ got) in
      let one : there.2 ≡ m = cc both in
      ap (λ (l : Letter). l.receiver) (sym one) ∙ there.4

  pub deliver_played : (node k which : ℕ) (ds : List Bool) → ds ≡ marked which s.delivered → place_from 0 node k w.sent ≡ Some which
      → node < length w.nodes → HasDeliveredOne view hosts network handed w which
      → HasPlayedWhole view hosts network handed w (deliver_line node k) s (with_delivered s ds) None
  deliver_played node k which ds noted place inside d = by_kind d.delivers
    where
      to : d.message.receiver ≡ node
      to = goes_there node k which d.message place d.got

      by_kind : DeliversOrLoses w which d.message.receiver d.end → HasPlayedWhole view hosts network handed w (deliver_line node k) s (with_delivered s ds) None
      by_kind (inl h) =
          let there : Happens w (deliver_event node which) d.end = subst (λ (n : ℕ). Happens w (deliver_event n which) d.end) to h in
          record {
            events = deliver_event node which ∷ [];
            end = d.end;
            run = goes w d.end d.end (deliver_event node which) [] there (stands d.end);
            played = subst (λ (l : List Bool). IsPlayedWhole w s (deliver_line node k) (deliver_event node which ∷ []) d.end (with_delivered s l) None)
                (sym noted) (plays_deliver node k which d.end place there);
            stands = d.stands;
          }
      by_kind (inr (same, none)) = absurd (omega (arith, none, to, inside))

  pub deliver_part : (node k which : ℕ) (events : List Event) → place_from 0 node k w.sent ≡ Some which → IsPartOfDelivery w which events
      → IsPartOfWhole w s (deliver_line node k) events
  deliver_part node k which events place p =
      part_of_deliver node k which events place
      (subst (λ (n : ℕ). BeginWith events (deliver_event n which ∷ [])) (goes_there node k which p.message place p.got) p.first)

  pub next_played : (kind : List ℕ) (which : ℕ) (ds : List Bool) → ds ≡ marked which s.delivered → next_from 0 kind s.delivered w.sent ≡ Some which
      → HasDeliveredOne view hosts network handed w which → HasPlayedWhole view hosts network handed w (next_line kind) s (with_delivered s ds) None
  next_played kind which ds noted place d = by_kind d.delivers
    where
      by_kind : DeliversOrLoses w which d.message.receiver d.end → HasPlayedWhole view hosts network handed w (next_line kind) s (with_delivered s ds) None
      by_kind (inl h) = record {
        events = deliver_event d.message.receiver which ∷ [];
        end = d.end;
        run = goes w d.end d.end (deliver_event d.message.receiver which) [] h (stands d.end);
        played = subst (λ (l : List Bool). IsPlayedWhole w s (next_line kind) (deliver_event d.message.receiver which ∷ []) d.end (with_delivered s l) None)
            (sym noted) (plays_next kind which d.message d.end place d.got h);
        stands = d.stands;
      }
      by_kind (inr (same, none)) = record {
        events = [];
        end = d.end;
        run = subst (λ (x : World). Run w [] x) (sym same) (stands w);
        played = subst (λ (x : World). IsPlayedWhole w s (next_line kind) [] x (with_delivered s ds) None) (sym same)
            (subst (λ (l : List Bool). IsPlayedWhole w s (next_line kind) [] w (with_delivered s l) None) (sym noted)
            (loses_next kind which d.message place d.got none));
        stands = d.stands;
      }

  pub next_part : (kind : List ℕ) (which : ℕ) (events : List Event) → next_from 0 kind s.delivered w.sent ≡ Some which → IsPartOfDelivery w which events
      → IsPartOfWhole w s (next_line kind) events
  next_part kind which events place p = part_of_next kind which p.message events place p.got p.first

  pub settle_played : (except : Option (List ℕ)) (ds : List Bool) → (h : HasSettledBut view hosts network handed w except s.delivered ds)
      → HasPlayedWhole view hosts network handed w (settle_line except) s (with_delivered s ds) None
  settle_played except ds h = record {
    events = h.events;
    end = h.end;
    run = but_run except w s.delivered 0 h.events h.end ds (length h.end.sent) h.settles;
    played = plays_settle except h.events h.end ds h.settles;
    stands = h.stands;
  }

  -- MOMENTS

  pub moment_played : (node moment : ℕ) → HasHappened view hosts network handed w 0 (moment_event node moment)
      → HasPlayedWhole view hosts network handed w (moment_line node moment) s s None
  moment_played node moment h = record {
    events = moment_event node moment ∷ [];
    end = h.end;
    run = goes w h.end h.end (moment_event node moment) [] h.happens (stands h.end);
    played = plays_moment node moment h.end h.happens;
    stands = h.stands;
  }

-- ANY LINE

-- a line in which no node stops
stops_line : {S : Type 0} (view : S → SeatView) (hosts : Hosted S) (w : World) (line : Line) (old : ScriptView) (status : Status)
    → StopsWhole view hosts w line old status → StopsLine view hosts w line old status
stops_line view hosts w line old _ (stops_unplayed names are) = line_unplayed names are
stops_line view hosts w line old _ (stops_at_disk c) =
    line_at_disk (cut_in view hosts w (IsPartOfWhole w old line) (IsPartOfLine w old line) statuses.DiskFailed
    (λ events p. part_of_whole line events p) c)
stops_line view hosts w line old _ (stops_at_memory c) =
    line_at_memory (cut_in view hosts w (IsPartOfWhole w old line) (IsPartOfLine w old line) statuses.OutOfMemory
    (λ events p. part_of_whole line events p) c)

-- the same of a line that is known
pub played_as : {S : Type 0} (view : S → SeatView) (hosts : Hosted S) (network : NetworkView) (handed : List ToLink) (w : World) (known line : Line)
    (s t : ScriptView) (closed : Option ℕ) → known ≡ line → HasPlayedWhole view hosts network handed w known s t closed
    → HasPlayed view hosts network handed w line s t closed
played_as view hosts network handed w known line s t closed same h =
    subst (λ (l : Line). HasPlayed view hosts network handed w l s t closed) same (record {
      events = wholes h.events;
      end = h.end;
      run = run_whole w h.end h.events h.run;
      played = plays_whole known h.events h.end t closed h.played;
      stands = h.stands;
    })

pub stops_as : {S : Type 0} (view : S → SeatView) (hosts : Hosted S) (w : World) (known line : Line) (old : ScriptView) (status : Status) → known ≡ line
    → StopsWhole view hosts w known old status → StopsLine view hosts w line old status
stops_as view hosts w known line old status same stops =
    subst (λ (l : Line). StopsLine view hosts w l old status) same (stops_line view hosts w known old status stops)

-- the same of a result
pub result_played : {S : Type 0} (view : S → SeatView) (hosts : Hosted S) (network : NetworkView) (handed : List ToLink) (w : World) (known line : Line)
    (s t : ScriptView) (result : Result (Option ℕ) Status) → known ≡ line
    → IfOk result (λ closed. HasPlayedWhole view hosts network handed w known s t closed)
    → IfOk result (λ closed. HasPlayed view hosts network handed w line s t closed)
result_played view hosts network handed w known line s t (Ok closed) same h = played_as view hosts network handed w known line s t closed same h
result_played view hosts network handed w known line s t (Err status) same h = tt

pub result_stops : {S : Type 0} (view : S → SeatView) (hosts : Hosted S) (w : World) (known line : Line) (old : ScriptView)
    (result : Result (Option ℕ) Status) → known ≡ line → IfErr result (StopsWhole view hosts w known old) → IfErr result (StopsLine view hosts w line old)
result_stops view hosts w known line old (Ok closed) same stops = tt
result_stops view hosts w known line old (Err status) same stops = stops_as view hosts w known line old status same stops

-- a status that is handed on
pub status_stops : {S : Type 0} (view : S → SeatView) (hosts : Hosted S) (w : World) (known line : Line) (old : ScriptView)
    (result : Result (Option ℕ) Status) (status : Status) → IsErrAnd result (λ n. n ≡ status) → known ≡ line → StopsWhole view hosts w known old status
    → IfErr result (StopsLine view hosts w line old)
status_stops view hosts w known line old result status is same stops =
    let p = err_from_is_err_and result is in
    subst (λ (r : Result (Option ℕ) Status). IfErr r (StopsLine view hosts w line old)) (sym p.1)
    (subst (λ (n : Status). StopsLine view hosts w line old n) (sym p.2) (stops_as view hosts w known line old status same stops))

-- THE BYTES OF A LINE

pub bytes_stop : {S : Type 0} (view : S → SeatView) (hosts : Hosted S) (w : World) (bytes : List ℕ) (line : Line) (old : ScriptView) (status : Status)
    → Says bytes line → StopsLine view hosts w line old status → StopsBytes view hosts w bytes old status
bytes_stop view hosts w bytes line old _ says (line_unplayed names are) = bytes_refused (names_nothing line says names) are
bytes_stop view hosts w bytes line old _ says (line_at_disk c) =
    bytes_at_disk (cut_in_as view hosts w (IsPartOfLine w old line) (IsPartOfBytes w old bytes) statuses.DiskFailed
    (λ events p. part_read line events says p) c)
bytes_stop view hosts w bytes line old _ says (line_at_memory c) =
    bytes_at_memory (cut_in_as view hosts w (IsPartOfLine w old line) (IsPartOfBytes w old bytes) statuses.OutOfMemory
    (λ events p. part_read line events says p) c)

pub bytes_unread : {S : Type 0} (view : S → SeatView) (hosts : Hosted S) (w : World) (bytes : List ℕ) (old : ScriptView) → AreStill view hosts w
    → StopsBytes view hosts w bytes old statuses.OutOfMemory
bytes_unread view hosts w bytes old are =
    bytes_at_memory (cut_in_here view hosts w (IsPartOfBytes w old bytes) statuses.OutOfMemory part_unread are)

-- a line that was played, with one note more of all disks after it
abbrev pub note_played : {N L : Type 0} (facts : LogFacts L) (seats : List (Seat N L)) (count : ℕ) (state : N → NodeState) (steps : N → ℕ) (since : Since L)
    (network : NetworkView) (handed : List ToLink) (before : World) (bytes : List ℕ) (old new : ScriptView) (closed : Option ℕ) (shows : Bool)
    (notes notes' : List Note) → AreDurable facts seats → (IsTrue shows → notes' ≡ notes ++ notes_of facts count seats)
    → (h : HasPlayedBytes (seat_since state steps facts since) (hosted shows facts since notes seats) network handed before bytes old new closed)
    → HasPlayedBytes (seat_since state steps facts (with_notes since (now_noted facts seats h.played.end count ∷ since.noted)))
    (hosted shows facts since notes' seats) network handed before bytes old new closed
note_played facts seats count state steps since network handed before bytes old new closed shows notes notes' durable more h = record {
  line = h.line;
  says = h.says;
  played = record {
    events = h.played.events;
    end = h.played.end;
    run = h.played.run;
    played = h.played.played;
    stands = note_stands facts seats h.played.end count state steps since network handed 0 shows notes notes' durable more h.played.stands;
  };
}
