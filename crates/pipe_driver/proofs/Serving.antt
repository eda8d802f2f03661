-- A connection proceeds by one request, or stops at it.
use Rattle.std.proofs.Common.{◌≡◌, ◌≢◌, inl, inr, ℕ, ℤ, ◌+◌, ◌≤◌, Bool, IsTrue, List, [], ◌∷◌, ◌++◌, length, refl, sym, ap, subst, ◌∙◌, arith, append_assoc, append-nil, length-append}
use Rattle.outside.specs.Streams.{Put}
use Rattle.outside.proofs.Relations.{put_then}
use Rattle.opmsg_frames.specs.Requests.{Request, IsRequest}
use Rattle.node_model.specs.Letters.{Letter}
use Rattle.node_model.specs.World.{World, Event, client_event, Happens, Run, stands, goes}
use Rattle.node_model.proofs.Schedules.{delivers_run, pipes_run, run_then}
use Rattle.node_model.specs.Schedule.{openings, moments_given, Round, IsRound, opens, serves}
use Rattle.node_progress.specs.Firsts.{IsFirst}
use Rattle.node_traits.specs.Effects.{ByNotTaken}
use Rattle.node_traits.specs.declared.outputs.NotTaken.{NotTaken}
use Rattle.node_traits.specs.declared.outputs.NotTaken.TheVariants.{Disk, Steps, Memory}
use Rattle.node_traits.specs.declared.outputs.ToLink.{ToLink}
use Rattle.driver_steps.specs.declared.network.Network.{Network}
use Rattle.driver_steps.specs.Crashes.{LeadsTo, Noted}
use Rattle.restart_laws.specs.Calls.{wholes}
use Rattle.restart_laws.proofs.ReachedCalls.{run_whole}
use Rattle.driver_steps.specs.Seats.{Hosted, SeatView, AreKept, AreHeldOrKept}
use Rattle.driver_steps.specs.Worlds.{NetworkView, StandsFor, network_view, puts_given}
use Rattle.driver_steps.specs.Moves.{IsUpTo, BeginWith, HasRun, HasStopped}
use Rattle.driver_steps.proofs.Crashes.{leads_by, leads_nowhere, leads_on}
use Rattle.driver_steps.proofs.Seats.{held_kept}
use Rattle.driver_steps.proofs.Runs.{handed_on}
use Rattle.pipe_driver.specs.Pieces.{PutInPart}
use Rattle.pipe_driver.specs.Acknowledgements.{AreCovered}
use Rattle.pipe_driver.specs.Progress.{AreAsked, Serving, CutShort, PutShort, all_replies}
use Rattle.pipe_driver.specs.Rounds.{requests_of, replies_after, replies_behind, number_behind, AreOfOne, bytes_of, puts_since}
use Rattle.pipe_driver.specs.Schedules.{round_of, IsLast, IsPart, HasServed, Came, came_whole, came_opening, came_part}
use Rattle.pipe_driver.specs.Stops.{status_for, StopsAtRequest, at_disk_fault, at_no_memory}
use Rattle.pipe_driver.specs.declared.status.Status.{Status}
use Rattle.pipe_driver.specs.declared.status.Status.TheVariants as statuses
use Rattle.pipe_driver.proofs.Covers.{covered_more, covered_none, covered_on, covered_part}
use Rattle.pipe_driver.proofs.Openings.{nothing_told}
use Rattle.pipe_driver.proofs.Puts.{bytes_then}
use Rattle.pipe_driver.proofs.Rounds.{asked_more, behind_more, one_more, requests_more}
use Rattle.pipe_driver.proofs.Since.{since_more, since_none}

-- what the logs keep after a fault
pub kept_at : {S : Type 0} (fault : NotTaken) (view : S → SeatView) (hosts : Hosted S) (w : World) → AreHeldOrKept fault view hosts w.nodes
    → AreKept view hosts.seats w.nodes
kept_at (Disk faults) view hosts w are = are
kept_at Steps view hosts w are = held_kept view hosts.seats w.nodes are
kept_at Memory view hosts w are = held_kept view hosts.seats w.nodes are

-- BY STATUS

-- the world up to which a crash may have left what the nodes keep
last_by : (fault : NotTaken) (end last : World) (P : Event → Type 0) (goes_on : World → Type 0)
    → IsUpTo fault end last ((e : Event) × P e × Happens end e last) → ((e : Event) → P e → Happens end e last → goes_on last)
    → IsLast (status_for fault) goes_on end last
last_by (Disk faults) end last P goes_on (inl same) on = inl same
last_by (Disk faults) end last P goes_on (inr (e, is, more)) on = inr (refl, on e is more, e, more)
last_by Steps end last P goes_on same on = inl same
last_by Memory end last P goes_on same on = inl same

last_leads : (fault : NotTaken) (end last : World) (P : Event → Type 0) → IsUpTo fault end last ((e : Event) × P e × Happens end e last) → LeadsTo end last
last_leads (Disk faults) end last P (inl same) = subst (λ (w : World). LeadsTo end w) (sym same) (leads_nowhere end)
last_leads (Disk faults) end last P (inr (e, is, more)) = leads_by e end last more
last_leads Steps end last P same = subst (λ (w : World). LeadsTo end w) (sym same) (leads_nowhere end)
last_leads Memory end last P same = subst (λ (w : World). LeadsTo end w) (sym same) (leads_nowhere end)

-- one event more
run_one_more : (u : World) (events : List Event) (v : World) (e : Event) (w : World) → Run u events v → Happens v e w → Run u (events ++ e ∷ []) w
run_one_more u events v e w run more = run_then u events v (e ∷ []) w run (goes v w w e [] more (stands w))

module _ {S : Type 0} (view : S → SeatView) (hosts : Hosted S) (gives : ℕ → Type 0) (router : ℕ) (first : World) (tells : Bool) (noted : List Noted) (held_before held consumed : List ℕ) where
  pub stops_by : (fault : NotTaken) (status : Status) → status ≡ status_for fault
      → CutShort view hosts gives router first tells noted held_before held consumed (status_for fault)
      → StopsAtRequest view hosts gives router first tells noted held_before held consumed status
  stops_by (Disk faults) status is cut = subst (λ (s : Status). StopsAtRequest view hosts gives router first tells noted held_before held consumed s) (sym is)
      (at_disk_fault cut)
  stops_by Steps status is cut = subst (λ (s : Status). StopsAtRequest view hosts gives router first tells noted held_before held consumed s) (sym is) (at_no_memory cut)
  stops_by Memory status is cut = subst (λ (s : Status). StopsAtRequest view hosts gives router first tells noted held_before held consumed s) (sym is) (at_no_memory cut)

  -- between two rounds
  pub cut_between : (network : NetworkView) (replied : ℕ) → Serving view hosts network gives router first tells noted held_before held consumed replied
      → CutShort view hosts gives router first tells noted held_before held consumed statuses.OutOfMemory
  cut_between network replied s = record {
    rounds = s.rounds;
    under_way = [];
    whole = s.world;
    end = s.world;
    came = came_whole s.rounds s.events s.world s.next s.pipes;
    one = s.one;
    put = s.put;
    asked = subst (λ (l : List Request). AreAsked consumed l) (sym (append-nil (requests_of s.rounds))) s.asked;
    kept = held_kept view hosts.seats s.world.nodes s.stands.nodes;
    last = s.world;
    is_last = inl refl;
    crashes = s.stands.crashes;
    covered = s.covered;
  }

-- what holds but where a disk failed
pub but_for_disks : (fault : NotTaken) (status : Status) (holds : Type 0) → status ≡ status_for fault → status ≢ statuses.DiskFailed
    → ByNotTaken fault (λ faults. Unit {0}) holds → holds
but_for_disks (Disk faults) status holds is other given = absurd (other is)
but_for_disks Steps status holds is other given = given
but_for_disks Memory status holds is other given = given

-- THE START

module _ {S : Type 0} (view : S → SeatView) (hosts : Hosted S) (gives : ℕ → Type 0) (router : ℕ) (first : World) (tells : Bool) (held : List ℕ) (count : ℕ)
    (as_many : count ≡ length first.nodes) where
  pub opened_serving : (network : NetworkView) → IsFirst first → HasRun view hosts network (puts_given first.answered) first 0 (openings 0 count)
      → Serving view hosts network gives router first tells [] held held [] 0
  opened_serving network begins r =
      let none : r.end.answered ≡ first.answered = nothing_told first count r.end r.run in
      let silent : puts_since first r.end ≡ [] = since_none first r.end none in
      let run : Run first (openings 0 (length first.nodes)) r.end =
      subst (λ (n : ℕ). Run first (openings 0 n) r.end) as_many r.run in
      record {
        rounds = [];
        events = openings 0 (length first.nodes);
        world = r.end;
        next = 0;
        begins = begins;
        pipes = opens r.end run;
        one = record { moments = tt; routers = tt; links = tt; numbers = tt };
        stands = subst (λ (l : List ToLink). StandsFor view hosts network l r.end 0) (ap puts_given (sym none)) r.stands;
        put = λ told. sym (ap (λ (l : List ToLink). held ++ bytes_of l) silent ∙ append-nil held);
        asked = record { all = refl; each = tt };
        count = refl;
        covered = λ told. covered_none (all_replies first) first held [] _ r.end (ap bytes_of silent);
      }

  pub opening_cut : (replies : List ToLink) (fault : NotTaken)
      → HasStopped view hosts replies (puts_given first.answered) first (λ events. BeginWith events (openings 0 count)) fault
      → CutShort view hosts gives router first tells [] held held [] (status_for fault)
  opening_cut replies fault s = record {
    rounds = [];
    under_way = [];
    whole = first;
    end = s.end;
    came = came_opening s.events s.end (subst (λ (n : ℕ). BeginWith s.events (openings 0 n)) as_many s.which) s.run;
    one = record { moments = tt; routers = tt; links = tt; numbers = tt };
    put = λ told. sym (ap (λ (l : List ToLink). held ++ bytes_of l) (since_none first first refl) ∙ append-nil held);
    asked = record { all = refl; each = tt };
    kept = kept_at fault view hosts s.end s.nodes;
    last = s.last;
    is_last = last_by fault s.end s.last (λ e. BeginWith (s.events ++ e ∷ []) (openings 0 count))
        (λ w. Came first gives router [] [] first w) s.up_to
        (λ e begun more. came_opening (s.events ++ e ∷ []) s.last
        (subst (λ (n : ℕ). BeginWith (s.events ++ e ∷ []) (openings 0 n)) as_many begun)
        (run_one_more first s.events s.end e s.last s.run more));
    crashes = s.crashes;
    covered = λ told. covered_none (all_replies first) first held [] _ s.last (ap bytes_of (since_none first first refl));
  }

round_run : (u : World) (next : ℕ) (r : Round) (events : List Event) (w : World) → IsRound u next r events w → Run u events w
round_run u next r events w round =
    subst (λ (l : List Event). Run u l w) (sym round.all)
    (run_then u (moments_given 0 (length u.nodes) r.moment) round.given (client_event r.at r.link r.number r.request ∷ round.deliveries) w round.moments
    (goes round.given round.asked w (client_event r.at r.link r.number r.request) round.deliveries round.comes
    (delivers_run round.asked next round.deliveries w (length w.sent) round.settles)))

-- ONE REQUEST

module _ {S : Type 0} (view : S → SeatView) (hosts hosts_after : Hosted S) (before : NetworkView) (gives : ℕ → Type 0) (router : ℕ) (first : World) (tells : Bool) (noted : List Noted)
    (held_before held consumed : List ℕ) (replied : ℕ) (s : Serving view hosts before gives router first tells noted held_before held consumed replied)
    (moment : ℕ) (number : ℤ) (asked q : Request) (given : gives moment) (numbered : number ≡ number_behind replied) (same : asked ≡ q) (is : IsRequest q) where
  numbered_behind : number ≡ number_behind (replies_behind 0 (requests_of s.rounds))
  numbered_behind = numbered ∙ ap (λ (n : ℕ). number_behind n) s.count

  round_is : round_of router moment number asked ≡ round_of router moment (number_behind (replies_behind 0 (requests_of s.rounds))) q
  round_is = ap (λ (z : ℤ). round_of router moment z asked) numbered_behind
      ∙ ap (λ (x : Request). round_of router moment (number_behind (replies_behind 0 (requests_of s.rounds))) x) same

  rounds_one : AreOfOne gives router (s.rounds ++ round_of router moment number asked ∷ [])
  rounds_one = one_more gives router s.rounds (round_of router moment number asked) s.one given refl refl numbered_behind

  asked_then : AreAsked (consumed ++ q.bytes) (requests_of s.rounds ++ q ∷ [])
  asked_then = asked_more consumed (requests_of s.rounds) q s.asked is

  asked_rounds : AreAsked (consumed ++ q.bytes) (requests_of (s.rounds ++ round_of router moment number asked ∷ []))
  asked_rounds =
      let all : requests_of (s.rounds ++ round_of router moment number asked ∷ []) ≡ requests_of s.rounds ++ q ∷ [] =
      requests_more s.rounds (round_of router moment number asked) ∙ ap (λ (x : Request). requests_of s.rounds ++ x ∷ []) same in
      subst (λ (l : List Request). AreAsked (consumed ++ q.bytes) l) (sym all) asked_then

  part_in_round : (count : ℕ) (events : List Event) → count ≡ length s.world.nodes → IsPart count (round_of router moment number asked) events
      → IsPart (length s.world.nodes) (round_of router moment (number_behind (replies_behind 0 (requests_of s.rounds))) q) events
  part_in_round count events as_many part =
      subst (λ (n : ℕ). IsPart n (round_of router moment (number_behind (replies_behind 0 (requests_of s.rounds))) q) events) as_many
      (subst (λ (r : Round). IsPart count r events) round_is part)

  -- a step failed
  pub cut_in_round : (count : ℕ) (replies : List ToLink) (fault : NotTaken) → count ≡ length s.world.nodes
      → HasStopped view hosts_after replies (puts_given s.world.answered) s.world (IsPart count (round_of router moment number asked)) fault
      → CutShort view hosts_after gives router first tells noted held_before held (consumed ++ q.bytes) (status_for fault)
  cut_in_round count replies fault as_many h = record {
    rounds = s.rounds;
    under_way = q ∷ [];
    whole = s.world;
    end = h.end;
    came = came_part s.rounds s.events h.events s.world h.end s.next moment q s.pipes given
        (part_in_round count h.events as_many h.which) h.run;
    one = s.one;
    put = s.put;
    asked = asked_then;
    kept = kept_at fault view hosts_after h.end h.nodes;
    last = h.last;
    is_last = last_by fault h.end h.last (λ e. IsPart count (round_of router moment number asked) (h.events ++ e ∷ []))
        (λ w. Came first gives router s.rounds (q ∷ []) s.world w) h.up_to
        (λ e part more. came_part s.rounds s.events (h.events ++ e ∷ []) s.world h.last s.next moment q s.pipes given
        (part_in_round count (h.events ++ e ∷ []) as_many part) (run_one_more s.world h.events h.end e h.last h.run more));
    crashes = h.crashes;
    covered = λ told. covered_on (all_replies first) first held_before noted _ s.world h.last (s.covered told)
        (leads_on s.world h.end h.last (wholes h.events, run_whole s.world h.end h.events h.run) (last_leads fault h.end h.last _ h.up_to));
  }

  -- the replies of a round are written after one note more of all disks
  module _ (network : NetworkView) (h : HasServed view hosts_after network (puts_given s.world.answered) s.world s.next (round_of router moment number asked))
      (moments : List ℕ) (told : IsTrue tells) where
    round_from : LeadsTo first s.world
    round_from = (wholes s.events, run_whole first s.world s.events (pipes_run first s.rounds s.events s.world s.next s.pipes))

    round_on : LeadsTo s.world h.end
    round_on =
        (wholes h.events, run_whole s.world h.end h.events (round_run s.world s.next (round_of router moment number asked) h.events h.end h.round))

    round_few : length held ≤ length held_before + length (bytes_of (puts_since first s.world))
    round_few = omega (
      arith,
      ap (λ (l : List ℕ). length l) (s.put told),
      length-append held_before (bytes_of (puts_since first s.world)),
    )

    pub covers_round : AreCovered (all_replies first) first (record { world = h.end; moments = moments; length = length held } ∷ noted) held_before
        (bytes_of (puts_since first s.world) ++ bytes_of network.replies) h.end
    covers_round =
        covered_more (all_replies first) first held_before s.world h.end noted moments (length held) (bytes_of (puts_since first s.world))
        (bytes_of network.replies) (s.covered told) (sym (ap bytes_of (since_more first s.world h.end network.replies round_from round_on h.stands.given) ∙ bytes_then (puts_since first s.world) network.replies))
        (leads_on first s.world h.end round_from round_on) round_on round_few

  module _ {M : Type 0} (letter : M → Letter) (old new : Network M) (after_view : S → SeatView) (noted_after : List Noted)
      (h : HasServed after_view hosts_after (network_view letter old) (puts_given s.world.answered) s.world s.next (round_of router moment number asked))
      (waits : new.waiting.items ≡ old.waiting.items) (none : new.replies.items ≡ [])
      (covers : IsTrue tells → AreCovered (all_replies first) first noted_after held_before (bytes_of (puts_since first s.world)
      ++ bytes_of old.replies.items) h.end) where
    puts_are : puts_given h.end.answered ≡ puts_given s.world.answered ++ old.replies.items
    puts_are = h.stands.given

    bytes_are : bytes_of (puts_since first h.end) ≡ bytes_of (puts_since first s.world) ++ bytes_of old.replies.items
    bytes_are =
        ap bytes_of (since_more first s.world h.end old.replies.items
        (wholes s.events, run_whole first s.world s.events (pipes_run first s.rounds s.events s.world s.next s.pipes))
        (wholes h.events, run_whole s.world h.end h.events (round_run s.world s.next (round_of router moment number asked) h.events h.end h.round)) puts_are) ∙ bytes_then (puts_since first s.world) old.replies.items

    -- all replies of the round were put
    pub served_one : (held' : List ℕ) (after : ℕ) → Put tells held (bytes_of old.replies.items) held' → after ≡ replies_after q.more replied
        → Serving after_view hosts_after (network_view letter new) gives router first tells noted_after held_before held' (consumed ++ q.bytes) after
    served_one held' after put counted = record {
      rounds = s.rounds ++ round_of router moment number asked ∷ [];
      events = s.events ++ h.events;
      world = h.end;
      next = length h.end.sent;
      begins = s.begins;
      pipes = serves s.rounds (round_of router moment number asked) s.events h.events s.world h.end s.next s.pipes h.round;
      one = rounds_one;
      stands = subst (λ (l : List ToLink). StandsFor after_view hosts_after (network_view letter new) l h.end (length h.end.sent)) (sym puts_are)
          (handed_on after_view letter hosts_after (puts_given s.world.answered) h.end (length h.end.sent) old new h.stands waits none);
      put = subst (λ (b : List ℕ). Put tells held_before b held') (sym bytes_are)
          (put_then tells held_before (bytes_of (puts_since first s.world)) held (bytes_of old.replies.items) held' s.put put);
      asked = asked_rounds;
      count = counted ∙ (ap (λ (n : ℕ). replies_after q.more n) s.count
          ∙ (sym (behind_more 0 (requests_of s.rounds) q)
          ∙ ap (λ (l : List Request). replies_behind 0 l)
          (ap (λ (x : Request). requests_of s.rounds ++ x ∷ []) (sym same) ∙ sym (requests_more s.rounds (round_of router moment number asked)))));
      covered = λ told. subst (λ (b : List ℕ). AreCovered (all_replies first) first noted_after held_before b h.end) (sym bytes_are) (covers told);
    }

    -- a prefix of them was put
    pub put_short : (held' : List ℕ) → PutInPart tells held (bytes_of old.replies.items) held'
        → PutShort after_view hosts_after gives router first tells noted_after held_before held' (consumed ++ q.bytes)
    put_short held' (part, (others, prefix), put) = record {
      earlier = s.rounds;
      last = round_of router moment number asked;
      events = s.events;
      more = h.events;
      before = s.world;
      end = h.end;
      next = s.next;
      served = s.pipes;
      round = h.round;
      one = rounds_one;
      part = bytes_of (puts_since first s.world) ++ part;
      earlier_put = (part, refl);
      in_part = (
        others,
        bytes_are ∙ (ap (λ (b : List ℕ). bytes_of (puts_since first s.world) ++ b) prefix
            ∙ sym (append_assoc (bytes_of (puts_since first s.world)) part others)),
      );
      put = put_then tells held_before (bytes_of (puts_since first s.world)) held part held' s.put put;
      asked = asked_rounds;
      kept = held_kept after_view hosts_after.seats h.end.nodes h.stands.nodes;
      crashes = h.stands.crashes;
      covered = λ told. covered_part (all_replies first) first held_before noted_after (bytes_of (puts_since first s.world) ++ part)
          (bytes_of (puts_since first s.world) ++ bytes_of old.replies.items) h.end (
            others,
            ap (λ (b : List ℕ). bytes_of (puts_since first s.world) ++ b) prefix ∙ sym (append_assoc (bytes_of (puts_since first s.world)) part others),
          ) (covers told);
    }
