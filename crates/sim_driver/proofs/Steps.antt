-- A script proceeds by one line, or stops at it.
use Rattle.std.proofs.Common.{◌≡◌, inl, inr, ℕ, ◌+◌, ◌-◌, ◌≤◌, IsTrue, List, [], ◌∷◌, ◌++◌, length, refl, arith, length-append, sym, ap, subst, ◌∙◌, append_assoc, append-nil}
use Rattle.std.specs.Prelude.{Bool, Option}
use Rattle.std.proofs.lemmas.Grind.{flat_map-append}
use Rattle.outside.specs.Streams.{Put}
use Rattle.outside.proofs.Relations.{put_then}
use Rattle.node_model.specs.Letters.{Letter}
use Rattle.node_model.specs.World.{World, Event, Happens, Run}
use Rattle.node_model.specs.Schedule.{openings}
use Rattle.node_replay.specs.Restarts.{EventOrStop, Occurs, RunWithStops, occurs, proceeds, stays, whole_event}
use Rattle.restart_laws.specs.Calls.{wholes}
use Rattle.restart_laws.proofs.ReachedCalls.{stops_then}
use Rattle.node_progress.specs.Firsts.{IsFirst}
use Rattle.node_traits.specs.declared.outputs.NotTaken.{NotTaken}
use Rattle.node_traits.specs.declared.outputs.NotTaken.TheVariants.{Disk, Steps, Memory}
use Rattle.node_traits.specs.declared.outputs.ToLink.{ToLink}
use Rattle.driver_steps.specs.declared.network.Network.{Network}
use Rattle.driver_steps.specs.Crashes.{LeadsTo, Noted}
use Rattle.driver_steps.specs.Seats.{Hosted, SeatView}
use Rattle.driver_steps.specs.Worlds.{NetworkView, StandsFor, network_view, puts_given}
use Rattle.driver_steps.specs.Moves.{BeginWith, HasRun, HasStopped, IsUpTo}
use Rattle.driver_steps.proofs.Crashes.{leads_nowhere, leads_on, leads_through}
use Rattle.driver_steps.proofs.Seats.{held_kept, held_len}
use Rattle.driver_steps.proofs.Runs.{handed_on}
use Rattle.pipe_driver.specs.Acknowledgements.{AreCovered}
use Rattle.pipe_driver.specs.Pieces.{PutInPart}
use Rattle.pipe_driver.specs.Stops.{status_for}
use Rattle.pipe_driver.specs.declared.status.Status.{Status}
use Rattle.pipe_driver.specs.declared.status.Status.TheVariants as statuses
use Rattle.pipe_driver.proofs.Covers.{covered_more, covered_none, covered_on, covered_part}
use Rattle.pipe_driver.proofs.Frames.{all_more}
use Rattle.pipe_driver.proofs.Openings.{nothing_told}
use Rattle.script_lines.specs.Words.{HasNone, IsCutAt}
use Rattle.pipe_driver.proofs.Serving.{kept_at}
use Rattle.sim_driver.specs.Scripts.{ScriptView, new_script, printed}
use Rattle.sim_driver.specs.Moves.{AreStill}
use Rattle.sim_driver.specs.LineOutcomes.{HasPlayedBytes, IsCutIn, IsLastIn, IsPartOfBytes, part_read, StopsBytes, bytes_refused, bytes_at_disk, bytes_at_memory}
use Rattle.sim_driver.specs.Simulations.{newline, bytes_of_lines, Plays, plays_none, plays_more, CameTo, came_opening, came_lines, came_part, IsLastOfScript, all_printed, router_count}
use Rattle.sim_driver.specs.Progress.{Playing, StopsAt, at_refused_line, at_write_fault, at_disk_fault, at_no_memory, Stopped}
use Rattle.sim_driver.proofs.Faults.{run_more, still}
use Rattle.sim_driver.proofs.Plays.{plays_count, plays_run, whole_is_part}
use Rattle.sim_driver.proofs.Settled.{all_played}

lines_more : (lines : List (List ℕ)) (bytes : List ℕ) → bytes_of_lines (lines ++ bytes ∷ []) ≡ bytes_of_lines lines ++ (bytes ++ newline ∷ [])
lines_more lines bytes =
    flat_map-append (λ (l : List ℕ). l ++ newline ∷ []) lines (bytes ∷ []) ∙ ap (λ (b : List ℕ). bytes_of_lines lines ++ b) (append-nil
    (bytes ++ newline ∷ []))

next_line : (bytes others : List ℕ) → HasNone newline bytes → IsCutAt newline (bytes ++ newline ∷ others) bytes others
next_line bytes others none = record { whole = refl; first = none }

-- the world up to which a crash may have left what the nodes keep
last_by : (fault : NotTaken) (status : Status) → status ≡ status_for fault → (end last : World) (events : List Event) (P : List Event → Type 0)
    (goes_on : World → Type 0) → ((e : Event) → P (events ++ e ∷ []) → Happens end e last → goes_on last)
    → IsUpTo fault end last ((e : Event) × P (events ++ e ∷ []) × Happens end e last) → IsLastOfScript status goes_on end last
last_by (Disk faults) status is end last events P goes_on on (inl same) = inl same
last_by (Disk faults) status is end last events P goes_on on (inr (e, has, h)) = inr (is, on e has h, whole_event e, occurs end last e h)
last_by Steps status is end last events P goes_on on same = inl same
last_by Memory status is end last events P goes_on on same = inl same

last_leads : (status : Status) (end last : World) (events : List EventOrStop) (P : List EventOrStop → Type 0) → IsLastIn status events P end last
    → LeadsTo end last
last_leads status end last events P (inl same) = subst (λ (w : World). LeadsTo end w) (sym same) (leads_nowhere end)
last_leads status end last events P (inr (is, e, has, h)) = leads_through e end last h

last_in_line : (status : Status) (end last : World) (events : List EventOrStop) (P : List EventOrStop → Type 0) (goes_on : World → Type 0)
    → ((e : EventOrStop) → P (events ++ e ∷ []) → Occurs end e last → goes_on last) → IsLastIn status events P end last
    → IsLastOfScript status goes_on end last
last_in_line status end last events P goes_on on (inl same) = inl same
last_in_line status end last events P goes_on on (inr (is, e, has, h)) = inr (is, on e has h, e, h)

-- one event more
one_more : (u : World) (events : List EventOrStop) (v : World) (e : EventOrStop) (w : World) → RunWithStops u events v → Occurs v e w
    → RunWithStops u (events ++ e ∷ []) w
one_more u events v e w run more = stops_then u v w events (e ∷ []) run (proceeds v w w e [] more (stays w))

-- THE START

module _ {S : Type 0} (view : S → SeatView) (hosts : Hosted S) (first_router : ℕ) (first : World) (tells : Bool) (held : List ℕ) (count : ℕ)
    (as_many : count ≡ length first.nodes) where
  pub opened_playing : (network : NetworkView) → IsFirst first → HasRun view hosts network (puts_given first.answered) first 0 (openings 0 count)
      → Playing view hosts network first_router first tells [] held held (new_script first_router (router_count first_router first)) []
  opened_playing network begins r =
      let none : r.end.answered ≡ first.answered = nothing_told first count r.end r.run in
      let run : Run first (openings 0 (length first.nodes)) r.end =
      subst (λ (n : ℕ). Run first (openings 0 n) r.end) as_many r.run in
      record {
        lines = [];
        events = wholes (openings 0 (length first.nodes));
        world = r.end;
        out = [];
        begins = begins;
        plays = plays_none r.end run;
        stands = subst (λ (l : List ToLink). StandsFor view hosts network l r.end 0) (ap puts_given (sym none)) r.stands;
        put = λ told. sym (append-nil held);
        all = refl;
        each = tt;
        covered = λ told. covered_none (all_printed first_router first) first held [] [] r.end refl;
      }

  opening_came : (left : List ℕ) (replies : List ToLink) (fault : NotTaken)
      → (s : HasStopped view hosts replies (puts_given first.answered) first (λ events. BeginWith events (openings 0 count)) fault)
      → CameTo first_router first [] left [] s.end
  opening_came left replies fault s =
      came_opening left s.events s.end (subst (λ (n : ℕ). BeginWith s.events (openings 0 n)) as_many s.which) s.run

  stops_by : (fault : NotTaken) (status : Status) → status ≡ status_for fault → (lines : List (List ℕ)) (left put : List ℕ) (end : World)
      → CameTo first_router first lines left put end → StopsAt first_router first lines left put end status
  stops_by (Disk faults) status is lines left put end came =
      subst (λ (n : Status). StopsAt first_router first lines left put end n) (sym is) (at_disk_fault came)
  stops_by Steps status is lines left put end came = subst (λ (n : Status). StopsAt first_router first lines left put end n) (sym is) (at_no_memory came)
  stops_by Memory status is lines left put end came = subst (λ (n : Status). StopsAt first_router first lines left put end n) (sym is) (at_no_memory came)

  pub opening_stopped : (left : List ℕ) (replies : List ToLink) (fault : NotTaken) (status : Status) → status ≡ status_for fault
      → HasStopped view hosts replies (puts_given first.answered) first (λ events. BeginWith events (openings 0 count)) fault
      → Stopped view hosts first_router first tells [] held held [] left status
  opening_stopped left replies fault status is s = record {
    lines = [];
    end = s.end;
    out = [];
    cause = stops_by fault status is [] left [] s.end (opening_came left replies fault s);
    put = λ told. sym (append-nil held);
    all = refl;
    each = tt;
    kept = kept_at fault view hosts s.end s.nodes;
    last = s.last;
    is_last = last_by fault status is s.end s.last s.events (λ events. BeginWith events (openings 0 count)) (λ w. CameTo first_router first [] left [] w)
        (λ e begun h.
        came_opening left (s.events ++ e ∷ []) s.last (subst (λ (n : ℕ). BeginWith (s.events ++ e ∷ []) (openings 0 n)) as_many begun)
        (run_more first s.events s.end e s.last s.run h)) s.up_to;
    crashes = s.crashes;
    covered = λ told. covered_none (all_printed first_router first) first held [] [] s.last refl;
  }

-- ONE LINE

module _ {S : Type 0} (view : S → SeatView) (hosts hosts_after : Hosted S) (before : NetworkView) (first_router : ℕ) (first : World) (tells : Bool)
    (noted : List Noted)
    (held_before held consumed : List ℕ) (s : ScriptView) (p : Playing view hosts before first_router first tells noted held_before held s consumed)
    (bytes : List ℕ) (none : HasNone newline bytes) where
  came_in : (others : List ℕ) (events : List EventOrStop) (end : World) → IsPartOfBytes p.world s bytes events → RunWithStops p.world events end
      → CameTo first_router first p.lines (bytes ++ newline ∷ others) p.out end
  came_in others events end part run =
      came_part p.lines p.events events (bytes ++ newline ∷ others) p.out bytes others p.world end s p.plays (next_line bytes others none) part run

  -- the script stops within the line, of which nothing was put
  stops_within : (others : List ℕ) (status : Status) → (c : IsCutIn view hosts_after p.world (IsPartOfBytes p.world s bytes) status)
      → StopsAt first_router first p.lines (bytes ++ newline ∷ others) p.out c.end status
      → Stopped view hosts_after first_router first tells noted held_before held consumed (bytes ++ newline ∷ others) status
  stops_within others status c cause = record {
    lines = p.lines;
    end = c.end;
    out = p.out;
    cause = cause;
    put = p.put;
    all = p.all;
    each = p.each;
    kept = c.kept;
    last = c.last;
    is_last = last_in_line status c.end c.last c.events (IsPartOfBytes p.world s bytes)
        (λ w. CameTo first_router first p.lines (bytes ++ newline ∷ others) p.out w)
        (λ e part h. came_in others (c.events ++ e ∷ []) c.last part (one_more p.world c.events c.end e c.last c.run h)) c.is_last;
    crashes = c.crashes;
    covered = λ told. covered_on (all_printed first_router first) first held_before noted p.out p.world c.last (p.covered told)
        (leads_on p.world c.end c.last (c.events, c.run) (last_leads status c.end c.last c.events (IsPartOfBytes p.world s bytes) c.is_last));
  }

  -- the script stops where nothing is cut short, and of the line nothing was put
  stops_here : (others : List ℕ) (status : Status) (end : World) → StopsAt first_router first p.lines (bytes ++ newline ∷ others) p.out end status
      → AreStill view hosts_after end → LeadsTo p.world end → Stopped view hosts_after first_router first tells noted
      held_before held consumed
      (bytes ++ newline ∷ others) status
  stops_here others status end cause are on = record {
    lines = p.lines;
    end = end;
    out = p.out;
    cause = cause;
    put = p.put;
    all = p.all;
    each = p.each;
    kept = held_kept view hosts_after.seats end.nodes are.nodes;
    last = end;
    is_last = inl refl;
    crashes = are.crashes;
    covered = λ told. covered_on (all_printed first_router first) first held_before noted p.out p.world end (p.covered told) on;
  }

  pub line_stopped : (others : List ℕ) (status : Status) → StopsBytes view hosts_after p.world bytes s status
      → Stopped view hosts_after first_router first tells noted held_before held consumed (bytes ++ newline ∷ others) status
  unfolding all_played
  line_stopped others _ (bytes_refused refused are) =
      stops_here others statuses.BadInput p.world
      (at_refused_line bytes others (next_line bytes others none) (all_played first_router first p.begins p.lines p.events p.world s p.out p.plays) refused)
      are (leads_nowhere p.world)
  line_stopped others _ (bytes_at_disk c) = stops_within others statuses.DiskFailed c (at_disk_fault (came_in others c.events c.end c.which c.run))
  line_stopped others _ (bytes_at_memory c) = stops_within others statuses.OutOfMemory c (at_no_memory (came_in others c.events c.end c.which c.run))

  module _ {M : Type 0} (letter : M → Letter) (old new : Network M) (t : ScriptView) (closed : Option ℕ)
      (h : HasPlayedBytes view hosts_after (network_view letter old) (puts_given p.world.answered) p.world bytes s t closed) where
    puts_are : puts_given h.played.end.answered ≡ puts_given p.world.answered ++ old.replies.items
    puts_are = h.played.stands.given

    -- memory ran out for what it prints
    pub line_unprinted : (others : List ℕ) → Stopped view hosts_after first_router first tells noted held_before held consumed
        (bytes ++ newline ∷ others) statuses.OutOfMemory
    line_unprinted others =
        stops_here others statuses.OutOfMemory h.played.end
        (at_no_memory (came_in others h.played.events h.played.end
        (part_read h.line h.played.events h.says (whole_is_part p.world s h.line h.played.events h.played.end t closed h.played.played)) h.played.run))
        (still view hosts_after (network_view letter old) (puts_given p.world.answered) h.played.end h.played.stands)
        (h.played.events, h.played.run)

    -- it is written after one note more of all disks
    line_few : IsTrue tells → length held ≤ length held_before + length p.out
    line_few told = omega (arith, ap (λ (l : List ℕ). length l) (p.put told), length-append held_before p.out)

    line_on : LeadsTo p.world h.played.end
    line_on = (h.played.events, h.played.run)

    played_line : Plays first_router first (p.lines ++ bytes ∷ []) (p.events ++ h.played.events) h.played.end t
        (p.out ++ printed s.links old.replies.items closed)
    played_line =
        plays_more p.lines p.events h.played.events p.world h.played.end s t p.out bytes h.line closed old.replies.items p.plays h.says
        h.played.played puts_are

    pub covers_line : (moments : List ℕ) → IsTrue tells
        → AreCovered (all_printed first_router first) first (record { world = h.played.end; moments = moments; length = length held } ∷ noted) held_before
        (p.out ++ printed s.links old.replies.items closed) h.played.end
    covers_line moments told =
        covered_more (all_printed first_router first) first held_before p.world h.played.end noted moments (length held) p.out
        (printed s.links old.replies.items closed) (p.covered told) (
          p.lines ++ bytes ∷ [],
          all_played first_router first p.begins (p.lines ++ bytes ∷ []) (p.events ++ h.played.events) h.played.end t
              (p.out ++ printed s.links old.replies.items closed) played_line,
        )
        (leads_on first p.world h.played.end (p.events, plays_run first_router first p.lines p.events p.world s p.out p.plays) line_on) line_on (line_few told)

  module _ {M : Type 0} (letter : M → Letter) (old new : Network M) (t : ScriptView) (closed : Option ℕ) (after_view : S → SeatView) (noted_after : List Noted)
      (h : HasPlayedBytes after_view hosts_after (network_view letter old) (puts_given p.world.answered) p.world bytes s t closed)
      (covers : IsTrue tells → AreCovered (all_printed first_router first) first noted_after held_before (p.out ++ printed s.links old.replies.items closed)
      h.played.end) where
    gave : puts_given h.played.end.answered ≡ puts_given p.world.answered ++ old.replies.items
    gave = h.played.stands.given

    -- what it prints was put
    pub line_answered : (held' : List ℕ) → new.waiting.items ≡ old.waiting.items → new.replies.items ≡ []
        → Put tells held (printed s.links old.replies.items closed) held'
        → Playing after_view hosts_after (network_view letter new) first_router first tells noted_after held_before held' t
        (consumed ++ (bytes ++ newline ∷ []))
    line_answered held' waits silent put = record {
      lines = p.lines ++ bytes ∷ [];
      events = p.events ++ h.played.events;
      world = h.played.end;
      out = p.out ++ printed s.links old.replies.items closed;
      begins = p.begins;
      plays = plays_more p.lines p.events h.played.events p.world h.played.end s t p.out bytes h.line closed old.replies.items p.plays h.says
          h.played.played gave;
      stands = subst (λ (l : List ToLink). StandsFor after_view hosts_after (network_view letter new) l h.played.end 0) (sym gave)
          (handed_on after_view letter hosts_after (puts_given p.world.answered) h.played.end 0 old new h.played.stands waits silent);
      put = put_then tells held_before p.out held (printed s.links old.replies.items closed) held' p.put put;
      all = ap (λ (b : List ℕ). b ++ (bytes ++ newline ∷ [])) p.all ∙ sym (lines_more p.lines bytes);
      each = all_more (HasNone newline) p.lines bytes p.each none;
      covered = covers;
    }

    -- a prefix of what it prints was put
    pub line_put_short : (others held' : List ℕ) → PutInPart tells held (printed s.links old.replies.items closed) held'
        → Stopped after_view hosts_after first_router first tells noted_after held_before held' consumed (bytes ++ newline ∷ others) statuses.WriteFailed
    line_put_short others held' (part, prefix, put) = record {
      lines = p.lines;
      end = h.played.end;
      out = p.out ++ part;
      cause = at_write_fault (record {
        before = p.events;
        events = h.played.events;
        earlier = p.world;
        script = s;
        new = t;
        out = p.out;
        bytes = bytes;
        others = others;
        line = h.line;
        closed = closed;
        given = old.replies.items;
        part = part;
        played = p.plays;
        next = next_line bytes others none;
        says = h.says;
        last = h.played.played;
        gave = gave;
        in_part = prefix;
        all = refl;
      });
      put = put_then tells held_before p.out held part held' p.put put;
      all = p.all;
      each = p.each;
      kept = held_kept after_view hosts_after.seats h.played.end.nodes h.played.stands.nodes;
      last = h.played.end;
      is_last = inl refl;
      crashes = h.played.stands.crashes;
      covered = λ told. covered_part (all_printed first_router first) first held_before noted_after (p.out ++ part)
          (p.out ++ printed s.links old.replies.items closed) h.played.end (
            prefix.0,
            ap (λ (b : List ℕ). p.out ++ b) prefix.1 ∙ sym (append_assoc p.out part prefix.0),
          ) (covers told);
    }

-- BETWEEN LINES

-- memory ran out for the next line
pub playing_full : {S : Type 0} (view : S → SeatView) (hosts : Hosted S) (network : NetworkView) (first_router : ℕ) (first : World) (tells : Bool)
    (noted : List Noted)
    (held_before held consumed left : List ℕ)
    (s : ScriptView) → Playing view hosts network first_router first tells noted held_before held s consumed
    → Stopped view hosts first_router first tells noted held_before held consumed left statuses.OutOfMemory
playing_full view hosts network first_router first tells noted held_before held consumed left s p = record {
  lines = p.lines;
  end = p.world;
  out = p.out;
  cause = at_no_memory (came_lines p.lines left p.out p.world (all_played first_router first p.begins p.lines p.events p.world s p.out p.plays));
  put = p.put;
  all = p.all;
  each = p.each;
  kept = held_kept view hosts.seats p.world.nodes p.stands.nodes;
  last = p.world;
  is_last = inl refl;
  crashes = p.stands.crashes;
  covered = p.covered;
}

-- BYTES

-- a line more of all bytes
pub bytes_more : (all more begun rest first behind grown cleared : List ℕ) → all ≡ more ++ (begun ++ rest) → rest ≡ first ++ newline ∷ behind
    → grown ≡ begun ++ first → cleared ≡ [] → all ≡ (more ++ (grown ++ newline ∷ [])) ++ (cleared ++ behind)
bytes_more all more begun rest first behind grown cleared whole cut grows none =
    whole ∙ (ap (λ (b : List ℕ). more ++ (begun ++ b)) cut ∙ (regroup more begun first behind
    ∙ (ap (λ (b : List ℕ). (more ++ (b ++ newline ∷ [])) ++ behind) (sym grows)
    ∙ ap (λ (b : List ℕ). (more ++ (grown ++ newline ∷ [])) ++ (b ++ behind)) (sym none))))
  where
    regroup : (a b c d : List ℕ) → a ++ (b ++ (c ++ newline ∷ d)) ≡ (a ++ ((b ++ c) ++ newline ∷ [])) ++ d
    regroup a b c d = sym (simp append_assoc)

-- the next line of all bytes
pub bytes_next : (all more begun rest first behind grown : List ℕ) → all ≡ more ++ (begun ++ rest) → rest ≡ first ++ newline ∷ behind
    → grown ≡ begun ++ first → all ≡ more ++ (grown ++ newline ∷ behind)
bytes_next all more begun rest first behind grown whole cut grows =
    whole ∙ (ap (λ (b : List ℕ). more ++ (begun ++ b)) cut ∙ (ap (λ (b : List ℕ). more ++ b) (sym (append_assoc begun first (newline ∷ behind)))
    ∙ ap (λ (b : List ℕ). more ++ (b ++ newline ∷ behind)) (sym grows)))

-- what the script has, said otherwise
pub playing_from : {S : Type 0} (view : S → SeatView) (hosts : Hosted S) (network : NetworkView) (first_router : ℕ) (first : World) (tells : Bool)
    (noted : List Noted) (held_before held consumed : List ℕ)
    (s t : ScriptView) → s ≡ t → Playing view hosts network first_router first tells noted held_before held s consumed
    → Playing view hosts network first_router first tells noted held_before held t consumed
playing_from view hosts network first_router first tells noted held_before held consumed s t same p =
    subst (λ (x : ScriptView). Playing view hosts network first_router first tells noted held_before held x consumed) same p

-- so many routers there are
pub routers_are : {S : Type 0} (view : S → SeatView) (hosts : Hosted S) (network : NetworkView) (first_router : ℕ) (first : World) (tells : Bool)
    (noted : List Noted)
    (held_before held consumed : List ℕ) (s : ScriptView) → Playing view hosts network first_router first tells noted held_before held s consumed
    → (count : ℕ) → count ≡ length hosts.seats → router_count first_router first ≡ count - first_router
routers_are view hosts network first_router first tells noted held_before held consumed s p count counted =
    omega (arith, counted, held_len view hosts.seats p.world.nodes p.stands.nodes, plays_count first_router first p.lines p.events p.world s p.out p.plays)
