-- How `pipe` and `sim` end where nothing is served, and what is said of an end.
use Rattle.std.specs.Prelude.{◌≡◌, ◌≢◌, ◌⊎◌, ℕ, ◌+◌, None, Bool, IsTrue, List, [], length}
use Rattle.std.proofs.Common.{refl, sym, ap, inl, inr, arith}
use Rattle.outside.specs.Devices.{SourceCall, SinkCall, SourceGave, SinkTook}
use Rattle.opmsg_frames.specs.Frames.{ends}
use Rattle.node_model.specs.Schedule.{openings}
use Rattle.node_model.specs.World.{World, stands}
use Rattle.node_progress.specs.Firsts.{IsFirst}
use Rattle.node_traits.specs.declared.outputs.ToLink.{ToLink}
use Rattle.pipe_driver.specs.Endings.{AllServed, Cause, IsPiped, LastCutShort, SomeServed, disk_failed, most_taken, no_memory}
use Rattle.pipe_driver.specs.Rounds.{bytes_of}
use Rattle.pipe_driver.specs.Schedules.{came_opening}
use Rattle.pipe_driver.specs.declared.status.Status as connections
use Rattle.pipe_driver.specs.declared.status.Status.TheVariants as ended
use Rattle.pipe_driver.proofs.Histories.{piped_run}
use Rattle.pipe_driver.proofs.Since.{since_none}
use Rattle.sim_driver.specs.Simulations.{Cause as ScriptCause, CameTo, IsSimulated, came_opening as began}
use Rattle.sim_driver.specs.Simulations.{disk_failed as script_disk_failed, no_memory as script_no_memory}
use Rattle.sim_driver.proofs.Histories.{simulated_run}
use Rattle.cluster_service.specs.Arguments.{IsServer}
use Rattle.cluster_service.specs.Drivers.{IsDriven}
use Rattle.cluster_service.specs.Headline.{Headline, HeadlineOf, ScriptHeadline}
use Rattle.journal_starts.specs.Journals.{AreJournals}
use Rattle.cluster_service.specs.Statuses.{OfConnection}
use Rattle.cluster_service.specs.Stops.{StopsOpening, at_opening_fault, at_damage, at_opening_memory}
use Rattle.cluster_service.specs.declared.arguments.Command.{Command}
use Rattle.cluster_service.specs.declared.arguments.Command.TheVariants.{Pipe, Sim, Serve}
use Rattle.cluster_service.specs.declared.status.Status.{Status}
use Rattle.cluster_service.specs.declared.status.Status.TheVariants as statuses
use Rattle.cluster_service.proofs.Answered.{all_played, all_served}
use Rattle.restart_laws.specs.Calls.{wholes}
use Rattle.restart_laws.proofs.ReachedCalls.{run_whole}
use Rattle.cluster_service.proofs.OneHistories.{one_history}

-- no request was served, and no node was opened
none_served : (router : ℕ) (first : World) (gives : ℕ → Type 0) → SomeServed first gives router [] [] [] first
none_served router first gives = record {
  under_way = [];
  others = [];
  whole = first;
  asked = refl;
  came = came_opening [] first (openings 0 (length first.nodes), refl) (stands first);
  replied = ap (λ (replies : List ToLink). bytes_of replies) (sym (since_none first first refl));
}

none_played : (first_router : ℕ) (first : World) → CameTo first_router first [] [] [] first
none_played first_router first = began [] [] first (openings 0 (length first.nodes), refl) (stands first)

module _ (source : SourceCall) (sink : SinkCall) (tells : Bool) (files_after : List (List ℕ)) (leaves : World → Type 0)
    (owed : World → List ℕ → Type 0) (gives : ℕ → Type 0) (rest : ℕ) where
  headline_from : (router : ℕ) (first : World) → IsFirst first → (ending : connections.Status)
      → IsPiped source sink gives router (λ nodes. IsTrue tells → AreJournals files_after nodes) leaves owed first most_taken ending rest
      → Headline router first source sink tells files_after leaves owed gives ending rest
  headline_from router first begins ending piped = record {
    piped = piped;
    history =
        let run = piped_run source sink gives router (λ nodes. IsTrue tells → AreJournals files_after nodes) leaves owed first most_taken ending rest piped in
        one_history first begins (wholes run.0) piped.end (run_whole first piped.end run.0 run.1);
    answered = λ ended none_missed. (all_served most_taken _ piped.taken piped.fault _ _ _ ending piped.cause ended).answered none_missed;
  }

  script_from : (first_router : ℕ) (first : World) → IsFirst first → (ending : connections.Status)
      → IsSimulated source sink first_router (λ nodes. IsTrue tells → AreJournals files_after nodes) leaves owed first most_taken ending
      → rest ≡ 0 → ScriptHeadline first_router first source sink tells files_after leaves owed ending rest
  script_from first_router first begins ending simulated none = record {
    simulated = simulated;
    history =
        let run = simulated_run source sink first_router (λ nodes. IsTrue tells → AreJournals files_after nodes) leaves owed first most_taken ending simulated in
        one_history first begins run.0 simulated.end run.1;
    answered = λ ended last none none_missed.
        let all =
        all_played first_router first most_taken _ simulated.taken simulated.lines simulated.left simulated.put simulated.end ending simulated.cause ended in
        all.answered last none none_missed;
    answered_after = λ ended last none_missed.
        let all =
        all_played first_router first most_taken _ simulated.taken simulated.lines simulated.left simulated.put simulated.end ending simulated.cause ended in
        (all.events, all.answered_after last none_missed);
    no_rest = none;
  }

  pub headline_of : (command : Command) (first : World) → IsFirst first → (ending : connections.Status)
      → IsDriven command first source sink gives (λ nodes. IsTrue tells → AreJournals files_after nodes) leaves owed ending rest
      → HeadlineOf command first source sink tells files_after leaves owed gives ending rest
  headline_of (Pipe shards) first begins ending driven = headline_from (1 + shards) first begins ending driven
  headline_of (Sim shards routers) first begins ending driven = script_from (1 + shards) first begins ending driven.0 driven.1
  headline_of (Serve server) first begins ending driven = absurd driven

  -- Nothing was taken and nothing put, in a world whose journals the files are.
  module _ (first : World) (none : rest ≡ 0) (took : SourceGave source []) (put : SinkTook sink [])
      (files : IsTrue tells → AreJournals files_after first.nodes) (crashes : leaves first) (debts : owed first []) where
    none_piped : (router : ℕ) (ending : connections.Status)
        → Cause most_taken (IsTrue source.tells → source.left_after ≡ []) [] None (AllServed first [] [] [] first)
        (SomeServed first gives router [] [] [] first) (LastCutShort first [] [] [] first) ending
        → IsPiped source sink gives router (λ nodes. IsTrue tells → AreJournals files_after nodes) leaves owed first most_taken ending rest
    none_piped router ending cause = record {
      taken = [];
      put = [];
      requests = [];
      left = [];
      fault = None;
      rounds = [];
      end = first;
      took = took;
      put_all = put;
      frames = ends 0 [] refl;
      rest_left = none;
      most = omega arith;
      one = record { moments = tt; routers = tt; links = tt; numbers = tt };
      cause = cause;
      files = files;
      last = first;
      is_last = inl refl;
      crashes = crashes;
      acknowledged = debts;
    }

    none_simulated : (first_router : ℕ) (ending : connections.Status)
        → ScriptCause first_router first most_taken (IsTrue source.tells → source.left_after ≡ []) [] [] [] [] first ending
        → IsSimulated source sink first_router (λ nodes. IsTrue tells → AreJournals files_after nodes) leaves owed first most_taken ending
    none_simulated first_router ending cause = record {
      taken = [];
      put = [];
      lines = [];
      left = [];
      end = first;
      took = took;
      put_all = put;
      parts = refl;
      each = tt;
      most = omega arith;
      cause = cause;
      files = files;
      last = first;
      is_last = inl refl;
      crashes = crashes;
      acknowledged = debts;
    }

    disk_driven : (command : Command) → ¬ IsServer command
        → IsDriven command first source sink gives (λ nodes. IsTrue tells → AreJournals files_after nodes) leaves owed ended.DiskFailed rest
    disk_driven (Pipe shards) driver = none_piped (1 + shards) ended.DiskFailed (disk_failed (none_served (1 + shards) first gives))
    disk_driven (Sim shards routers) driver =
        (none_simulated (1 + shards) ended.DiskFailed (script_disk_failed (none_played (1 + shards) first)), none)
    disk_driven (Serve server) driver = absurd (driver tt)

    memory_driven : (command : Command) → ¬ IsServer command
        → IsDriven command first source sink gives (λ nodes. IsTrue tells → AreJournals files_after nodes) leaves owed ended.OutOfMemory rest
    memory_driven (Pipe shards) driver = none_piped (1 + shards) ended.OutOfMemory (no_memory (none_served (1 + shards) first gives))
    memory_driven (Sim shards routers) driver =
        (none_simulated (1 + shards) ended.OutOfMemory (script_no_memory (none_played (1 + shards) first)), none)
    memory_driven (Serve server) driver = absurd (driver tt)

    -- a disk failed, or memory ran out, before anything was served
    pub unopened : (command : Command) → ¬ IsServer command → IsFirst first → (status : Status)
        → (status ≡ statuses.DiskFailed) ⊎ (status ≡ statuses.OutOfMemory)
        → OfConnection status (λ ending. HeadlineOf command first source sink tells files_after leaves owed gives ending rest)
    unopened command driver begins status (inl failed) =
        (ended.DiskFailed, failed, headline_of command first begins ended.DiskFailed (disk_driven command driver))
    unopened command driver begins status (inr memory) =
        (ended.OutOfMemory, memory, headline_of command first begins ended.OutOfMemory (memory_driven command driver))

-- why journals are not opened whose files are not damaged
pub opening_ends : (status : Status) → StopsOpening status → status ≢ statuses.DamagedJournal → (status ≡ statuses.DiskFailed) ⊎ (status ≡ statuses.OutOfMemory)
opening_ends status at_opening_fault other = inl refl
opening_ends status at_damage other = absurd (other refl)
opening_ends status at_opening_memory other = inr refl

-- and that is no end of another kind
pub opening_not_refused : (status : Status) → StopsOpening status
    → (status ≢ statuses.BadArguments) × (status ≢ statuses.ReadFailed) × (status ≢ statuses.WriteFailed) × (status ≢ statuses.AcceptFailed)
opening_not_refused status at_opening_fault = (λ e. cc, λ e. cc, λ e. cc, λ e. cc)
opening_not_refused status at_damage = (λ e. cc, λ e. cc, λ e. cc, λ e. cc)
opening_not_refused status at_opening_memory = (λ e. cc, λ e. cc, λ e. cc, λ e. cc)
