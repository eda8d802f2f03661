-- However a script ends, its nodes took part in one run, which makes one history.
use Rattle.std.proofs.Common.{◌≡◌, ℕ, List, ◌++◌}
use Rattle.outside.specs.Devices.{SourceCall, SinkCall}
use Rattle.node_model.specs.Journal.{changes_kept}
use Rattle.node_model.specs.OneHistory.{OneHistory}
use Rattle.node_model.specs.Accounts.{changes_in}
use Rattle.node_model.specs.World.{Held, World, journal_at, account_of, start}
use Rattle.node_replay.specs.Restarts.{EventOrStop, RunWithStops}
use Rattle.restart_laws.specs.Calls.{wholes}
use Rattle.restart_laws.proofs.ReachedCalls.{calls_proceed, reached_calls_keep_changes, reached_calls_make_one_history, run_whole, stops_then}
use Rattle.node_progress.specs.Firsts.{IsFirst}
use Rattle.pipe_driver.specs.declared.status.Status.{Status}
use Rattle.sim_driver.specs.Simulations.{AllPlayed, CameTo, came_opening, came_lines, came_part, LastPutShort, Cause, IsSimulated}
use Rattle.sim_driver.specs.Simulations.{input_ended, read_failed, write_failed, disk_failed, no_memory, line_refused, line_unended, too_long}
use Rattle.sim_driver.proofs.Plays.{first_reached, played_run, plays_run}

module _ (first_router : ℕ) (first : World) where
  all_run : (lines : List (List ℕ)) (put : List ℕ) (end : World) → AllPlayed first_router first lines put end → (events : List EventOrStop)
      × RunWithStops first events end
  all_run lines put end all = (all.events, plays_run first_router first lines all.events end all.script put all.played)

  came_run : (lines : List (List ℕ)) (left put : List ℕ) (end : World) → CameTo first_router first lines left put end
      → (events : List EventOrStop) × RunWithStops first events end
  came_run _ _ _ _ (came_opening left events w begun run) = (wholes events, run_whole first w events run)
  came_run _ _ _ _ (came_lines lines left put w all) = all_run lines put w all
  came_run _ _ _ _ (came_part lines before events left put bytes others u w s plays next part run) =
      (before ++ events, stops_then first u w before events (plays_run first_router first lines before u s put plays) run)

  short_run : (lines : List (List ℕ)) (left put : List ℕ) (end : World) → LastPutShort first_router first lines left put end
      → (events : List EventOrStop) × RunWithStops first events end
  short_run lines left put end short = (
    short.before ++ short.events,
    stops_then first short.earlier end short.before short.events
        (plays_run first_router first lines short.before short.earlier short.script short.out short.played)
        (played_run short.earlier short.script short.line short.events end short.new short.closed short.last),
  )

  cause_run : (limit : ℕ) (at_end : Type 0) (taken : List ℕ) (lines : List (List ℕ)) (left put : List ℕ) (end : World) (status : Status)
      → Cause first_router first limit at_end taken lines left put end status → (events : List EventOrStop) × RunWithStops first events end
  cause_run limit at_end taken lines left put end _ (input_ended ends below none all) = all_run lines put end all
  cause_run limit at_end taken lines left put end _ (read_failed below none all) = all_run lines put end all
  cause_run limit at_end taken lines left put end _ (write_failed short) = short_run lines left put end short
  cause_run limit at_end taken lines left put end _ (disk_failed came) = came_run lines left put end came
  cause_run limit at_end taken lines left put end _ (no_memory came) = came_run lines left put end came
  cause_run limit at_end taken lines left put end _ (line_refused bytes others next all refused) = all_run lines put end all
  cause_run limit at_end taken lines left put end _ (line_unended ends below some none all) = all_run lines put end all
  cause_run limit at_end taken lines left put end _ (too_long long none all) = all_run lines put end all

-- whatever the script says, and however it ended
module _ (source : SourceCall) (sink : SinkCall) (first_router : ℕ) (kept : List Held → Type 0) (leaves : World → Type 0)
    (owed : World → List ℕ → Type 0) (first : World) (limit : ℕ) (status : Status) where
  pub simulated_run : (s : IsSimulated source sink first_router kept leaves owed first limit status) → (events : List EventOrStop)
      × RunWithStops first events s.end
  simulated_run s =
      cause_run first_router first limit _ s.taken s.lines s.left s.put s.end status s.cause

  pub simulated_history : IsFirst first → (s : IsSimulated source sink first_router kept leaves owed first limit status)
      → OneHistory (account_of s.end)
  simulated_history begins s =
      let run = simulated_run s in
      let reached = first_reached first begins in
      reached_calls_make_one_history reached.0 reached.1 s.end (calls_proceed (start reached.0 reached.1) first s.end run.0 reached.2 run.1)

  -- its changes of the catalogue are those that the catalogue's journal stores
  pub simulated_changes : IsFirst first → (s : IsSimulated source sink first_router kept leaves owed first limit status)
      → changes_in s.end.changed ≡ changes_kept (journal_at s.end.nodes 0)
  simulated_changes begins s =
      let run = simulated_run s in
      let reached = first_reached first begins in
      reached_calls_keep_changes reached.0 reached.1 s.end (calls_proceed (start reached.0 reached.1) first s.end run.0 reached.2 run.1)
