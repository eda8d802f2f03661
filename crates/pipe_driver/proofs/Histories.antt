-- However a connection ends, its nodes took part in one run, which makes one history.
use Rattle.std.proofs.Common.{◌≡◌, ℕ, List, [], ◌∷◌, ◌++◌, length}
use Rattle.std.specs.Prelude.{Option}
use Rattle.outside.specs.Devices.{SourceCall, SinkCall}
use Rattle.opmsg_frames.specs.Outline.{FrameFault}
use Rattle.node_model.specs.Journal.{changes_kept}
use Rattle.node_model.specs.OneHistory.{OneHistory}
use Rattle.node_model.specs.Accounts.{changes_in}
use Rattle.node_model.specs.Requests.{Request}
use Rattle.node_model.specs.Schedule.{Round, serves}
use Rattle.node_model.specs.World.{Held, World, Event, Run, journal_at, account_of}
use Rattle.node_model.proofs.Schedules.{pipes_run, run_then}
use Rattle.node_laws.proofs.Runs.{makes_one_history}
use Rattle.restart_laws.proofs.Kept.{events_keep}
use Rattle.node_progress.specs.Firsts.{IsFirst}
use Rattle.node_progress.proofs.Firsts.{first_true}
use Rattle.pipe_driver.specs.Schedules.{Came, came_whole, came_opening, came_part}
use Rattle.pipe_driver.specs.Endings.{AllServed, SomeServed, LastCutShort, Cause, input_ended, read_failed, write_failed}
use Rattle.pipe_driver.specs.Endings.{disk_failed, no_memory, no_request, too_long, IsPiped}
use Rattle.pipe_driver.specs.declared.status.Status.{Status}

came_run : (first : World) (gives : ℕ → Type 0) (router : ℕ) (rounds : List Round) (under_way : List Request) (whole end : World)
    → Came first gives router rounds under_way whole end
    → (events : List Event) × Run first events end
came_run first gives router _ _ _ _ (came_whole rounds events w next pipes) = (events, pipes_run first rounds events w next pipes)
came_run first gives router _ _ _ _ (came_opening events w begun run) = (events, run)
came_run first gives router _ _ _ _ (came_part rounds before events u w next moment request pipes given part run) =
    (before ++ events, run_then first before u events w (pipes_run first rounds before u next pipes) run)

module _ (first : World) (limit : ℕ) (gives : ℕ → Type 0) (router : ℕ) (put : List ℕ) (requests : List Request) (rounds : List Round) (end : World) where
  all_run : AllServed first put requests rounds end → (events : List Event) × Run first events end
  all_run all = (all.events, pipes_run first rounds all.events end all.next all.served)

  some_run : SomeServed first gives router put requests rounds end → (events : List Event) × Run first events end
  some_run some = came_run first gives router rounds some.under_way some.whole end some.came

  short_run : LastCutShort first put requests rounds end → (events : List Event) × Run first events end
  short_run short = (
    short.events ++ short.more,
    pipes_run first (short.earlier ++ short.last ∷ []) (short.events ++ short.more) end (length end.sent)
        (serves short.earlier short.last short.events short.more short.before end short.next short.served short.round),
  )

  cause_run : (at_end : Type 0) (taken : List ℕ) (fault : Option (FrameFault × ℕ)) (status : Status)
      → Cause limit at_end taken fault (AllServed first put requests rounds end)
      (SomeServed first gives router put requests rounds end) (LastCutShort first put requests rounds end) status
      → (events : List Event) × Run first events end
  cause_run at_end taken fault status (input_ended at_its_end short none all) = all_run all
  cause_run at_end taken fault status (read_failed short none all) = all_run all
  cause_run at_end taken fault status (write_failed short) = short_run short
  cause_run at_end taken fault status (disk_failed some) = some_run some
  cause_run at_end taken fault status (no_memory some) = some_run some
  cause_run at_end taken fault status (no_request is all) = all_run all
  cause_run at_end taken fault status (too_long long none all) = all_run all

-- whatever was requested, and however the connection ended
module _ (source : SourceCall) (sink : SinkCall) (gives : ℕ → Type 0) (router : ℕ) (kept : List Held → Type 0) (leaves : World → Type 0)
    (owed : World → List ℕ → Type 0) (first : World) (limit : ℕ) (status : Status) (rest : ℕ) where
  pub piped_run : (piped : IsPiped source sink gives router kept leaves owed first limit status rest) → (events : List Event) × Run first events piped.end
  piped_run piped = cause_run first limit gives router piped.put piped.requests piped.rounds piped.end _ piped.taken piped.fault status piped.cause

  pub piped_history : IsFirst first → (piped : IsPiped source sink gives router kept leaves owed first limit status rest)
      → OneHistory (account_of piped.end)
  piped_history begins piped =
      let run = piped_run piped in
      makes_one_history piped.end (events_keep first piped.end run.0 (first_true first begins) run.1)

  -- its changes of the catalogue are those that the catalogue's journal stores
  pub piped_changes : IsFirst first → (piped : IsPiped source sink gives router kept leaves owed first limit status rest)
      → changes_in piped.end.changed ≡ changes_kept (journal_at piped.end.nodes 0)
  piped_changes begins piped =
      let run = piped_run piped in
      (events_keep first piped.end run.0 (first_true first begins) run.1).0.good.dated
