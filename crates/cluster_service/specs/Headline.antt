-- What one call says of the bytes that it took and put, and of the disks that it hands back.
use Rattle.std.specs.Prelude.{◌≡◌, ℕ, ◌+◌, Bool, IsTrue, List}
use Rattle.outside.specs.Devices.{SourceCall, SinkCall}
use Rattle.node_model.specs.Journal.{changes_kept}
use Rattle.node_model.specs.OneHistory.{OneHistory}
use Rattle.node_model.specs.Accounts.{changes_in}
use Rattle.node_model.specs.World.{World, journal_at, account_of}
use Rattle.node_replay.specs.Restarts.{EventOrStop}
use Rattle.restart_laws.specs.Calls.{HaveOwnEntries}
use Rattle.node_progress.specs.Completion.{AreAnswered}
use Rattle.pipe_driver.specs.Endings.{IsPiped, most_taken}
use Rattle.pipe_driver.specs.declared.status.Status.{Status}
use Rattle.pipe_driver.specs.declared.status.Status.TheVariants as statuses
use Rattle.sim_driver.specs.Simulations.{AreAnsweredAfterRestarts, EndInSettle, HaveNoRestart, IsSimulated}
use Rattle.journal_starts.specs.Journals.{AreJournals}
use Rattle.cluster_service.specs.Lasting.{JournalsStayTrue}
use Rattle.cluster_service.specs.declared.arguments.Command.{Command}
use Rattle.cluster_service.specs.declared.arguments.Command.TheVariants.{Pipe, Sim, Serve}

-- what the nodes of a world store, and the requests and replies, are one history, where the changes have the steps in which they were made, and each journal
-- the entries of its own shard, in the order of their times; and what the journals say stays true
pub record MakesOneHistory (end : World) : Type 0 where
  pub changes : changes_in end.changed ≡ changes_kept (journal_at end.nodes 0)
  pub one : OneHistory (account_of end)
  pub own : HaveOwnEntries end.nodes
  pub lasting : JournalsStayTrue end

-- The bytes taken are requests and a rest, and the bytes put are the replies of a run of the nodes from the first world on, by the schedule, whose journals
-- the disks store; the requests come to the router of this number. For all inputs, what the nodes store then is one legal history of an unsharded collection
-- with each statement at most once, in which each reply is a right one. `tells` is whether the files of the disks are observable; `leaves` gives the files
-- after a crash at any moment of the call, of the world up to which the run may proceed; and `owed` says that each byte was put only after what it says was
-- durable. Where the input was read to its end, and no node missed a step, every request that was taken since the first world is answered.
pub record Headline (router : ℕ) (first : World) (source : SourceCall) (sink : SinkCall) (tells : Bool) (files : List (List ℕ)) (leaves : World → Type 0)
    (owed : World → List ℕ → Type 0) (gives : ℕ → Type 0) (status : Status) (rest : ℕ) : Type 0 where
  pub piped : IsPiped source sink gives router (λ nodes. IsTrue tells → AreJournals files nodes) leaves owed first most_taken status rest
  pub history : MakesOneHistory piped.end
  pub answered : status ≡ statuses.InputEnded → piped.end.missed ≡ first.missed → AreAnswered first piped.end

-- The bytes taken are lines of a script and a rest, and the bytes put are what a run of the nodes from the first world on prints, of the events that the
-- lines say; the nodes from this number on are routers. What their journals keep is one history too, in whatever order the script delivers. Where the script
-- was played to its end, its last line is `settle`, and no node missed a step, every request that was taken since the first world is answered, if no line
-- starts a node again, and otherwise every one that was taken since the last such line.
pub record ScriptHeadline (first_router : ℕ) (first : World) (source : SourceCall) (sink : SinkCall) (tells : Bool) (files : List (List ℕ))
    (leaves : World → Type 0) (owed : World → List ℕ → Type 0) (status : Status) (rest : ℕ) : Type 0 where
  pub simulated : IsSimulated source sink first_router (λ nodes. IsTrue tells → AreJournals files nodes) leaves owed first most_taken status
  pub history : MakesOneHistory simulated.end
  pub answered : status ≡ statuses.InputEnded → EndInSettle simulated.lines → HaveNoRestart simulated.lines
      → simulated.end.missed ≡ first.missed → AreAnswered first simulated.end
  pub answered_after : status ≡ statuses.InputEnded → EndInSettle simulated.lines → simulated.end.missed ≡ first.missed
      → (events : List EventOrStop) × AreAnsweredAfterRestarts first_router first simulated.lines events simulated.end
  pub no_rest : rest ≡ 0

-- by the command, which is no server, of a run from the first world on
abbrev pub HeadlineOf : Command → World → SourceCall → SinkCall → Bool → List (List ℕ) → (World → Type 0) → (World → List ℕ → Type 0) → (ℕ → Type 0) → Status
    → ℕ → Type 0
HeadlineOf (Pipe shards) first source sink tells files leaves owed gives status rest =
    Headline (1 + shards) first source sink tells files leaves owed gives status rest
HeadlineOf (Sim shards routers) first source sink tells files leaves owed gives status rest =
    ScriptHeadline (1 + shards) first source sink tells files leaves owed status rest
HeadlineOf (Serve server) first source sink tells files leaves owed gives status rest = ⊥
