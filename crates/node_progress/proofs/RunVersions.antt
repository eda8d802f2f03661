-- The runs of an open write were sent with the versions of tables that the catalogue had.
use Rattle.std.proofs.Common.{◌≡◌, ℕ, List, ◌++◌}
use Rattle.std.specs.Prelude.{Option}
use Rattle.std.specs.List.{AllByRecursion}
use Rattle.history_model.proofs.Lists.{all_weaken}
use Rattle.chunk_model.specs.Changes.{Change}
use Rattle.chunk_model.specs.Tables.{Table, first_shard}
use Rattle.chunk_model.specs.Verdicts.{sent_by}
use Rattle.reply_model.specs.Outcomes.{StatementOutcome}
use Rattle.node_model.specs.States.{Run, Work, writing, reading, sharding, splitting, Open}
use Rattle.node_model.specs.RouterNext.{left_of}
use Rattle.node_laws.proofs.SentRuns.{rest_of, all_left}
use Rattle.node_progress.proofs.Versions.{WasHad, had_later}

-- the run was sent to the first shard, with the versions of a table that the catalogue had
pub record RunWasSent (changes : List Change) (namespace : List ℕ) (run : Run) : Type 0 where
  pub table : Table
  pub had : WasHad changes table
  pub name : table.namespace ≡ namespace
  pub shard : run.shard ≡ first_shard
  pub versions : run.sent ≡ sent_by table first_shard

abbrev pub RunsWereSent : List Change → (namespace : List ℕ) → Work → Type 0
RunsWereSent changes namespace (writing kind ordered statements c) = AllByRecursion (RunWasSent changes namespace) c.runs
RunsWereSent changes namespace (reading named at stages telling) = Unit {0}
RunsWereSent changes namespace sharding = Unit {0}
RunsWereSent changes namespace (splitting middle) = Unit {0}

-- of an open request
abbrev pub OpenRuns : List Change → Open → Type 0
OpenRuns changes q = RunsWereSent changes q.namespace q.work

pub runs_later : (news changes later : List Change) (namespace : List ℕ) (work : Work) → later ≡ news ++ changes → RunsWereSent changes namespace work
    → RunsWereSent later namespace work
runs_later news changes later namespace (writing kind ordered statements c) is all =
    all_weaken (RunWasSent changes namespace) (RunWasSent later namespace) c.runs (λ run s. record {
      table = s.table;
      had = had_later news changes later s.table is s.had;
      name = s.name;
      shard = s.shard;
      versions = s.versions;
    }) all
runs_later news changes later namespace (reading named at stages telling) is all = tt
runs_later news changes later namespace sharding is all = tt
runs_later news changes later namespace (splitting middle) is all = tt

-- what is left of runs
pub left_sent : (changes : List Change) (namespace : List ℕ) (answers : List (Option StatementOutcome)) (runs : List Run)
    → AllByRecursion (RunWasSent changes namespace) runs → AllByRecursion (RunWasSent changes namespace) (left_of answers runs)
left_sent changes namespace answers runs all =
    all_left (RunWasSent changes namespace) answers runs
    (all_weaken (RunWasSent changes namespace) (λ (run : Run). RunWasSent changes namespace (rest_of answers run)) runs
    (λ run s. record { table = s.table; had = s.had; name = s.name; shard = s.shard; versions = s.versions }) all)
