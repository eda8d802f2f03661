-- What the nodes store after a run is one history.
use Rattle.std.specs.Prelude.{List}
use Rattle.node_model.specs.World.{World, start}
use Rattle.node_replay.specs.Restarts.{EventOrStop, RunWithStops}
use Rattle.restart_laws.specs.Calls.{Reached}
use Rattle.restart_laws.proofs.ReachedCalls.{calls_proceed, reached_calls_keep_changes, reached_calls_make_one_history, reached_calls_own_journals}
use Rattle.node_progress.specs.Firsts.{IsFirst}
use Rattle.sim_driver.proofs.Plays.{first_reached}
use Rattle.cluster_service.specs.Headline.{MakesOneHistory}
use Rattle.cluster_service.proofs.Lasting.{reached_journals_stay_true}

pub one_history : (first : World) → IsFirst first → (events : List EventOrStop) (w : World) → RunWithStops first events w → MakesOneHistory w
one_history first begins events w run =
    let r = first_reached first begins in
    let reached : Reached r.0 r.1 w = calls_proceed (start r.0 r.1) first w events r.2 run in
    record {
      changes = reached_calls_keep_changes r.0 r.1 w reached;
      one = reached_calls_make_one_history r.0 r.1 w reached;
      own = reached_calls_own_journals r.0 r.1 w reached;
      lasting = reached_journals_stay_true r.0 r.1 w reached;
    }
