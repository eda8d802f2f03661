-- What stays true by the journals, over calls.
use Rattle.std.specs.Prelude.{ℕ}
use Rattle.node_model.specs.World.{World, start}
use Rattle.node_laws.proofs.Lists.{all_behind}
use Rattle.restart_laws.specs.Calls.{Reached, with_mail}
use Rattle.restart_laws.specs.Pinned.{IsPinned}
use Rattle.restart_laws.proofs.Mail.{calls_are_one_run}
use Rattle.restart_laws.proofs.PastTables.{reached_tables_are_the_catalogues}
use Rattle.restart_laws.proofs.Pinned.{reads_are_pinned}
use Rattle.restart_laws.proofs.ReachedCalls.{reached_calls_hold, reached_calls_replay}
use Rattle.restart_laws.proofs.TablesAtTimes.{tables_of_their_times}
use Rattle.cluster_service.specs.Lasting.{JournalsStayTrue}

pub reached_journals_stay_true : (others routers : ℕ) (w : World) → Reached others routers w → JournalsStayTrue w
reached_journals_stay_true others routers w r =
    let o = calls_are_one_run (start others routers) w r in
    let t = reached_tables_are_the_catalogues others routers w r in
    record {
      replays = (reached_calls_replay others routers w r).0;
      times = (reached_calls_hold others routers w r).0;
      tables = t.0;
      stored = t.1;
      messages = t.2;
      in_their_time = λ u c. tables_of_their_times u w c;
      reads = all_behind (IsPinned w) o.mail w.sent (reads_are_pinned others routers o.events (with_mail o.mail w) o.run);
    }
