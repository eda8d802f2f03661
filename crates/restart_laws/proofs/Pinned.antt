-- What was read stays as it was read, by the facts on messages.
use Rattle.std.proofs.Common.{ℕ, List, ◌++◌, subst}
use Rattle.std.specs.Prelude.{Some, None, length}
use Rattle.std.specs.List.{AllByRecursion}
use Rattle.history_model.proofs.Lists.{all_weaken}
use Rattle.chunk_model.specs.Changes.{Change, create_change, split_change, commit_change}
use Rattle.reply_model.specs.Exchanges.{Asked}
use Rattle.node_model.specs.Journal.{changes_kept}
use Rattle.node_model.specs.Letters.{no_time, at_time, Body, table_ask, table_told, split_ask, split_done, write_ask, write_done, read_ask, half_ask, read_rows, refused, time_ask, time_told, Letter}
use Rattle.node_model.specs.World.{Held, World, journal_at, start}
use Rattle.node_laws.proofs.Views.{Book, view_of}
use Rattle.node_laws.proofs.Lists.{all_prefix, all_behind}
use Rattle.node_laws.proofs.ReadFacts.{BeginsAfter}
use Rattle.node_laws.proofs.Facts.{BodyFits, SentFits}
use Rattle.node_laws.proofs.StepsKeep.{StaysTrue}
use Rattle.node_replay.specs.Restarts.{EventOrStop, RunWithStops}
use Rattle.restart_laws.specs.Pinned.{CreatesLater, IsPinnedBy, IsPinned}
use Rattle.restart_laws.specs.Calls.{with_mail, Calls, Reached}
use Rattle.restart_laws.proofs.Mail.{mail_runs, run_then, run_sends, all_later, calls_are_one_run}
use Rattle.restart_laws.proofs.Runs.{start_whole, runs_with_stops_stay_true}

creates_later : (namespace : List ℕ) (at : ℕ) (x : Change) → BeginsAfter namespace at x → CreatesLater namespace at x
creates_later namespace at (create_change c) b = b
creates_later namespace at (split_change s) b = tt
creates_later namespace at (commit_change c) b = tt

body_pinned : (nodes : List Held) (book : Book) (asked : List Asked) (sender receiver time : ℕ) (b : Body)
    → BodyFits (view_of nodes book) asked sender receiver time b → IsPinnedBy nodes sender b
body_pinned nodes book asked sender receiver time (half_ask id turn namespace at half documents) f = (f.0.documents_are, f.0.settled)
body_pinned nodes book asked sender receiver time (table_told namespace create (at_time at) None) f = (
  all_weaken (BeginsAfter namespace at) (CreatesLater namespace at) (changes_kept (journal_at nodes 0)) (λ x b. creates_later namespace at x b) f.1,
  f.0,
)
body_pinned nodes book asked sender receiver time (table_told namespace create (at_time at) (Some t)) f = tt
body_pinned nodes book asked sender receiver time (table_told namespace create no_time table) f = tt
body_pinned nodes book asked sender receiver time (table_ask namespace create at) f = tt
body_pinned nodes book asked sender receiver time (split_ask id namespace middle) f = tt
body_pinned nodes book asked sender receiver time (split_done id found) f = tt
body_pinned nodes book asked sender receiver time (write_ask id turn ordered namespace statements sent) f = tt
body_pinned nodes book asked sender receiver time (write_done id dones) f = tt
body_pinned nodes book asked sender receiver time (read_ask id turn namespace at half sent) f = tt
body_pinned nodes book asked sender receiver time (read_rows id turn rows) f = tt
body_pinned nodes book asked sender receiver time (refused what cause) f = tt
body_pinned nodes book asked sender receiver time (time_ask id) f = tt
body_pinned nodes book asked sender receiver time (time_told id) f = tt

pub true_pinned : (w : World) → StaysTrue w → AllByRecursion (IsPinned w) w.sent
true_pinned w (known, moments, told, based, caused) =
    all_weaken (SentFits (view_of w.nodes known.book) w.changed w.asked w.answered w.given) (IsPinned w) w.sent
    (λ (m : Letter) f. body_pinned w.nodes known.book w.asked m.sender m.receiver m.time m.body f.0) known.good.letters

pub reads_are_pinned : (others routers : ℕ) (events : List EventOrStop) (w : World) → RunWithStops (start others routers) events w
    → AllByRecursion (IsPinned w) w.sent
reads_are_pinned others routers events w run =
    true_pinned w (runs_with_stops_stay_true (start others routers) w events (start_whole others routers) run).facts

-- also over later calls
pub what_was_read_stays : (others routers : ℕ) (u w : World) → Reached others routers u → Calls u w → AllByRecursion (IsPinned w) u.sent
what_was_read_stays others routers u w r calls =
    let before = calls_are_one_run (start others routers) u r in
    let o = calls_are_one_run u w calls in
    let run : RunWithStops (start others routers) (before.events ++ all_later (length before.mail) o.events) (with_mail before.mail (with_mail o.mail w)) =
    run_then (start others routers) (with_mail before.mail u) (with_mail before.mail (with_mail o.mail w)) before.events
    (all_later (length before.mail) o.events) before.run (mail_runs before.mail u (with_mail o.mail w) o.events o.run) in
    let all : AllByRecursion (IsPinned w) (before.mail ++ (o.mail ++ w.sent)) =
    reads_are_pinned others routers (before.events ++ all_later (length before.mail) o.events) (with_mail before.mail (with_mail o.mail w)) run in
    let more = run_sends u (with_mail o.mail w) o.events o.run in
    all_prefix (IsPinned w) u.sent more.0
    (subst (λ l. AllByRecursion (IsPinned w) l) more.1 (all_behind (IsPinned w) before.mail (o.mail ++ w.sent) all))
