-- In each transition of a router: its runs that are under way after it were sent with the versions of tables that the catalogue had.
use Rattle.std.proofs.Common.{ℕ, ◌+◌, ◌<◌, List, [], refl, sym, ap, subst, ◌∙◌}
use Rattle.std.specs.List.{AllByRecursion}
use Rattle.history_model.specs.History.{IsIn}
use Rattle.history_model.proofs.Lists.{all_at, all_append}
use Rattle.chunk_model.specs.Changes.{Change}
use Rattle.chunk_model.specs.Tables.{first_shard}
use Rattle.node_model.specs.Letters.{table_told, Letter, Input, moment_input, Effect}
use Rattle.node_model.specs.States.{Router, Open}
use Rattle.node_model.specs.RouterRequests.{id_of, shards_of, heard, says, reached}
use Rattle.node_model.specs.RouterNext.{Next, stays, is_told, asks_again, adopted, with_told, with_part, was_created, begins_work, next_of, stay_in, table_refused, at_moment}
use Rattle.node_model.specs.RouterRows.{opened_request, RouterRow, router_begin, router_opened, router_plain, router_more, router_no_cursor, router_kill, router_take, router_learn, router_split, router_not_sharded, router_reach, router_hear, router_ahead, router_note, router_refused, router_no_table, router_part, router_read, router_excess, router_overflow, router_late, router_skip, router_moment}
use Rattle.command_model.specs.Command.{command_of}
use Rattle.reply_model.specs.Outcomes.{lack_refusal}
use Rattle.node_laws.proofs.KnownTables.{all_adopted}
use Rattle.node_laws.proofs.OpenRequests.{open_of_found, all_without}
use Rattle.node_progress.proofs.Versions.{IsTableOf}
use Rattle.node_progress.proofs.RunVersions.{OpenRuns}
use Rattle.node_progress.proofs.Lateness.{IsFresh}
use Rattle.node_progress.proofs.Plans.{Starts, plan_goes}
use Rattle.node_progress.proofs.RouterWaits.{IsWaiting, all_flat}
use Rattle.node_progress.proofs.GiveUps.{IsOver, StaysOrOver, stays_open, is_over, moment_over}
use Rattle.node_progress.proofs.RouterGoesOn.{IsReady, stated_open, gives_up}
use Rattle.node_progress.proofs.RouterSends.{ToldTables, runs_well, begins_sends, next_sends, replaced_runs, after_runs, note_sends, over_sends, no_table_sends}

stay_or_over_runs : (changes : List Change) (q : Open) (mail : List Letter) (next : Next) → OpenRuns changes q → StaysOrOver q mail next
    → AllByRecursion (OpenRuns changes) (stay_in next)
stay_or_over_runs changes q mail _ runs stays_open = (runs, tt)
stay_or_over_runs changes q mail _ runs (is_over next over) = none_stays next over
  where
    none_stays : (n : Next) → IsOver n → AllByRecursion (OpenRuns changes) (stay_in n)
    none_stays (stays p letters) is = absurd is
    none_stays (is_told reply) is = tt

moment_runs : (changes : List Change) (r : Router) (moment time : ℕ) (q : Open) → IsReady r (moment_input moment) → IsIn q r.requests → OpenRuns changes q
    → AllByRecursion (OpenRuns changes) (stay_in (at_moment r time moment q))
moment_runs changes r moment time q ready one runs =
    stay_or_over_runs changes q (asks_again r time q) (at_moment r time moment q) runs
    (moment_over r time q (all_at IsWaiting q r.requests ready.waiting one) (stated_open r (moment_input moment) q ready one) moment)

pub router_runs : (changes : List Change) (nodes : ℕ) (r : Router) (i : Input) (f : Effect) (u : Router) → r.me < nodes → first_shard < nodes
    → AllByRecursion (λ s. s < nodes) (shards_of r) → IsReady r i → AllByRecursion (IsTableOf changes) r.tables → AllByRecursion (OpenRuns changes) r.requests
    → ToldTables changes i → RouterRow r i f u → AllByRecursion (OpenRuns changes) u.requests
router_runs changes nodes _ _ _ _ own two there ready had runs told (router_begin r early) = runs
router_runs changes nodes _ _ _ _ own two there ready had runs told (router_opened r begun) = runs
router_runs changes nodes _ _ _ _ own two there ready had runs told (router_plain r link number request answer begun plan) =
    all_append (OpenRuns changes) r.requests [] runs tt
router_runs changes nodes _ _ _ _ own two there ready had runs told (router_more r link number request get c batch next begun plan found shows) =
    all_append (OpenRuns changes) r.requests [] runs tt
router_runs changes nodes _ _ _ _ own two there ready had runs told (router_no_cursor r link number request get begun plan none) =
    all_append (OpenRuns changes) r.requests [] runs tt
router_runs changes nodes _ _ _ _ own two there ready had runs told (router_kill r link number request kill killed missing next begun plan ends) =
    all_append (OpenRuns changes) r.requests [] runs tt
router_runs changes nodes _ _ _ _ own two there ready had runs told (router_take r link number request namespace work begun plan) =
    let q : Open = opened_request r link number request namespace work in
    all_append (OpenRuns changes) r.requests (stay_in (begins_work r r.time q work)) runs
    (runs_well changes nodes r own two there (begins_work r r.time q work) (begins_sends changes nodes r own two there r.time q work had
    (plan_goes r (id_of r (r.count + 1)) request.more request namespace work (command_of request) refl plan)))
router_runs changes nodes _ _ _ _ own two there ready had runs told (router_learn r m namespace create at table says) =
    all_flat (OpenRuns changes) (λ q. stay_in (next_of r (heard r m) (adopted table r.tables) namespace (was_created create table) at q)) r.requests
    (λ q one. runs_well changes nodes r own two there (next_of r (heard r m) (adopted table r.tables) namespace (was_created create table) at q)
    (next_sends changes nodes r own two there (heard r m) (adopted table r.tables) namespace (was_created create table) at q
    (all_adopted (IsTableOf changes) table r.tables (λ t is. told m refl namespace create at t (says ∙ ap (λ o. table_told namespace create at o) is)) had)
    (all_at IsWaiting q r.requests ready.waiting one).going (all_at IsWaiting q r.requests ready.waiting one).fresh (all_at (OpenRuns changes) q r.requests runs one)))
router_runs changes nodes _ _ _ _ own two there ready had runs told (router_split r m id q middle says found work) =
    all_without (OpenRuns changes) q.count r.requests runs
router_runs changes nodes _ _ _ _ own two there ready had runs told (router_not_sharded r m id q middle says found work) =
    all_without (OpenRuns changes) q.count r.requests runs
router_runs changes nodes _ _ _ _ own two there ready had runs told (router_reach r m id q named at stages telling says found work waits le) =
    after_runs changes nodes r own two there q (begins_work r (heard r m) q (reached (heard r m) q.work)) runs
    (begins_sends changes nodes r own two there (heard r m) q (reached (heard r m) q.work) had (subst (λ w. Starts (reached (heard r m) w)) (sym work) (tt, tt)))
router_runs changes nodes _ _ _ _ own two there ready had runs told (router_hear r m id q named at stages telling says found work waits ahead others) =
    replaced_runs changes nodes r own two there (with_told q m.sender) runs
    (all_at (OpenRuns changes) q r.requests runs (open_of_found r id q found).stands)
router_runs changes nodes _ _ _ _ own two there ready had runs told (router_ahead r m id q named at stages telling says found work waits ahead all) =
    all_without (OpenRuns changes) q.count r.requests runs
router_runs changes nodes _ _ _ _ own two there ready had runs told (router_note r m id dones q kind ordered statements c next says found work news is) =
    after_runs changes nodes r own two there q next runs
    (note_sends changes nodes r own two there m q kind ordered statements c dones next ready.stated (open_of_found r id q found).stands work
    (subst (λ w. IsFresh w) work (all_at IsWaiting q r.requests ready.waiting (open_of_found r id q found).stands).fresh) had runs is)
router_runs changes nodes _ _ _ _ own two there ready had runs told (router_refused r m id turn first cause q next says found is) =
    after_runs changes nodes r own two there q next runs
    (over_sends changes nodes r own two there next (gives_up r m id turn first cause q next ready says (open_of_found r id q found).stands is))
router_runs changes nodes _ _ _ _ own two there ready had runs told (router_no_table r m namespace create at node lack says) =
    all_flat (OpenRuns changes) (λ q. stay_in (table_refused r (heard r m) namespace create at (lack_refusal node lack) q)) r.requests
    (λ q one. runs_well changes nodes r own two there (table_refused r (heard r m) namespace create at (lack_refusal node lack) q)
    (no_table_sends changes nodes r own two there m namespace create at node lack q ready one (all_at (OpenRuns changes) q r.requests runs one)))
router_runs changes nodes _ _ _ _ own two there ready had runs told (router_part r m id rows q named at stages telling says found work target some) =
    replaced_runs changes nodes r own two there (with_part q m.sender rows) runs
    (all_at (OpenRuns changes) q r.requests runs (open_of_found r id q found).stands)
router_runs changes nodes _ _ _ _ own two there ready had runs told
    (router_read r m id rows q named at stages telling all out answer f says found work target whole got merged tells) =
    all_without (OpenRuns changes) q.count r.requests runs
router_runs changes nodes _ _ _ _ own two there ready had runs told
    (router_excess r m id rows n q named at stages telling says found work target whole got) = all_without (OpenRuns changes) q.count r.requests runs
router_runs changes nodes _ _ _ _ own two there ready had runs told
    (router_overflow r m id rows q named at stages telling says found work target whole got) = all_without (OpenRuns changes) q.count r.requests runs
router_runs changes nodes _ _ _ _ own two there ready had runs told (router_late r m late) = runs
router_runs changes nodes _ _ _ _ own two there ready had runs told (router_skip r m none) = runs
router_runs changes nodes _ _ _ _ own two there ready had runs told (router_moment r moment begun) =
    all_flat (OpenRuns changes) (λ q. stay_in (at_moment r _ moment q)) r.requests
    (λ q one. moment_runs changes r moment _ q ready one (all_at (OpenRuns changes) q r.requests runs one))
