-- Where the reply to a request to split is that no such collection exists, there was none as the request came.
use Rattle.std.proofs.Common.{◌≡◌, ℕ, ◌+◌, ◌*◌, ◌<◌, ◌≤◌, List, [], ◌∷◌, ◌++◌, refl, sym, ap, subst, ◌∙◌, arith, Bool}
use Rattle.std.specs.Prelude.{is_some, Some, max, Result, Ok, true, false, not, ◌&&◌, map, nat_lt, if◌then◌else◌}
use Rattle.std.specs.List.{AllByRecursion, flat_map}
use Rattle.std.specs.Str.{bytes_eq}
use Rattle.history_model.proofs.Lists.{all_weaken, all_append, all_at}
use Rattle.history_model.specs.History.{Entry}
use Rattle.base_model.specs.Identities.{RequestId}
use Rattle.base_model.specs.Refusals.{Refusal}
use Rattle.base_model.specs.Errors.{namespace_not_sharded, exceeded_memory_limit, max_time_expired, shutdown_in_progress}
use Rattle.bson_model.specs.Tree.{Datum, Fields}
use Rattle.command_model.specs.Split.{SplitCommand}
use Rattle.command_model.specs.Command.{Command, write_command, find_command, count_command, shard_collection_command, split_command, command_of}
use Rattle.command_model.specs.Reading.{Reading}
use Rattle.command_model.specs.GetMore.{GetMore}
use Rattle.command_model.specs.KillCursors.{KillCursors}
use Rattle.pipeline_model.specs.Runs.{Outcome}
use Rattle.command_model.specs.Answers.{Answer, sharded_answer, refusal_answer, answer_document}
use Rattle.chunk_model.specs.Tables.{Table, table_of}
use Rattle.command_model.specs.Writes.{WriteKind, WriteCommand}
use Rattle.pipeline_model.specs.Stages.{Stage}
use Rattle.chunk_model.specs.Changes.{known_table}
use Rattle.opmsg_model.specs.Requests.{Request}
use Rattle.reply_model.specs.Exchanges.{Asked, Answered}
use Rattle.reply_model.specs.Accounts.{Dated, Lack, no_memory, no_steps, Account}
use Rattle.reply_model.specs.Outcomes.{lack_refusal, expired_refusal}
use Rattle.base_model.specs.Times.{time_of_moment}
use Rattle.reply_model.specs.OneHistory.{changes_before, WasAbsent, IsReplyTo, IsCausedWrite, IsCaused, ids_asked, AreDifferent}
use Rattle.reply_model.specs.Right.{not_sharded}
use Rattle.reply_model.specs.Cursors.{Cursor}
use Rattle.reply_facts.proofs.Requests.{one_asked}
use Rattle.node_model.specs.Journal.{Kept, kept_entry, kept_block}
use Rattle.node_model.specs.Letters.{At, Cause, Statement, split_done, Input, client_input, letter_input, moment_input, opened_input, Reply, Effect}
use Rattle.node_model.specs.States.{Course, Telling, Work, writing, reading, sharding, splitting, Open, Router, Catalogue, Shard}
use Rattle.node_model.specs.CatalogueRows.{CatalogueRow, catalogue_create, catalogue_tell, catalogue_split, catalogue_bound, catalogue_none, catalogue_skip, catalogue_moment, catalogue_opened, catalogue_client}
use Rattle.node_model.specs.ShardRows.{ShardRow, shard_write, shard_repeat, shard_empty, shard_park, shard_waits, shard_stale, shard_read, shard_read_above, shard_rows, shard_excess, shard_overflow, shard_time, shard_learn, shard_known, shard_no_table, shard_skip, shard_moment, shard_opened, shard_client}
use Rattle.node_model.specs.RouterRequests.{id_of, indices_of, unanswered, unsent, heard, reached, table_to_read, RequestPlan, at_once, needs, needs_batch, needs_end, plan_of}
use Rattle.node_model.specs.RouterNext.{noted, served_in_part, settled, is_for, is_for_catalogue, reply_to, empty_answer, Next, replies_in, stays, is_told, write_on, read_on, begins_work, next_of, given_up, gives_up, also_tried, read_again, after_stale, is_below, refused_next, table_refused, at_moment}
use Rattle.node_model.specs.RouterRows.{opened_request, block_size, Opened, gives_number, Tells, tells_overflow, tells_excess, tells_number, tells_batch, tells_cursor, RouterRow, router_begin, router_opened, router_plain, router_more, router_no_cursor, router_kill, router_take, router_learn, router_split, router_not_sharded, router_reach, router_hear, router_ahead, router_note, router_part, router_read, router_excess, router_overflow, router_refused, router_no_table, router_late, router_skip, router_moment}
use Rattle.node_model.specs.World.{World, answered_by, dated_onto}
use Rattle.node_laws.proofs.Views.{Book, View, view_of}
use Rattle.node_laws.proofs.ReadFacts.{IsTelling, tells_find, tells_count}
use Rattle.node_laws.proofs.SplitFacts.{WasMissing}
use Rattle.node_laws.proofs.Facts.{WorkFits, IsOpenOf, TimeFits, AnswersFit, no_answer, one_answer}
use Rattle.node_laws.proofs.Owes.{InputFits}
use Rattle.node_laws.proofs.Dates.{IsNoChange, missing_grows}
use Rattle.node_laws.proofs.ReplySteps.{changed_differs, IsBased}
use Rattle.node_laws.proofs.OpenRequests.{open_of_found}
use Rattle.node_laws.proofs.NextKeeps.{Continues, write_keeps, read_keeps, begins_keeps, again_keeps}
use Rattle.node_laws.proofs.NextCases.{by_refused, by_no_table, by_moment}
use Rattle.node_laws.proofs.RouterAnswers.{as_answered}
use Rattle.node_laws.proofs.RouterLater.{of_answers}

-- WHO STORES CHANGES

no_changes : (made : List Entry) → AllByRecursion IsNoChange (map kept_entry made)
no_changes [] = tt
no_changes (e ∷ made) = (tt, no_changes made)

-- a shard stores no change of the catalogue, and replies nothing
pub record IsAside (f : Effect) : Type 0 where
  pub stores : AllByRecursion IsNoChange f.written
  pub replies : f.replies ≡ []

pub shard_aside : (s t : Shard) (i : Input) (f : Effect) → ShardRow s i f t → IsAside f
shard_aside _ _ _ _ (shard_write s m id turn ordered namespace statements sent d dones made last says fit serves) =
    record { stores = no_changes made; replies = refl }
shard_aside _ _ _ _ (shard_repeat s m id turn ordered namespace statements sent d dones says unfit again) = record { stores = tt; replies = refl }
shard_aside _ _ _ _ (shard_empty s m id turn ordered namespace sent says) = record { stores = tt; replies = refl }
shard_aside _ _ _ _ (shard_park s m a asks unseen old new) = record { stores = tt; replies = refl }
shard_aside _ _ _ _ (shard_waits s m a asks unseen old waits) = record { stores = tt; replies = refl }
shard_aside _ _ _ _ (shard_stale s m a met asks unseen old) = record { stores = tt; replies = refl }
shard_aside _ _ _ _ (shard_read s m id turn namespace at half sent says fit covered) = record { stores = tt; replies = refl }
shard_aside _ _ _ _ (shard_read_above s m id turn namespace at half sent says fit above) = record { stores = (tt, tt); replies = refl }
shard_aside _ _ _ _ (shard_rows s m id turn namespace at half documents rows says makes few) = record { stores = tt; replies = refl }
shard_aside _ _ _ _ (shard_excess s m id turn namespace at half documents rows length n says makes much told) = record { stores = tt; replies = refl }
shard_aside _ _ _ _ (shard_overflow s m id turn namespace at half documents says runs) = record { stores = tt; replies = refl }
shard_aside _ _ _ _ (shard_time s m id says) = record { stores = tt; replies = refl }
shard_aside _ _ _ _ (shard_learn s m namespace create at t says news) = record { stores = (tt, tt); replies = refl }
shard_aside _ _ _ _ (shard_known s m namespace create at table says none) = record { stores = tt; replies = refl }
shard_aside _ _ _ _ (shard_no_table s m namespace node lack says) = record { stores = tt; replies = refl }
shard_aside _ _ _ _ (shard_skip s m none) = record { stores = tt; replies = refl }
shard_aside _ _ _ _ (shard_moment s moment) = record { stores = tt; replies = refl }
shard_aside _ _ _ _ (shard_opened s) = record { stores = tt; replies = refl }
shard_aside _ _ _ _ (shard_client s link number request) = record { stores = tt; replies = refl }

pub no_replies : (c d : Catalogue) (i : Input) (f : Effect) → CatalogueRow c i f d → f.replies ≡ []
no_replies _ _ _ _ (catalogue_create c m namespace at x says new) = refl
no_replies _ _ _ _ (catalogue_tell c m namespace create at says may) = refl
no_replies _ _ _ _ (catalogue_split c m id namespace middle x says new) = refl
no_replies _ _ _ _ (catalogue_bound c m id namespace middle says there) = refl
no_replies _ _ _ _ (catalogue_none c m id namespace middle says none) = refl
no_replies _ _ _ _ (catalogue_skip c m skips) = refl
no_replies _ _ _ _ (catalogue_moment c moment) = refl
no_replies _ _ _ _ (catalogue_opened c) = refl
no_replies _ _ _ _ (catalogue_client c link number request) = refl

block_stored : (r : Router) (cursors : List Cursor) → AllByRecursion IsNoChange (gives_number r cursors).written
block_stored r cursors = by_left (nat_lt r.gave (block_size * r.blocks))
  where
    full : Opened
    full = record { written = kept_block r.blocks ∷ []; cursors = cursors; blocks = r.blocks + 1; gave = block_size * r.blocks + 1 }

    left : Opened
    left = record { written = []; cursors = cursors; blocks = r.blocks; gave = r.gave + 1 }

    stored : Opened → List Kept
    stored f = f.written

    by_left : (b : Bool) → AllByRecursion IsNoChange (stored (if b then left else full))
    by_left true = tt
    by_left false = (tt, tt)

tells_stored : (r : Router) (q : Open) (at : ℕ) (telling : Telling) (out : Outcome) (answer : Answer) (f : Opened) → Tells r q at telling out answer f
    → AllByRecursion IsNoChange f.written
tells_stored r q at _ _ _ _ (tells_overflow telling) = tt
tells_stored r q at _ _ _ _ (tells_excess telling documents n much) = tt
tells_stored r q at _ _ _ _ (tells_number n) = tt
tells_stored r q at _ _ _ _ (tells_batch size single documents batch small is_batch all) = tt
tells_stored r q at _ _ _ _ (tells_cursor size documents batch small is_batch some) = block_stored r _

-- nor does a router
pub router_aside : (r q : Router) (i : Input) (f : Effect) → RouterRow r i f q → AllByRecursion IsNoChange f.written
router_aside _ _ _ _ (router_begin r nb) = (tt, tt)
router_aside _ _ _ _ (router_opened r b) = tt
router_aside _ _ _ _ (router_plain r link number request answer b p) = tt
router_aside _ _ _ _ (router_more r link number request get c batch next b p found shows) = tt
router_aside _ _ _ _ (router_no_cursor r link number request get b p none) = tt
router_aside _ _ _ _ (router_kill r link number request kill killed missing next b p ends) = tt
router_aside _ _ _ _ (router_take r link number request namespace work b p) = tt
router_aside _ _ _ _ (router_learn r m namespace create at table says) = tt
router_aside _ _ _ _ (router_split r m id q middle says o work) = tt
router_aside _ _ _ _ (router_not_sharded r m id q middle says o work) = tt
router_aside _ _ _ _ (router_reach r m id q named at stages telling says o w t le) = tt
router_aside _ _ _ _ (router_hear r m id q named at stages telling says o w t le some) = tt
router_aside _ _ _ _ (router_ahead r m id q named at stages telling says o w t le all) = tt
router_aside _ _ _ _ (router_note r m id dones q kind ordered statements c next says o w n is) = tt
router_aside _ _ _ _ (router_part r m id rows q named at stages telling says o w target some) = tt
router_aside _ _ _ _ (router_read r m id rows q named at stages telling all out answer f says o w target whole got merged tells) =
    tells_stored r q at telling out answer f tells
router_aside _ _ _ _ (router_excess r m id rows n q named at stages telling says o w target whole got) = tt
router_aside _ _ _ _ (router_overflow r m id rows q named at stages telling says o w target whole got) = tt
router_aside _ _ _ _ (router_refused r m id turn first cause q next says o is) = tt
router_aside _ _ _ _ (router_no_table r m namespace create at node lack says) = tt
router_aside _ _ _ _ (router_late r m l) = tt
router_aside _ _ _ _ (router_skip r m s) = tt
router_aside _ _ _ _ (router_moment r moment b) = tt

-- REPLIES

-- the reply to a request to split that no such collection exists is true
abbrev pub IsTrue : List Dated → List Asked → RequestId → Request → Fields → Type 0
IsTrue dated asked id request document = (split : SplitCommand) → command_of request ≡ Ok (split_command split) → document ≡ not_sharded
    → WasMissing dated asked id

abbrev pub IsTrueReply : List Dated → List Asked → Reply → Type 0
IsTrueReply dated asked x = IsTrue dated asked x.id x.request x.document

abbrev pub IsTrueAnswer : List Dated → List Asked → Answered → Type 0
IsTrueAnswer dated asked t = IsTrue dated asked t.id t.request t.document

-- what an open request has to do
pub record HasWork (q : Open) : Type 0 where
  pub request : Asked
  pub same : request.request ≡ q.request
  pub work : WorkFits request q.namespace q.work

-- a message says so truly
abbrev pub TellsTruly : List Dated → List Asked → Input → Type 0
TellsTruly dated asked (letter_input m) = (id : RequestId) → m.body ≡ split_done id false → WasMissing dated asked id
TellsTruly dated asked (client_input link number request) = Unit {0}
TellsTruly dated asked (moment_input moment) = Unit {0}
TellsTruly dated asked opened_input = Unit {0}

abbrev IsNoSplitting : Work → Type 0
IsNoSplitting (writing kind ordered statements c) = Unit {0}
IsNoSplitting (reading named at stages telling) = Unit {0}
IsNoSplitting sharding = Unit {0}
IsNoSplitting (splitting middle) = ⊥

-- other work is of a request that does not split
reads_no_split : (a : Asked) (read : Reading) (telling : Telling) (split : SplitCommand) → IsTelling a read telling
    → command_of a.request ≡ Ok (split_command split) → ⊥
reads_no_split a _ _ split (tells_find find asks) e = let both : Ok (find_command find) ≡ Ok (split_command split) = sym asks ∙ e in cc
reads_no_split a _ _ split (tells_count read asks) e = let both : Ok (count_command read) ≡ Ok (split_command split) = sym asks ∙ e in cc

other_work : (a : Asked) (namespace : List ℕ) (work : Work) (split : SplitCommand) → WorkFits a namespace work → IsNoSplitting work
    → command_of a.request ≡ Ok (split_command split) → ⊥
other_work a namespace (writing kind ordered statements c) split w other e =
    let both : Ok (write_command w.0) ≡ Ok (split_command split) = sym w.1 ∙ e in cc
other_work a namespace (reading named at stages telling) split w other e = reads_no_split a w.read telling split w.tells e
other_work a namespace sharding split w other e =
    let both : Ok (shard_collection_command namespace) ≡ Ok (split_command split) = sym w ∙ e in cc
other_work a namespace (splitting middle) split w other e = absurd other

none_split : (q : Open) (split : SplitCommand) → HasWork q → IsNoSplitting q.work → command_of q.request ≡ Ok (split_command split) → ⊥
none_split q split h other e = other_work h.request q.namespace q.work split h.work other (ap (λ r. command_of r) h.same ∙ e)

-- that work was given up is not said by that reply
lack_differs : (node : ℕ) (lack : Lack) → answer_document (refusal_answer (lack_refusal node lack)) ≡ not_sharded → ⊥
lack_differs node no_memory e = let same : exceeded_memory_limit.number ≡ namespace_not_sharded.number = cc in absurd (let n : 146 ≡ 118 = same in omega (arith, n))
lack_differs node (no_steps steps) e = let same : shutdown_in_progress.number ≡ namespace_not_sharded.number = cc in absurd (let n : 91 ≡ 118 = same in omega (arith, n))

late_differs : (arrived moment : ℕ) → answer_document (refusal_answer (expired_refusal arrived moment)) ≡ not_sharded → ⊥
late_differs arrived moment e = let same : max_time_expired.number ≡ namespace_not_sharded.number = cc in absurd (let n : 50 ≡ 118 = same in omega (arith, n))

module _ (dated : List Dated) (asked : List Asked) (r : Router) where
  abbrev True : Reply → Type 0
  True x = IsTrueReply dated asked x

  -- what becomes of a request that does not split
  of_next : (time : ℕ) (q : Open) (next : Next) → HasWork q → IsNoSplitting q.work → Continues r time q next → AllByRecursion True (replies_in next)
  of_next time q (stays p letters) h other is = tt
  of_next time q (is_told reply) h other is = ((λ split asks none. absurd (none_split q split h other (ap (λ x. command_of x) (sym is.request) ∙ asks))), tt)

  -- of what a table brings
  next_true : (time : ℕ) (tables : List Table) (namespace : List ℕ) (made : Bool) (told : At) (q : Open) → HasWork q
      → AllByRecursion True (replies_in (next_of r time tables namespace made told q))
  next_true time tables namespace made told q h = by_test (is_for_catalogue q.wait && bytes_eq q.namespace namespace)
    where
      by_told : (answer : Answer) (b : Bool) → IsNoSplitting q.work
          → AllByRecursion True (replies_in (if b then is_told (reply_to r time q answer) else stays q []))
      by_told answer true other =
          of_next time q (is_told (reply_to r time q answer)) h other (record { id = refl; link = refl; number = refl; request = refl; time = refl })
      by_told answer false other = tt

      by_read : (named : Bool) (at : ℕ) (stages : List Stage) (telling : Telling) (b : Bool) → IsNoSplitting q.work → AllByRecursion True (replies_in
          (if b then is_told (reply_to r time q (empty_answer q at telling)) else read_on r time tables false q named at stages telling))
      by_read named at stages telling true other = by_told (empty_answer q at telling) true other
      by_read named at stages telling false other =
          of_next time q (read_on r time tables false q named at stages telling) h other (read_keeps r time tables false q named at stages telling)

      by_work : (work : Work) → q.work ≡ work → AllByRecursion True (replies_in (elim work as (λ (x : Work). Next) [
        | writing kind ordered statements c ↦ write_on r time tables false [] q kind ordered statements c
        | reading named at stages telling ↦
            if is_for told at && not (is_some (table_to_read (table_of q.namespace tables) at [])) then is_told (reply_to r time q (empty_answer q at telling))
            else read_on r time tables false q named at stages telling
        | sharding ↦ if made then is_told (reply_to r time q (sharded_answer q.namespace time)) else stays q []
        | splitting middle ↦ stays q []
      ]))
      by_work (writing kind ordered statements c) is =
          of_next time q (write_on r time tables false [] q kind ordered statements c) h (subst (λ x. IsNoSplitting x) (sym is) tt)
          (write_keeps r time tables false [] q kind ordered statements c)
      by_work (reading named at stages telling) is =
          by_read named at stages telling (is_for told at && not (is_some (table_to_read (table_of q.namespace tables) at [])))
          (subst (λ x. IsNoSplitting x) (sym is) tt)
      by_work sharding is = by_told (sharded_answer q.namespace time) made (subst (λ x. IsNoSplitting x) (sym is) tt)
      by_work (splitting middle) is = tt

      by_test : (b : Bool) → AllByRecursion True (replies_in (if not b then stays q [] else elim q.work as (λ (x : Work). Next) [
        | writing kind ordered statements c ↦ write_on r time tables false [] q kind ordered statements c
        | reading named at stages telling ↦
            if is_for told at && not (is_some (table_to_read (table_of q.namespace tables) at [])) then is_told (reply_to r time q (empty_answer q at telling))
            else read_on r time tables false q named at stages telling
        | sharding ↦ if made then is_told (reply_to r time q (sharded_answer q.namespace time)) else stays q []
        | splitting middle ↦ stays q []
      ]))
      by_test true = by_work q.work refl
      by_test false = tt

  all_true : (time : ℕ) (tables : List Table) (namespace : List ℕ) (made : Bool) (told : At) (requests : List Open) → AllByRecursion HasWork requests
      → AllByRecursion True (flat_map (λ q. replies_in (next_of r time tables namespace made told q)) requests)
  all_true time tables namespace made told [] all = tt
  all_true time tables namespace made told (q ∷ requests) all =
      all_append True (replies_in (next_of r time tables namespace made told q))
      (flat_map (λ q. replies_in (next_of r time tables namespace made told q)) requests)
      (next_true time tables namespace made told q all.0) (all_true time tables namespace made told requests all.1)

  -- of what is refused, and of moments
  refuses : (time : ℕ) (q : Open) (refusal : Refusal) → (answer_document (refusal_answer refusal) ≡ not_sharded → ⊥)
      → AllByRecursion True (replies_in (is_told (reply_to r time q (refusal_answer refusal))))
  refuses time q refusal other = ((λ split asks none. absurd (other none)), tt)

  gives : (time : ℕ) (q : Open) (kind : WriteKind) (ordered : Bool) (statements : List Statement) (c : Course) (refusal : Refusal) (indices : List ℕ)
      → HasWork q → q.work ≡ writing kind ordered statements c → AllByRecursion True (replies_in (gives_up r time q kind ordered statements c refusal indices))
  gives time q kind ordered statements c refusal indices h work =
      of_next time q (gives_up r time q kind ordered statements c refusal indices) h (subst (λ x. IsNoSplitting x) (sym work) tt)
      (write_keeps r time r.tables false [] q kind ordered statements (settled c (given_up ordered refusal indices c.answers)))

  refused_true : (time : ℕ) (q : Open) (sender turn first : ℕ) (cause : Cause) (next : Next) → HasWork q
      → refused_next r time q sender turn first cause ≡ Some next → AllByRecursion True (replies_in next)
  refused_true time q sender turn first cause next h is = by_refused (λ n. AllByRecursion True (replies_in n)) r time q sender turn first cause next (record {
    stale_write = λ kind ordered statements c run met work same.
        of_next time q (write_on r time r.tables (is_below (table_of q.namespace r.tables) met) [] q kind ordered statements (after_stale ordered c run met)) h
        (subst (λ x. IsNoSplitting x) (sym work) tt)
        (write_keeps r time r.tables (is_below (table_of q.namespace r.tables) met) [] q kind ordered statements (after_stale ordered c run met));
    lack_write = λ kind ordered statements c run node lack work same has free. gives time q kind ordered statements c (lack_refusal node lack) run.indices h work;
    stale_read = λ named at stages telling met work same.
        of_next time q (read_again r time (also_tried q met) named at stages telling) h (subst (λ x. IsNoSplitting x) (sym work) tt)
        (again_keeps r time q met named at stages telling);
    lack_task = λ node lack same task. refuses time q (lack_refusal node lack) (λ e. lack_differs node lack e);
  }) is

  no_table_true : (time : ℕ) (namespace : List ℕ) (create : Bool) (at : At) (node : ℕ) (lack : Lack) (q : Open) → HasWork q
      → AllByRecursion True (replies_in (table_refused r time namespace create at (lack_refusal node lack) q))
  no_table_true time namespace create at node lack q h =
      by_no_table (λ n. AllByRecursion True (replies_in n)) r time namespace create at (lack_refusal node lack) q tt
      (λ kind ordered statements c work waits. gives time q kind ordered statements c (lack_refusal node lack) (indices_of (unsent ordered statements c)) h work)
      (λ task. refuses time q (lack_refusal node lack) (λ e. lack_differs node lack e))

  moment_true : (time moment : ℕ) (q : Open) → HasWork q → AllByRecursion True (replies_in (at_moment r time moment q))
  moment_true time moment q h = by_moment (λ n. AllByRecursion True (replies_in n)) r time moment q tt
      (λ late kind ordered statements c work free.
      gives time q kind ordered statements c (expired_refusal q.arrived moment) (indices_of (unanswered statements c.answers)) h work)
      (λ late task. refuses time q (expired_refusal q.arrived moment) (λ e. late_differs q.arrived moment e))

  each_true : (next : Open → Next) → ((q : Open) → HasWork q → AllByRecursion True (replies_in (next q))) → (requests : List Open)
      → AllByRecursion HasWork requests → AllByRecursion True (flat_map (λ q. replies_in (next q)) requests)
  each_true next own [] all = tt
  each_true next own (q ∷ requests) all =
      all_append True (replies_in (next q)) (flat_map (λ q. replies_in (next q)) requests) (own q all.0) (each_true next own requests all.1)

-- a request that is planned otherwise does not split
planned_otherwise : (r : Router) (id : RequestId) (silent : Bool) (command : Result Command Refusal) (split : SplitCommand) (plan : RequestPlan)
    → plan_of r id silent command ≡ plan → command ≡ Ok (split_command split) → plan ≡ needs split.namespace (splitting split.middle)
planned_otherwise r id silent command split plan is asks = sym is ∙ ap (λ c. plan_of r id silent c) asks

at_once_not : (answer : Answer) (namespace : List ℕ) (work : Work) → at_once answer ≡ needs namespace work → ⊥
at_once_not answer namespace work e = cc

batch_not : (get : GetMore) (namespace : List ℕ) (work : Work) → needs_batch get ≡ needs namespace work → ⊥
batch_not get namespace work e = cc

end_not : (kill : KillCursors) (namespace : List ℕ) (work : Work) → needs_end kill ≡ needs namespace work → ⊥
end_not kill namespace work e = cc

work_not : (namespace name : List ℕ) (work : Work) (middle : Datum) → IsNoSplitting work → needs namespace work ≡ needs name (splitting middle) → ⊥
work_not namespace name (writing kind ordered statements c) middle other e = cc
work_not namespace name (reading named at stages telling) middle other e = cc
work_not namespace name sharding middle other e = cc
work_not namespace name (splitting own) middle other e = other

-- a request that begins its work
begun_true : (dated : List Dated) (asked : List Asked) (r : Router) (time : ℕ) (q : Open) (namespace : List ℕ) (work : Work) (id : RequestId) (silent : Bool)
    → plan_of r id silent (command_of q.request) ≡ needs namespace work → AllByRecursion (IsTrueReply dated asked) (replies_in (begins_work r time q work))
begun_true dated asked r time q namespace work id silent plan = by_work work refl
  where
    of_next_begun : (next : Next) → IsNoSplitting work → Continues r time q next → AllByRecursion (IsTrueReply dated asked) (replies_in next)
    of_next_begun (stays p letters) other is = tt
    of_next_begun (is_told reply) other is = (
      (λ split asks none. absurd (work_not namespace split.namespace work split.middle other
          (planned_otherwise r id silent (command_of q.request) split (needs namespace work) plan (ap (λ x. command_of x) (sym is.request) ∙ asks)))),
      tt,
    )

    by_work : (own : Work) → work ≡ own → AllByRecursion (IsTrueReply dated asked) (replies_in (begins_work r time q own))
    by_work (writing kind ordered statements c) is =
        of_next_begun (begins_work r time q (writing kind ordered statements c)) (subst (λ x. IsNoSplitting x) (sym is) tt)
        (begins_keeps r time q (writing kind ordered statements c))
    by_work (reading named at stages telling) is =
        of_next_begun (begins_work r time q (reading named at stages telling)) (subst (λ x. IsNoSplitting x) (sym is) tt)
        (begins_keeps r time q (reading named at stages telling))
    by_work sharding is = tt
    by_work (splitting middle) is = tt

-- each row
pub row_true : (dated : List Dated) (asked : List Asked) (r q : Router) (i : Input) (f : Effect) → AllByRecursion HasWork r.requests
    → TellsTruly dated asked i → RouterRow r i f q → AllByRecursion (IsTrueReply dated asked) f.replies
row_true dated asked _ _ _ _ works truly (router_begin r nb) = tt
row_true dated asked _ _ _ _ works truly (router_opened r b) = tt
row_true dated asked _ _ _ _ works truly (router_plain r link number request answer b plan) =
    ((λ split asks none. absurd (at_once_not answer _ _ (planned_otherwise r _ request.more (command_of request) split _ plan asks))), tt)
row_true dated asked _ _ _ _ works truly (router_more r link number request get c batch next b plan found shows) =
    ((λ split asks none. absurd (batch_not get _ _ (planned_otherwise r _ request.more (command_of request) split _ plan asks))), tt)
row_true dated asked _ _ _ _ works truly (router_no_cursor r link number request get b plan missing) =
    ((λ split asks none. absurd (batch_not get _ _ (planned_otherwise r _ request.more (command_of request) split _ plan asks))), tt)
row_true dated asked _ _ _ _ works truly (router_kill r link number request kill killed missing next b plan ends) =
    ((λ split asks none. absurd (end_not kill _ _ (planned_otherwise r _ request.more (command_of request) split _ plan asks))), tt)
row_true dated asked _ _ _ _ works truly (router_take r link number request namespace work b plan) =
    begun_true dated asked r r.time (opened_request r link number request namespace work) namespace work (id_of r (r.count + 1)) request.more plan
row_true dated asked _ _ _ _ works truly (router_learn r m namespace create at table says) =
    all_true dated asked r _ _ namespace _ at r.requests works
row_true dated asked _ _ _ _ works truly (router_split r m id q middle says o work) =
    ((λ split asks none. absurd (changed_differs _ none)), tt)
row_true dated asked _ _ _ _ works truly (router_not_sharded r m id q middle says o work) =
    ((λ split asks none. subst (λ i. WasMissing dated asked i) (open_of_found r id q o).own (truly id says)), tt)
row_true dated asked _ _ _ _ works truly (router_reach r m id q named at stages telling says o work t le) =
    of_next dated asked r (heard r m) q (begins_work r (heard r m) q (reached (heard r m) q.work))
    (all_at HasWork q r.requests works (open_of_found r id q o).stands)
    (subst (λ x. IsNoSplitting x) (sym work) tt) (begins_keeps r (heard r m) q (reached (heard r m) q.work))
row_true dated asked _ _ _ _ works truly (router_hear r m id q named at stages telling says o work t le some) = tt
row_true dated asked _ _ _ _ works truly (router_ahead r m id q named at stages telling says o work t le all) = (
  (λ split asks none. absurd (none_split q split (all_at HasWork q r.requests works (open_of_found r id q o).stands)
      (subst (λ x. IsNoSplitting x) (sym work) tt) asks)),
  tt,
)
row_true dated asked _ _ _ _ works truly (router_note r m id dones q kind ordered statements c next says o work n is) =
    of_next dated asked r (heard r m) q next (all_at HasWork q r.requests works (open_of_found r id q o).stands)
    (subst (λ x. IsNoSplitting x) (sym work) tt)
    (subst (λ x. Continues r (heard r m) q x) (sym is)
    (write_keeps r (heard r m) r.tables ordered (served_in_part (noted ordered c.answers dones) c.runs) q kind ordered statements
    (settled c (noted ordered c.answers dones))))
row_true dated asked _ _ _ _ works truly (router_part r m id rows q named at stages telling says o work target some) = tt
row_true dated asked _ _ _ _ works truly (router_read r m id rows q named at stages telling all out answer f says o work target whole got merged tells) = (
  (λ split asks none. absurd (none_split q split (all_at HasWork q r.requests works (open_of_found r id q o).stands)
      (subst (λ x. IsNoSplitting x) (sym work) tt) asks)),
  tt,
)
row_true dated asked _ _ _ _ works truly (router_excess r m id rows n q named at stages telling says o work target whole got) = (
  (λ split asks none. absurd (none_split q split (all_at HasWork q r.requests works (open_of_found r id q o).stands)
      (subst (λ x. IsNoSplitting x) (sym work) tt) asks)),
  tt,
)
row_true dated asked _ _ _ _ works truly (router_overflow r m id rows q named at stages telling says o work target whole got) = (
  (λ split asks none. absurd (none_split q split (all_at HasWork q r.requests works (open_of_found r id q o).stands)
      (subst (λ x. IsNoSplitting x) (sym work) tt) asks)),
  tt,
)
row_true dated asked _ _ _ _ works truly (router_refused r m id turn first cause q next says o is) =
    refused_true dated asked r (heard r m) q m.sender turn first cause next (all_at HasWork q r.requests works (open_of_found r id q o).stands) is
row_true dated asked _ _ _ _ works truly (router_no_table r m namespace create at node lack says) =
    each_true dated asked r (λ q. table_refused r (heard r m) namespace create at (lack_refusal node lack) q)
    (λ q h. no_table_true dated asked r (heard r m) namespace create at node lack q h) r.requests works
row_true dated asked _ _ _ _ works truly (router_late r m l) = tt
row_true dated asked _ _ _ _ works truly (router_skip r m s) = tt
row_true dated asked _ _ _ _ works truly (router_moment r moment b) =
    each_true dated asked r (λ q. at_moment r (max r.time (time_of_moment moment)) moment q)
    (λ q h. moment_true dated asked r (max r.time (time_of_moment moment)) moment q h) r.requests works

-- A STEP

-- the open requests of a router have their work
pub works_of : (v : View) (asked : List Asked) (answered : List Answered) (r : Router) → AllByRecursion (IsOpenOf v asked answered r) r.requests
    → AllByRecursion HasWork r.requests
works_of v asked answered r all =
    all_weaken (IsOpenOf v asked answered r) HasWork r.requests (λ q o. record { request = o.request; same = o.asks; work = o.work }) all

-- an input says so truly
pub input_truly : (w : World) (book : Book) (at : ℕ) (i : Input) → InputFits w book at i → TellsTruly w.changed w.asked i
input_truly w book at (letter_input m) fits = λ id says.
    subst (λ b. TimeFits (view_of w.nodes book) w.changed w.asked w.answered m.sender m.time b) says fits.2
input_truly w book at (client_input link number request) fits = tt
input_truly w book at (moment_input moment) fits = tt
input_truly w book at opened_input fits = tt

-- what was true stays so
pub true_grows : (now : ℕ) (dated : List Dated) (written : List Kept) (asked more : List Asked)
    → AllByRecursion (λ (a : Asked). a.came < now + 1) asked → (id : RequestId) (request : Request) (document : Fields)
    → IsTrue dated asked id request document → IsTrue (dated_onto now dated written) (asked ++ more) id request document
true_grows now dated written asked more came id request document is split asks none =
    missing_grows now dated written asked more came id (is split asks none)

pub all_still_true : (now : ℕ) (dated : List Dated) (written : List Kept) (asked more : List Asked) (answered : List Answered) (replies : List Reply)
    → AllByRecursion (λ (a : Asked). a.came < now + 1) asked → AllByRecursion (IsTrueAnswer dated asked) answered
    → AllByRecursion (IsTrueReply dated asked) replies
    → AllByRecursion (IsTrueAnswer (dated_onto now dated written) (asked ++ more)) (answered ++ answered_by now replies)
all_still_true now dated written asked more answered replies came old new =
    all_append (IsTrueAnswer (dated_onto now dated written) (asked ++ more)) answered (answered_by now replies)
    (all_weaken (IsTrueAnswer dated asked) (IsTrueAnswer (dated_onto now dated written) (asked ++ more)) answered
    (λ t h. true_grows now dated written asked more came t.id t.request t.document h) old)
    (of_answers (IsTrueAnswer (dated_onto now dated written) (asked ++ more)) now replies
    (all_weaken (IsTrueReply dated asked) (λ x. IsTrueAnswer (dated_onto now dated written) (asked ++ more) (as_answered now x)) replies
    (λ x h. true_grows now dated written asked more came x.id x.request x.document h) new))

-- IN ONE HISTORY

same_split : (a b : SplitCommand) (command : Result Command Refusal) → command ≡ Ok (split_command a) → command ≡ Ok (split_command b) → a ≡ b
same_split a b command e f = cc

-- so what it says was so by the reply, or else there was none in a step from the request to the reply
pub is_caused : (account : Account) (v : View) (now : ℕ) (answered : List Answered) (cursors last : List Cursor) (told : List Answered)
    → AreDifferent (ids_asked account.asked)
    → AllByRecursion (λ (t : Answered). (a : Asked) (write : WriteCommand) → IsReplyTo account.asked a (write_command write) t
    → IsCausedWrite account a t write) told
    → AnswersFit v account.asked answered cursors told last
    → AllByRecursion (IsTrueAnswer account.dated account.asked) told → AllByRecursion (IsBased now account.dated) told
    → AllByRecursion (IsCaused account) told
is_caused account v now answered _ _ _ different written (no_answer cursors) all based = tt
is_caused account v now answered _ _ _ different written (one_answer cursors next last t rest f others) all based = (
  record {
    written = λ a write to. written.0 a write to;
    created = λ a namespace to says. based.0.rests.created namespace (its a (shard_collection_command namespace) to) says;
    begins = λ a split to says. based.0.rests.begins split (its a (split_command split) to) says;
    absent = absent;
  },
  is_caused account v now answered next last rest different written.1 others all.1 based.1,
)
  where
    its : (a : Asked) (command : Command) → IsReplyTo account.asked a command t → command_of t.request ≡ Ok command
    its a command to =
        let first : f.request ≡ a = one_asked f.request a account.asked different f.taken to.taken (f.own ∙ sym to.own) in
        ap (λ r. command_of r) (sym f.same) ∙ ap (λ (b : Asked). command_of b.request) first ∙ to.asks

    absent : (a : Asked) (split : SplitCommand) → IsReplyTo account.asked a (split_command split) t → t.document ≡ not_sharded
        → WasAbsent account.dated split.namespace a.came t.step
    absent a split to none =
        let first : f.request ≡ a = one_asked f.request a account.asked different f.taken to.taken (f.own ∙ sym to.own) in
        let m : WasMissing account.dated account.asked t.id = all.0 split (its a (split_command split) to) none in
        let same : m.request ≡ a = one_asked m.request a account.asked different m.taken to.taken (m.own ∙ sym to.own) in
        let one : m.split ≡ split = same_split m.split split (command_of a.request) (ap (λ (b : Asked). command_of b.request) (sym same) ∙ m.asks) to.asks in
        let came : a.came ≤ t.step = subst (λ (b : Asked). b.came ≤ t.step) first f.came in
        record {
          step = a.came;
          after = omega arith;
          before = came;
          none = ap (λ (s : SplitCommand). known_table s.namespace (changes_before a.came account.dated)) (sym one)
              ∙ ap (λ (b : Asked). known_table m.split.namespace (changes_before b.came account.dated)) (sym same) ∙ m.none;
        }
