-- Shards and routers send no tables, and nor does a node that takes no step.
use Rattle.std.proofs.Common.{◌≡◌, ℕ, List, [], ◌∷◌, ◌++◌, sym, subst, Bool}
use Rattle.std.specs.Prelude.{max, map, filter, true, false, Option, Some, None, ◌==◌, if◌then◌else◌}
use Rattle.std.specs.List.{AllByRecursion, flat_map}
use Rattle.std.specs.Str.{bytes_eq}
use Rattle.history_model.proofs.Lists.{all_weaken, all_append}
use Rattle.chunk_model.specs.Tables.{Table}
use Rattle.reply_model.specs.Times.{time_of_moment}
use Rattle.reply_model.specs.Accounts.{Lack}
use Rattle.reply_model.specs.Outcomes.{lack_refusal}
use Rattle.reply_model.specs.Writes.{WriteKind}
use Rattle.pipeline_model.specs.Halves.{Half}
use Rattle.pipeline_model.specs.Split.{split}
use Rattle.pipeline_model.specs.Stages.{Stage}
use Rattle.node_model.specs.Letters.{At, Statement, Body, table_ask, table_told, split_ask, split_done, write_ask, write_done, read_ask, half_ask, read_rows, refused, of_request, of_table, Refused, is_lack, no_time, at_time, time_ask, time_told, Letter, Input, client_input, letter_input, moment_input, opened_input, Effect, Reply, nothing, sends}
use Rattle.node_model.specs.ShardRows.{Ask, ask_in, wants_table, says as says_there, tries, asks_table, asks_again as asks_tables, refuses, index_shown, ShardRow, shard_write, shard_repeat, shard_empty, shard_park, shard_waits, shard_stale, shard_read, shard_read_above, shard_rows, shard_excess, shard_overflow, shard_time, shard_learn, shard_known, shard_no_table, shard_skip, shard_moment, shard_opened, shard_client}
use Rattle.node_model.specs.RouterRequests.{heard, id_of, says, asks_to_write, asks_to_read, asks_catalogue, targets_at, shards_of, untold, asks_times, turn_after, with_runs, reached}
use Rattle.node_model.specs.RouterNext.{awaited, noted, left_of, served_in_part, settled, Next, stays, is_told, letters_in, is_for_catalogue, write_on, read_on, begins_work, next_of, adopted, was_created, asks_again, also_tried, table_refused, at_moment}
use Rattle.node_model.specs.RouterRows.{opened_request, RouterRow, router_begin, router_opened, router_plain, router_more, router_no_cursor, router_kill, router_take, router_learn, router_split, router_not_sharded, router_reach, router_hear, router_ahead, router_note, router_part, router_read, router_excess, router_overflow, router_late, router_skip, router_moment, router_refused, router_no_table}
use Rattle.node_model.specs.States.{Target, Run, Course, Telling, Work, writing, reading, sharding, splitting, Wait, for_time, for_catalogue, for_shards, Open, Router, Shard, NodeState, catalogue_state, shard_state, router_state, time_of_node}
use Rattle.node_model.specs.Lacks.{requested_of, refusal_to, misses}
use Rattle.node_model.specs.Steps.{number_of}
use Rattle.node_laws.proofs.Lists.{all_of, all_mapped, all_filtered}
use Rattle.node_laws.proofs.NextRequests.{NextIs, each_next}
use Rattle.node_laws.proofs.NextCases.{more_of, work_after, asks_after, with_catalogue, by_write, by_read, by_next, by_begins}
use Rattle.node_replay.specs.Acknowledged.{says_lacking}
use Rattle.node_replay.proofs.GivenUp.{GoesOn, write_goes, read_goes, is_answered, StaysOrGoes, just_stays, goes_on, IsLaterTable, refused_goes, table_refused_goes, moment_goes}

abbrev pub HasNoTable : Body → Type 0
HasNoTable (table_told namespace create at table) = ⊥
HasNoTable body = Unit {0}

-- a message that says no table, nor that there is none
abbrev pub SaysNoTable : Letter → Type 0
SaysNoTable m = HasNoTable m.body

-- A SHARD

-- what wants a table says none
wanting : (namespace : List ℕ) (b : Body)
    → elim (ask_in b) as (λ (o : Option Ask). Bool) [ None ↦ false | Some a ↦ bytes_eq a.namespace namespace ] ≡ true → HasNoTable b
wanting namespace (table_told name create at table) wants = absurd (cc)
wanting namespace (table_ask name create at) wants = tt
wanting namespace (split_ask id name middle) wants = tt
wanting namespace (split_done id found) wants = tt
wanting namespace (write_ask id turn ordered name statements sent) wants = tt
wanting namespace (write_done id dones) wants = tt
wanting namespace (read_ask id turn name at half sent) wants = tt
wanting namespace (half_ask id turn name at half documents) wants = tt
wanting namespace (read_rows id turn rows) wants = tt
wanting namespace (refused what cause) wants = tt
wanting namespace (time_ask id) wants = tt
wanting namespace (time_told id) wants = tt

tried : (s : Shard) (time : ℕ) (namespace : List ℕ) (parked : List Letter)
    → AllByRecursion SaysNoTable (tries s time (filter (wants_table namespace) parked))
tried s time namespace parked =
    all_mapped SaysNoTable (λ (p : Letter). says_there s s.me time p.body) (filter (wants_table namespace) parked)
    (all_weaken (λ (p : Letter). Unit {0} × (wants_table namespace p ≡ true)) SaysNoTable (filter (wants_table namespace) parked)
    (λ p h. wanting namespace p.body h.1)
    (all_filtered (λ (p : Letter). Unit {0}) (wants_table namespace) parked (all_of (λ (p : Letter). Unit {0}) parked (λ p. tt))))

asked_again : (s : Shard) (time : ℕ) (parked : List Letter) → AllByRecursion SaysNoTable (asks_tables s time parked)
asked_again s time [] = tt
asked_again s time (m ∷ parked) = by_ask (ask_in m.body) (asked_again s time parked)
  where
    by_ask : (o : Option Ask) → AllByRecursion SaysNoTable (asks_tables s time parked)
        → AllByRecursion SaysNoTable
        (elim o as (λ (o : Option Ask). List Letter) [ None ↦ asks_tables s time parked | Some a ↦ asks_table s time a.namespace ∷ asks_tables s time parked ])
    by_ask None rest = rest
    by_ask (Some a) rest = (tt, rest)

refused_parked : (s : Shard) (time node : ℕ) (lack : Lack) (parked : List Letter)
    → AllByRecursion SaysNoTable (flat_map (refuses s time node lack) parked)
refused_parked s time node lack [] = tt
refused_parked s time node lack (m ∷ parked) =
    all_append SaysNoTable (refuses s time node lack m) (flat_map (refuses s time node lack) parked) (by_ask (ask_in m.body))
    (refused_parked s time node lack parked)
  where
    by_ask : (o : Option Ask) → AllByRecursion SaysNoTable (elim o as (λ (o : Option Ask). List Letter) [
      | None ↦ []
      | Some a ↦ says_there s a.id.router time (refused (of_request a.id a.turn (index_shown a.first)) (is_lack node lack)) ∷ []
    ])
    by_ask None = tt
    by_ask (Some a) = (tt, tt)

pub shard_sends : (s t : Shard) (i : Input) (f : Effect) → ShardRow s i f t → AllByRecursion SaysNoTable f.mail
shard_sends _ _ _ _ (shard_write s m id turn ordered namespace statements sent d dones made last says fit serves) = (tt, tt)
shard_sends _ _ _ _ (shard_repeat s m id turn ordered namespace statements sent d dones says unfit again) = (tt, tt)
shard_sends _ _ _ _ (shard_empty s m id turn ordered namespace sent says) = tt
shard_sends _ _ _ _ (shard_park s m a asks unseen old new) = (tt, tt)
shard_sends _ _ _ _ (shard_waits s m a asks unseen old waits) = tt
shard_sends _ _ _ _ (shard_stale s m a met asks unseen old) = (tt, tt)
shard_sends _ _ _ _ (shard_read s m id turn namespace at half sent says fit covered) = (tt, tt)
shard_sends _ _ _ _ (shard_read_above s m id turn namespace at half sent says fit above) = (tt, tt)
shard_sends _ _ _ _ (shard_rows s m id turn namespace at half documents rows says makes few) = (tt, tt)
shard_sends _ _ _ _ (shard_excess s m id turn namespace at half documents rows length n says makes much told) = (tt, tt)
shard_sends _ _ _ _ (shard_overflow s m id turn namespace at half documents says runs) = (tt, tt)
shard_sends _ _ _ _ (shard_time s m id says) = (tt, tt)
shard_sends _ _ _ _ (shard_learn s m namespace create at t says news) = tried s _ t.namespace s.parked
shard_sends _ _ _ _ (shard_known s m namespace create at table says none) = tt
shard_sends _ _ _ _ (shard_no_table s m namespace node lack says) = refused_parked s _ node lack (filter (wants_table namespace) s.parked)
shard_sends _ _ _ _ (shard_skip s m skips) = tt
shard_sends _ _ _ _ (shard_moment s moment) = asked_again s _ s.parked
shard_sends _ _ _ _ (shard_opened s) = tt
shard_sends _ _ _ _ (shard_client s link number request) = tt

-- WHAT A ROUTER REQUESTS

module _ (r : Router) (time count : ℕ) (namespace : List ℕ) where
  write_asked : (ordered : Bool) (statements : List Statement) (c : Course) (runs : List Run)
      → AllByRecursion SaysNoTable (asks_to_write r time (id_of r count) namespace ordered statements c runs)
  write_asked ordered statements c [] = tt
  write_asked ordered statements c (run ∷ runs) = (tt, write_asked ordered statements c runs)

  read_asked : (turn at : ℕ) (half : Half) (targets : List Target)
      → AllByRecursion SaysNoTable (asks_to_read r time (id_of r count) namespace turn at half targets)
  read_asked turn at half [] = tt
  read_asked turn at half (t ∷ targets) = (tt, read_asked turn at half targets)

  catalogue_asked : (work : Work) → SaysNoTable (asks_catalogue r time count namespace work)
  catalogue_asked (writing kind ordered statements c) = tt
  catalogue_asked (reading named at stages telling) = tt
  catalogue_asked sharding = tt
  catalogue_asked (splitting middle) = tt

  times_asked : (told : List ℕ) → AllByRecursion SaysNoTable (asks_times r time (id_of r count) told)
  times_asked told = each_asked (untold told (shards_of r))
    where
      each_asked : (shards : List ℕ) → AllByRecursion SaysNoTable (map (λ s. says r s time (time_ask (id_of r count))) shards)
      each_asked [] = tt
      each_asked (s ∷ shards) = (tt, each_asked shards)

-- what an open request waits for is requested again
again_asked : (r : Router) (time : ℕ) (q : Open) → AllByRecursion SaysNoTable (asks_again r time q)
again_asked r time q = by_work q.work
  where
    by_both : (b : Bool) (letters : List Letter) → AllByRecursion SaysNoTable letters
        → AllByRecursion SaysNoTable (if b then asks_catalogue r time q.count q.namespace q.work ∷ letters else letters)
    by_both true letters all = (catalogue_asked r time q.count q.namespace q.work, all)
    by_both false letters all = all

    by_wait : (at : ℕ) (half : Half) (wait : Wait) → AllByRecursion SaysNoTable (elim wait as (λ (x : Wait). List Letter) [
      | for_time ↦ asks_times r time (id_of r q.count) q.told
      | for_catalogue ↦ asks_catalogue r time q.count q.namespace q.work ∷ []
      | for_shards ↦ asks_to_read r time (id_of r q.count) q.namespace (turn_after q.tries) at half (awaited q.targets q.parts)
    ])
    by_wait at half for_time = times_asked r time q.count q.namespace q.told
    by_wait at half for_catalogue = (catalogue_asked r time q.count q.namespace q.work, tt)
    by_wait at half for_shards = read_asked r time q.count q.namespace (turn_after q.tries) at half (awaited q.targets q.parts)

    by_work : (work : Work) → AllByRecursion SaysNoTable (elim work as (λ (x : Work). List Letter) [
      | writing kind ordered statements c ↦
          if is_for_catalogue q.wait then asks_catalogue r time q.count q.namespace q.work
          ∷ asks_to_write r time (id_of r q.count) q.namespace ordered statements c c.runs
          else asks_to_write r time (id_of r q.count) q.namespace ordered statements c c.runs
      | reading named at stages telling ↦ elim q.wait [
        | for_time ↦ asks_times r time (id_of r q.count) q.told
        | for_catalogue ↦ asks_catalogue r time q.count q.namespace q.work ∷ []
        | for_shards ↦ asks_to_read r time (id_of r q.count) q.namespace (turn_after q.tries) at (split stages).0 (awaited q.targets q.parts)
      ]
      | sharding ↦ asks_catalogue r time q.count q.namespace q.work ∷ []
      | splitting middle ↦ asks_catalogue r time q.count q.namespace q.work ∷ []
    ])
    by_work (writing kind ordered statements c) =
        by_both (is_for_catalogue q.wait) (asks_to_write r time (id_of r q.count) q.namespace ordered statements c c.runs)
        (write_asked r time q.count q.namespace ordered statements c c.runs)
    by_work (reading named at stages telling) = by_wait at (split stages).0 q.wait
    by_work sharding = (catalogue_asked r time q.count q.namespace q.work, tt)
    by_work (splitting middle) = (catalogue_asked r time q.count q.namespace q.work, tt)

-- WHAT BECOMES OF A REQUEST

abbrev AnyOpen : Open → Type 0
AnyOpen q = Unit {0}

abbrev AnyReply : Reply → Type 0
AnyReply x = Unit {0}

abbrev SendsNoTable : Next → Type 0
SendsNoTable next = NextIs AnyOpen SaysNoTable AnyReply next

sent_next : (next : Next) → SendsNoTable next → AllByRecursion SaysNoTable (letters_in next)
sent_next (stays p letters) b = b.1
sent_next (is_told reply) b = tt

module _ (r : Router) (time : ℕ) where
  with_asks : (b : Bool) (letter : Letter) (letters : List Letter) → SaysNoTable letter → AllByRecursion SaysNoTable letters
      → AllByRecursion SaysNoTable (with_catalogue b letter letters)
  with_asks true letter letters one all = (one, all)
  with_asks false letter letters one all = all

  write_sends : (tables : List Table) (asks : Bool) (again : List Run) (q : Open) (kind : WriteKind) (ordered : Bool) (statements : List Statement)
      (c : Course) → SendsNoTable (write_on r time tables asks again q kind ordered statements c)
  write_sends tables asks again q kind ordered statements c =
      by_write SendsNoTable r time tables q asks again kind ordered statements c (λ h. tt) (λ h none. (tt, letters)) (λ h s left some. (
        tt,
        with_asks asks (asks_catalogue r time q.count q.namespace (work_after tables q kind ordered statements c))
            (asks_after r time tables q ordered statements c again) tt letters,
      ))
    where
      letters : AllByRecursion SaysNoTable (asks_after r time tables q ordered statements c again)
      letters =
          write_asked r time q.count q.namespace ordered statements (with_runs c (more_of tables q ordered statements c))
          (left_of c.answers again ++ more_of tables q ordered statements c)

  read_sends : (tables : List Table) (asks : Bool) (q : Open) (named : Bool) (at : ℕ) (stages : List Stage) (telling : Telling)
      → SendsNoTable (read_on r time tables asks q named at stages telling)
  read_sends tables asks q named at stages telling =
      by_read SendsNoTable r time tables q asks named at stages telling
      (λ none. (tt, with_asks asks (asks_catalogue r time q.count q.namespace (reading named at stages telling)) [] tt tt))
      (λ t got. (tt, read_asked r time q.count q.namespace (turn_after q.tries) at (split stages).0 (targets_at t at stages)))

  begins_sends : (q : Open) (work : Work) → SendsNoTable (begins_work r time q work)
  begins_sends q work =
      by_begins SendsNoTable r time q work
      (λ kind ordered statements c is. write_sends r.tables true [] q kind ordered statements c)
      (λ named at stages telling is ahead. (tt, times_asked r time q.count q.namespace []))
      (λ named at stages telling is reached. read_sends r.tables true q named at stages telling)
      (λ is. (tt, (tt, tt)))
      (λ middle is. (tt, (tt, tt)))

  next_sends : (tables : List Table) (namespace : List ℕ) (made : Bool) (told : At) (q : Open) → SendsNoTable (next_of r time tables namespace made told q)
  next_sends tables namespace made told q =
      by_next SendsNoTable r time tables q namespace made told (λ h. (tt, tt)) (λ h. (
        (λ kind ordered statements c is. write_sends tables false [] q kind ordered statements c),
        (λ named at stages telling is own. tt),
        (λ named at stages telling is. read_sends tables false q named at stages telling),
        (λ is e. tt),
        (λ e. (tt, tt)),
        λ middle is. (tt, tt),
      ))

  -- where work is refused or given up
  goes_sends : (again : Type 0) (q : Open) (next : Next) → GoesOn again r time q next → SendsNoTable next
  goes_sends again q _ (write_goes asks kind ordered statements c d is after) = write_sends r.tables asks [] q kind ordered statements d
  goes_sends again q _ (read_goes is_later met named at stages telling is waits) = read_sends r.tables true (also_tried q met) named at stages telling
  goes_sends again q _ (is_answered answer plain) = tt

  stays_or_goes_sends : (q : Open) (mail next : Next) → SendsNoTable mail → StaysOrGoes r time q mail next → SendsNoTable next
  stays_or_goes_sends q mail _ sent just_stays = sent
  stays_or_goes_sends q mail _ sent (goes_on next goes) = goes_sends ⊥ q next goes

  -- of each open request
  each_sends : (next : Open → Next) (requests : List Open) → ((q : Open) → SendsNoTable (next q))
      → AllByRecursion SaysNoTable (flat_map (λ q. letters_in (next q)) requests)
  each_sends next requests sent =
      (each_next AnyOpen SaysNoTable AnyReply next requests (all_of (λ q. NextIs AnyOpen SaysNoTable AnyReply (next q)) requests sent)).ask

pub router_sends : (r q : Router) (i : Input) (f : Effect) → RouterRow r i f q → AllByRecursion SaysNoTable f.mail
router_sends _ _ _ _ (router_begin r nb) = tt
router_sends _ _ _ _ (router_opened r b) = tt
router_sends _ _ _ _ (router_plain r link number request answer b p) = tt
router_sends _ _ _ _ (router_more r link number request get c batch next b p found shows) = tt
router_sends _ _ _ _ (router_no_cursor r link number request get b p none) = tt
router_sends _ _ _ _ (router_kill r link number request kill killed missing next b p ends) = tt
router_sends _ _ _ _ (router_take r link number request namespace work b p) =
    sent_next (begins_work r r.time (opened_request r link number request namespace work) work)
    (begins_sends r r.time (opened_request r link number request namespace work) work)
router_sends _ _ _ _ (router_learn r m namespace create at table says) =
    each_sends r (heard r m) (λ q. next_of r (heard r m) (adopted table r.tables) namespace (was_created create table) at q) r.requests
    (λ q. next_sends r (heard r m) (adopted table r.tables) namespace (was_created create table) at q)
router_sends _ _ _ _ (router_split r m id q middle says o work) = tt
router_sends _ _ _ _ (router_not_sharded r m id q middle says o work) = tt
router_sends _ _ _ _ (router_reach r m id q named at stages telling says o w t le) =
    sent_next (begins_work r (heard r m) q (reached (heard r m) q.work)) (begins_sends r (heard r m) q (reached (heard r m) q.work))
router_sends _ _ _ _ (router_hear r m id q named at stages telling says o w t le some) = tt
router_sends _ _ _ _ (router_ahead r m id q named at stages telling says o w t le all) = tt
router_sends _ _ _ _ (router_note r m id dones q kind ordered statements c next says o w n is) =
    sent_next next (subst (λ x. SendsNoTable x) (sym is)
    (write_sends r (heard r m) r.tables ordered (served_in_part (noted ordered c.answers dones) c.runs) q kind ordered statements
    (settled c (noted ordered c.answers dones))))
router_sends _ _ _ _ (router_refused r m id turn first cause q next says o is) =
    sent_next next (goes_sends r (heard r m) (IsLaterTable cause) q next (refused_goes r (heard r m) q m.sender turn first cause next is))
router_sends _ _ _ _ (router_no_table r m namespace create at node lack says) =
    each_sends r (heard r m) (table_refused r (heard r m) namespace create at (lack_refusal node lack)) r.requests
    (λ q. stays_or_goes_sends r (heard r m) q (stays q []) _ (tt, tt)
    (table_refused_goes r (heard r m) q namespace create at (lack_refusal node lack) (says_lacking node lack)))
router_sends _ _ _ _ (router_part r m id rows q named at stages telling says o w target some) = tt
router_sends _ _ _ _ (router_read r m id rows q named at stages telling all out answer f says o w target whole got merged tells) = tt
router_sends _ _ _ _ (router_excess r m id rows n q named at stages telling says o w target whole got) = tt
router_sends _ _ _ _ (router_overflow r m id rows q named at stages telling says o w target whole got) = tt
router_sends _ _ _ _ (router_late r m l) = tt
router_sends _ _ _ _ (router_skip r m s) = tt
router_sends _ _ _ _ (router_moment r moment b) =
    each_sends r (max r.time (time_of_moment moment)) (at_moment r (max r.time (time_of_moment moment)) moment) r.requests
    (λ q. stays_or_goes_sends r (max r.time (time_of_moment moment)) q (stays q (asks_again r (max r.time (time_of_moment moment)) q)) _
    (tt, again_asked r (max r.time (time_of_moment moment)) q) (moment_goes r (max r.time (time_of_moment moment)) q moment))

-- WHAT A NODE THAT TAKES NO STEP SENDS

refusal_says : (me time sender : ℕ) (what : Refused) (lack : Lack) → SaysNoTable (refusal_to me time sender what lack)
refusal_says me time sender (of_request id turn first) lack = tt
refusal_says me time sender (of_table namespace create no_time) lack = tt
refusal_says me time sender (of_table namespace create (at_time at)) lack = tt

pub missed_sends : (s : NodeState) (lack : Lack) (i : Input) → AllByRecursion SaysNoTable (misses s lack i).mail
missed_sends s lack (letter_input m) = by_test (m.receiver == number_of s)
  where
    by_what : (o : Option Refused) → AllByRecursion SaysNoTable (elim o as (λ (o : Option Refused). Effect) [
      | None ↦ nothing
      | Some what ↦ sends (refusal_to (number_of s) (time_of_node s) m.sender what lack ∷ [])
    ]).mail
    by_what None = tt
    by_what (Some what) = (refusal_says (number_of s) (time_of_node s) m.sender what lack, tt)

    by_test : (b : Bool) → AllByRecursion SaysNoTable (if b then elim (requested_of s m.body) as (λ (o : Option Refused). Effect) [
      | None ↦ nothing
      | Some what ↦ sends (refusal_to (number_of s) (time_of_node s) m.sender what lack ∷ [])
    ] else nothing).mail
    by_test true = by_what (requested_of s m.body)
    by_test false = tt
missed_sends (catalogue_state c) lack (client_input link number request) = tt
missed_sends (shard_state s) lack (client_input link number request) = tt
missed_sends (router_state r) lack (client_input link number request) = tt
missed_sends s lack (moment_input moment) = tt
missed_sends s lack opened_input = tt
