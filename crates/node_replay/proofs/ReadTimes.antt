-- No message reads at a time that is later than itself, whatever stops.
use Rattle.std.proofs.Common.{◌≡◌, ◌≢◌, ℕ, ◌≤◌, List, [], ◌∷◌, ◌++◌, refl, sym, subst, arith, Bool}
use Rattle.std.specs.Prelude.{max, map, nat_lt, true, false, ◌&&◌, Result, if◌then◌else◌}
use Rattle.std.specs.List.{AllByRecursion, flat_map}
use Rattle.std.specs.Str.{bytes_eq}
use Rattle.std.proofs.lemmas.Bool.{ltb-false}
use Rattle.base_model.specs.Times.{time_of_moment}
use Rattle.chunk_model.specs.Tables.{Table}
use Rattle.command_model.specs.Writes.{WriteKind}
use Rattle.pipeline_model.specs.Stages.{Stage}
use Rattle.history_model.specs.History.{IsIn}
use Rattle.reply_model.specs.Outcomes.{lack_refusal}
use Rattle.history_model.proofs.Lists.{all_weaken, all_append, all_at}
use Rattle.pipeline_model.specs.Halves.{Half, Rows}
use Rattle.pipeline_model.specs.Split.{split}
use Rattle.node_model.specs.Letters.{At, Statement, HalfFault, time_ask, Letter, Input, Effect, Reply}
use Rattle.node_model.specs.RouterRequests.{heard, id_of, says, turn_after, with_runs, asks_to_write, asks_to_read, asks_catalogue, targets_at, shards_of, untold, asks_times, reached}
use Rattle.node_model.specs.RouterNext.{awaited, with_work, with_told, with_part, noted, left_of, served_in_part, settled, Next, stays, is_told, stay_in, letters_in, after_next, is_for_catalogue, write_on, read_on, begins_work, next_of, adopted, was_created, asks_again, also_tried, table_refused, at_moment}
use Rattle.node_model.specs.RouterRows.{opened_request, RouterRow, router_begin, router_opened, router_plain, router_more, router_no_cursor, router_kill, router_take, router_learn, router_split, router_not_sharded, router_reach, router_hear, router_ahead, router_note, router_part, router_read, router_excess, router_overflow, router_late, router_skip, router_moment, router_refused, router_no_table, begins}
use Rattle.node_model.specs.States.{Target, Run, Course, Telling, Work, writing, reading, sharding, splitting, Wait, for_time, for_catalogue, for_shards, Open, Router, NodeState, without, replaced}
use Rattle.node_model.specs.Steps.{Step, catalogue_step, shard_step, router_step, begin_step, other_step}
use Rattle.node_laws.proofs.NextRequests.{NextIs, each_next}
use Rattle.node_laws.proofs.NextCases.{more_of, work_after, asks_after, with_catalogue, by_write, by_read, by_next}
use Rattle.node_laws.proofs.OpenRequests.{open_of_found, all_without, all_replaced}
use Rattle.node_replay.specs.Acknowledged.{says_lacking}
use Rattle.node_replay.specs.ReadTimes.{IsInTime, ComesInTime, WorksBy, WaitsBy, OpensBy, ReadsInTime}
use Rattle.node_replay.proofs.GivenUp.{IsLaterTable, GoesOn, write_goes, read_goes, is_answered, StaysOrGoes, just_stays, goes_on, refused_goes, table_refused_goes, moment_goes}
use Rattle.node_replay.proofs.ShardTimes.{open_later, shard_in_time, catalogue_in_time}

-- WHAT A ROUTER REQUESTS

module _ (r : Router) (time count : ℕ) (namespace : List ℕ) where
  write_in_time : (ordered : Bool) (statements : List Statement) (c : Course) (runs : List Run)
      → AllByRecursion IsInTime (asks_to_write r time (id_of r count) namespace ordered statements c runs)
  write_in_time ordered statements c [] = tt
  write_in_time ordered statements c (run ∷ runs) = (tt, write_in_time ordered statements c runs)

  read_in_time : (turn at : ℕ) (half : Half) (targets : List Target) → at ≤ time
      → AllByRecursion IsInTime (asks_to_read r time (id_of r count) namespace turn at half targets)
  read_in_time turn at half [] le = tt
  read_in_time turn at half (t ∷ targets) le = (le, read_in_time turn at half targets le)

  catalogue_asked : (work : Work) → WorksBy time work → IsInTime (asks_catalogue r time count namespace work)
  catalogue_asked (writing kind ordered statements c) by = tt
  catalogue_asked (reading named at stages telling) by = by
  catalogue_asked sharding by = tt
  catalogue_asked (splitting middle) by = tt

  times_in_time : (told : List ℕ) → AllByRecursion IsInTime (asks_times r time (id_of r count) told)
  times_in_time told = each_in_time (untold told (shards_of r))
    where
      each_in_time : (shards : List ℕ) → AllByRecursion IsInTime (map (λ s. says r s time (time_ask (id_of r count))) shards)
      each_in_time [] = tt
      each_in_time (s ∷ shards) = (tt, each_in_time shards)

-- what an open request waits for is requested again
again_in_time : (r : Router) (time : ℕ) (q : Open) → OpensBy time q → AllByRecursion IsInTime (asks_again r time q)
again_in_time r time q by = by_work q.work refl by
  where
    asked : (work : Work) → q.work ≡ work → WorksBy time work → IsInTime (asks_catalogue r time q.count q.namespace q.work)
    asked work is by = subst (λ x. IsInTime (asks_catalogue r time q.count q.namespace x)) (sym is) (catalogue_asked r time q.count q.namespace work by)

    by_both : (b : Bool) (letters : List Letter) → IsInTime (asks_catalogue r time q.count q.namespace q.work) → AllByRecursion IsInTime letters
        → AllByRecursion IsInTime (if b then asks_catalogue r time q.count q.namespace q.work ∷ letters else letters)
    by_both true letters one all = (one, all)
    by_both false letters one all = all

    by_wait : (at : ℕ) (half : Half) (work : Work) → q.work ≡ work → (WorksBy time work → at ≤ time) → (wait : Wait) → WaitsBy time wait work
        → AllByRecursion IsInTime (elim wait as (λ (x : Wait). List Letter) [
          | for_time ↦ asks_times r time (id_of r q.count) q.told
          | for_catalogue ↦ asks_catalogue r time q.count q.namespace q.work ∷ []
          | for_shards ↦ asks_to_read r time (id_of r q.count) q.namespace (turn_after q.tries) at half (awaited q.targets q.parts)
        ])
    by_wait at half work is past for_time by = times_in_time r time q.count q.namespace q.told
    by_wait at half work is past for_catalogue by = (asked work is by, tt)
    by_wait at half work is past for_shards by = read_in_time r time q.count q.namespace (turn_after q.tries) at half (awaited q.targets q.parts) (past by)

    by_work : (work : Work) → q.work ≡ work → OpensBy time q → AllByRecursion IsInTime (elim work as (λ (x : Work). List Letter) [
      | writing kind ordered statements c ↦
          if is_for_catalogue q.wait then asks_catalogue r time q.count q.namespace q.work
          ∷ asks_to_write r time (id_of r q.count) q.namespace ordered statements c c.runs
          else asks_to_write r time (id_of r q.count) q.namespace ordered statements c c.runs
      | reading named at stages telling ↦ elim q.wait [
        | for_time ↦ asks_times r time (id_of r q.count) q.told
        | for_catalogue ↦ asks_catalogue r time q.count q.namespace q.work ∷ []
        | for_shards ↦ asks_to_read r time (id_of r q.count) q.namespace (turn_after q.tries) at (split stages).0 (awaited q.targets q.parts)
      ]
      | sharding ↦ asks_catalogue r time q.count q.namespace q.work ∷ []
      | splitting middle ↦ asks_catalogue r time q.count q.namespace q.work ∷ []
    ])
    by_work (writing kind ordered statements c) is by =
        by_both (is_for_catalogue q.wait) (asks_to_write r time (id_of r q.count) q.namespace ordered statements c c.runs)
        (asked (writing kind ordered statements c) is tt) (write_in_time r time q.count q.namespace ordered statements c c.runs)
    by_work (reading named at stages telling) is by =
        by_wait at (split stages).0 (reading named at stages telling) is (λ past. past) q.wait (subst (λ x. WaitsBy time q.wait x) is by)
    by_work sharding is by = (asked sharding is tt, tt)
    by_work (splitting middle) is by = (asked (splitting middle) is tt, tt)

-- WHAT BECOMES OF A REQUEST

-- a reply reads nothing
abbrev AnyReply : Reply → Type 0
AnyReply x = Unit {0}

abbrev Becomes : ℕ → Next → Type 0
Becomes time next = NextIs (OpensBy time) IsInTime AnyReply next

works_waiting : (time : ℕ) (wait : Wait) (b : Bool) (work : Work) → (is_for_catalogue wait && b) ≡ true → WaitsBy time wait work → WorksBy time work
works_waiting time for_time b work is by = absurd (cc)
works_waiting time for_catalogue b work is by = by
works_waiting time for_shards b work is by = by

module _ (r : Router) (time : ℕ) where
  with_asks : (b : Bool) (letter : Letter) (letters : List Letter) → IsInTime letter → AllByRecursion IsInTime letters
      → AllByRecursion IsInTime (with_catalogue b letter letters)
  with_asks true letter letters one all = (one, all)
  with_asks false letter letters one all = all

  write_becomes : (tables : List Table) (asks : Bool) (again : List Run) (q : Open) (kind : WriteKind) (ordered : Bool) (statements : List Statement)
      (c : Course) → Becomes time (write_on r time tables asks again q kind ordered statements c)
  write_becomes tables asks again q kind ordered statements c =
      by_write (Becomes time) r time tables q asks again kind ordered statements c (λ h. tt) (λ h none. (tt, letters)) (λ h s left some. (
        tt,
        with_asks asks (asks_catalogue r time q.count q.namespace (work_after tables q kind ordered statements c))
            (asks_after r time tables q ordered statements c again) tt letters,
      ))
    where
      letters : AllByRecursion IsInTime (asks_after r time tables q ordered statements c again)
      letters = write_in_time r time q.count q.namespace ordered statements (with_runs c (more_of tables q ordered statements c)) (left_of c.answers again ++ more_of tables q ordered statements c)

  read_becomes : (tables : List Table) (asks : Bool) (q : Open) (named : Bool) (at : ℕ) (stages : List Stage) (telling : Telling) → at ≤ time
      → Becomes time (read_on r time tables asks q named at stages telling)
  read_becomes tables asks q named at stages telling le =
      by_read (Becomes time) r time tables q asks named at stages telling
      (λ none. (le, with_asks asks (asks_catalogue r time q.count q.namespace (reading named at stages telling)) [] le tt))
      (λ t got. (le, read_in_time r time q.count q.namespace (turn_after q.tries) at (split stages).0 (targets_at t at stages) le))

  begins_becomes : (q : Open) (work : Work) → Becomes time (begins_work r time q work)
  begins_becomes q (writing kind ordered statements c) = write_becomes r.tables true [] q kind ordered statements c
  begins_becomes q (reading named at stages telling) = by_time (nat_lt time at) refl
    where
      by_time : (b : Bool) → nat_lt time at ≡ b → Becomes time
          (if b then stays (with_work q for_time [] (reading named at stages telling)) (asks_times r time (id_of r q.count) [])
          else read_on r time r.tables true q named at stages telling)
      by_time true h = (tt, times_in_time r time q.count q.namespace [])
      by_time false h = read_becomes r.tables true q named at stages telling (ltb-false time at h)
  begins_becomes q sharding = (tt, (tt, tt))
  begins_becomes q (splitting middle) = (tt, (tt, tt))

  next_in_time : (tables : List Table) (namespace : List ℕ) (made : Bool) (told : At) (q : Open) → OpensBy time q
      → Becomes time (next_of r time tables namespace made told q)
  next_in_time tables namespace made told q by =
      by_next (Becomes time) r time tables q namespace made told (λ h. (by, tt)) (λ h. (
        (λ kind ordered statements c is. write_becomes tables false [] q kind ordered statements c),
        (λ named at stages telling is own. tt),
        (λ named at stages telling is. read_becomes tables false q named at stages telling
            (subst (λ x. WorksBy time x) is (works_waiting time q.wait (bytes_eq q.namespace namespace) q.work h by))),
        (λ is e. tt),
        (λ e. (by, tt)),
        λ middle is. (by, tt),
      ))

  -- work that is refused or given up
  goes_in_time : (again : Type 0) (q : Open) (next : Next) → OpensBy time q → GoesOn again r time q next → Becomes time next
  goes_in_time again q _ by (write_goes asks kind ordered statements c d is after) = write_becomes r.tables asks [] q kind ordered statements d
  goes_in_time again q _ by (read_goes later met named at stages telling is waits) =
      read_becomes r.tables true (also_tried q met) named at stages telling (subst (λ w. WorksBy time w) is (subst (λ w. WaitsBy time w q.work) waits by))
  goes_in_time again q _ by (is_answered answer plain) = tt

  stays_or_goes : (q : Open) (mail next : Next) → OpensBy time q → Becomes time mail → StaysOrGoes r time q mail next → Becomes time next
  stays_or_goes q mail _ by same just_stays = same
  stays_or_goes q mail _ by same (goes_on next goes) = goes_in_time ⊥ q next by goes

-- A ROUTER

-- what a step shows: open requests read by the time of the router, and what it sends by its own
pub record RouterInTime (f : Effect) (q : Router) : Type 0 where
  pub requests : AllByRecursion (OpensBy q.time) q.requests
  pub letters : AllByRecursion IsInTime f.mail

module _ (r : Router) (all : AllByRecursion (OpensBy r.time) r.requests) where
  now_open : (m : Letter) → AllByRecursion (OpensBy (heard r m)) r.requests
  now_open m = open_later r.time (heard r m) r.requests (omega arith) all

  one_closed : (m : Letter) (q : Open) → AllByRecursion (OpensBy (heard r m)) (without q.count r.requests)
  one_closed m q = all_without (OpensBy (heard r m)) q.count r.requests (now_open m)

  one_goes_on : (m : Letter) (q : Open) (next : Next) → Becomes (heard r m) next → AllByRecursion (OpensBy (heard r m)) (after_next q next r.requests)
  one_goes_on m q (stays p letters) b =
      all_replaced (OpensBy (heard r m)) p r.requests b.0
      (all_weaken (OpensBy (heard r m)) (λ (x : Open). x.count ≢ p.count → OpensBy (heard r m) x) r.requests (λ x by apart. by) (now_open m))
  one_goes_on m q (is_told reply) b = one_closed m q

  letters_go : (time : ℕ) (next : Next) → Becomes time next → AllByRecursion IsInTime (letters_in next)
  letters_go time (stays p letters) b = b.1
  letters_go time (is_told reply) b = tt

  one_begins : (next : Next) → Becomes r.time next → AllByRecursion (OpensBy r.time) (stay_in next)
  one_begins (stays p letters) b = (b.0, tt)
  one_begins (is_told reply) b = tt

  -- it still waits for its time
  one_waits : (m : Letter) (q : Open) → q.wait ≡ for_time → AllByRecursion (OpensBy (heard r m)) (replaced (with_told q m.sender) r.requests)
  one_waits m q waits =
      all_replaced (OpensBy (heard r m)) (with_told q m.sender) r.requests (subst (λ w. WaitsBy (heard r m) w q.work) (sym waits) tt)
      (all_weaken (OpensBy (heard r m)) (λ (p : Open). p.count ≢ q.count → OpensBy (heard r m) p) r.requests (λ p by apart. by) (now_open m))

  -- a shard returned its part to it
  one_parted : (m : Letter) (q : Open) (rows : Result Rows HalfFault) → IsIn q r.requests
      → AllByRecursion (OpensBy (heard r m)) (replaced (with_part q m.sender rows) r.requests)
  one_parted m q rows there =
      all_replaced (OpensBy (heard r m)) (with_part q m.sender rows) r.requests (all_at (OpensBy (heard r m)) q r.requests (now_open m) there)
      (all_weaken (OpensBy (heard r m)) (λ (p : Open). p.count ≢ q.count → OpensBy (heard r m) p) r.requests (λ p by apart. by) (now_open m))

  one_more : (more : List Open) → AllByRecursion (OpensBy r.time) more → AllByRecursion (OpensBy r.time) (r.requests ++ more)
  one_more more opens = all_append (OpensBy r.time) r.requests more all opens

-- what becomes of each
each_goes : (r : Router) (time : ℕ) (next : Open → Next) → AllByRecursion (OpensBy time) r.requests → ((q : Open) → OpensBy time q → Becomes time (next q))
    → AllByRecursion (OpensBy time) (flat_map (λ q. stay_in (next q)) r.requests) × AllByRecursion IsInTime (flat_map (λ q. letters_in (next q)) r.requests)
each_goes r time next all goes =
    let e = each_next (OpensBy time) IsInTime AnyReply next r.requests
    (all_weaken (OpensBy time) (λ q. NextIs (OpensBy time) IsInTime AnyReply (next q)) r.requests goes all) in
    (e.stay, e.ask)

pub router_in_time : (r q : Router) (i : Input) (f : Effect) → AllByRecursion (OpensBy r.time) r.requests → RouterRow r i f q → RouterInTime f q
router_in_time _ _ _ _ all (router_begin r not_begun) = record { requests = all; letters = tt }
router_in_time _ _ _ _ all (router_opened r begun) = record { requests = all; letters = tt }
router_in_time _ _ _ _ all (router_plain r link number request answer begun plan) = record { requests = one_more r all [] tt; letters = tt }
router_in_time _ _ _ _ all (router_more r link number request more c batch next begun plan found shows) =
    record { requests = one_more r all [] tt; letters = tt }
router_in_time _ _ _ _ all (router_no_cursor r link number request more begun plan none) = record { requests = one_more r all [] tt; letters = tt }
router_in_time _ _ _ _ all (router_kill r link number request kill killed missing next begun plan ends) =
    record { requests = one_more r all [] tt; letters = tt }
router_in_time _ _ _ _ all (router_take r link number request namespace work begun plan) = record {
  requests = one_more r all (stay_in (begins_work r r.time (opened_request r link number request namespace work) work))
      (one_begins r all (begins_work r r.time (opened_request r link number request namespace work) work)
      (begins_becomes r r.time (opened_request r link number request namespace work) work));
  letters = letters_go r all r.time (begins_work r r.time (opened_request r link number request namespace work) work)
      (begins_becomes r r.time (opened_request r link number request namespace work) work);
}
router_in_time _ _ _ _ all (router_learn r m namespace create told table tells) =
    let next : (q : Open) → Next = λ q. next_of r (heard r m) (adopted table r.tables) namespace (was_created create table) told q in
    let each : AllByRecursion (λ q. NextIs (OpensBy (heard r m)) IsInTime AnyReply (next q)) r.requests =
    all_weaken (OpensBy (heard r m)) (λ q. NextIs (OpensBy (heard r m)) IsInTime AnyReply (next q)) r.requests
    (λ q by. next_in_time r (heard r m) (adopted table r.tables) namespace (was_created create table) told q by) (now_open r all m) in
    let e = each_next (OpensBy (heard r m)) IsInTime AnyReply next r.requests each in
    record { requests = e.stay; letters = e.ask }
router_in_time _ _ _ _ all (router_split r m id q middle tells found work) = record { requests = one_closed r all m q; letters = tt }
router_in_time _ _ _ _ all (router_not_sharded r m id q middle tells found work) = record { requests = one_closed r all m q; letters = tt }
router_in_time _ _ _ _ all (router_reach r m id q named at stages telling tells found work waits past) = record {
  requests = one_goes_on r all m q (begins_work r (heard r m) q (reached (heard r m) q.work)) (begins_becomes r (heard r m) q (reached (heard r m) q.work));
  letters = letters_go r all (heard r m) (begins_work r (heard r m) q (reached (heard r m) q.work))
      (begins_becomes r (heard r m) q (reached (heard r m) q.work));
}
router_in_time _ _ _ _ all (router_hear r m id q named at stages telling tells found work waits ahead some) =
    record { requests = one_waits r all m q waits; letters = tt }
router_in_time _ _ _ _ all (router_ahead r m id q named at stages telling tells found work waits ahead every) =
    record { requests = one_closed r all m q; letters = tt }
router_in_time _ _ _ _ all (router_note r m id dones q kind ordered statements c next tells found work news is) =
    let becomes : Becomes (heard r m) next = subst (λ x. Becomes (heard r m) x) (sym is)
    (write_becomes r (heard r m) r.tables ordered (served_in_part (noted ordered c.answers dones) c.runs) q kind ordered statements
    (settled c (noted ordered c.answers dones))) in
    record { requests = one_goes_on r all m q next becomes; letters = letters_go r all (heard r m) next becomes }
router_in_time _ _ _ _ all (router_refused r m id turn first cause q next tells found is) =
    let by : OpensBy (heard r m) q = all_at (OpensBy (heard r m)) q r.requests (now_open r all m) (open_of_found r id q found).stands in
    let becomes : Becomes (heard r m) next = goes_in_time r (heard r m) (IsLaterTable cause) q next by (refused_goes r (heard r m) q m.sender turn first cause next is) in
    record { requests = one_goes_on r all m q next becomes; letters = letters_go r all (heard r m) next becomes }
router_in_time _ _ _ _ all (router_no_table r m namespace create at node lack tells) =
    let e = each_goes r (heard r m) (table_refused r (heard r m) namespace create at (lack_refusal node lack)) (now_open r all m)
    (λ q by. stays_or_goes r (heard r m) q (stays q []) _ by (by, tt)
    (table_refused_goes r (heard r m) q namespace create at (lack_refusal node lack) (says_lacking node lack))) in
    record { requests = e.0; letters = e.1 }
router_in_time _ _ _ _ all (router_part r m id rows q named at stages telling tells found work target some) =
    record { requests = one_parted r all m q rows (open_of_found r id q found).stands; letters = tt }
router_in_time _ _ _ _ all (router_read r m id rows q named at stages telling parts out answer f tells found work target whole got merges shown) =
    record { requests = one_closed r all m q; letters = tt }
router_in_time _ _ _ _ all (router_excess r m id rows n q named at stages telling tells found work target whole got) =
    record { requests = one_closed r all m q; letters = tt }
router_in_time _ _ _ _ all (router_overflow r m id rows q named at stages telling tells found work target whole got) =
    record { requests = one_closed r all m q; letters = tt }
router_in_time _ _ _ _ all (router_late r m late) = record { requests = now_open r all m; letters = tt }
router_in_time _ _ _ _ all (router_skip r m none) = record { requests = all; letters = tt }
router_in_time _ _ _ _ all (router_moment r moment begun) =
    let later : AllByRecursion (OpensBy (max r.time (time_of_moment moment))) r.requests =
    open_later r.time (max r.time (time_of_moment moment)) r.requests (omega arith) all in
    let e = each_goes r (max r.time (time_of_moment moment)) (at_moment r (max r.time (time_of_moment moment)) moment) later
    (λ q by. stays_or_goes r (max r.time (time_of_moment moment)) q (stays q (asks_again r (max r.time (time_of_moment moment)) q)) _ by
    (by, again_in_time r (max r.time (time_of_moment moment)) q by) (moment_goes r (max r.time (time_of_moment moment)) q moment)) in
    record { requests = e.0; letters = e.1 }

-- A STEP

pub record StepInTime (f : Effect) (t : NodeState) : Type 0 where
  pub state : ReadsInTime t
  pub letters : AllByRecursion IsInTime f.mail

pub step_in_time : (s t : NodeState) (i : Input) (f : Effect) → ReadsInTime s → ComesInTime i → Step s i f t → StepInTime f t
step_in_time _ _ _ _ reads input (catalogue_step c d i f own row) = record { state = tt; letters = catalogue_in_time c d i f row }
step_in_time _ _ _ _ reads input (shard_step s t i f own row) =
    let h = shard_in_time s t i f reads input row in
    record { state = h.parked; letters = h.letters }
step_in_time _ _ _ _ reads input (router_step r q i f own row) =
    let h = router_in_time r q i f reads row in
    record { state = h.requests; letters = h.letters }
step_in_time _ _ _ _ reads input (begin_step r q i f not_begun before row) =
    let h = router_in_time (begins r) q i f reads row in
    record { state = h.requests; letters = h.letters }
step_in_time _ _ _ _ reads input (other_step s m apart) = record { state = reads; letters = tt }
