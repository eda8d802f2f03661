-- In each transition of a router: what its open requests wait for, and what it sends.
use Rattle.std.proofs.Common.{◌≡◌, ◌≢◌, ◌⊎◌, inl, inr, ℕ, ℤ, ◌+◌, ◌≤◌, List, [], ◌∷◌, ◌++◌, refl, sym, ap, subst, ◌∙◌, Bool}
use Rattle.std.specs.Prelude.{Option, Some, None, Result, true, false, Bool, ◌==◌, not, nat_lt, if◌then◌else◌}
use Rattle.std.specs.List.{AllByRecursion, flat_map, list_any}
use Rattle.history_model.specs.History.{IsIn}
use Rattle.history_model.proofs.Lists.{all_at, all_append, in_cons, in_none}
use Rattle.chunk_model.specs.Tables.{Table, first_shard, table_of}
use Rattle.base_model.specs.Identities.{RequestId}
use Rattle.chunk_model.specs.Versions.{Version}
use Rattle.reply_model.specs.Accounts.{Lack}
use Rattle.command_model.specs.Writes.{WriteKind}
use Rattle.command_model.specs.Command.{command_of}
use Rattle.opmsg_model.specs.Requests.{Request}
use Rattle.reply_model.specs.Outcomes.{StatementOutcome, Done, lack_refusal}
use Rattle.node_model.specs.Letters.{At, no_time, table_told, split_done, write_done, read_rows, time_told, refused, Refused, of_request, of_table, Cause, is_stale, is_lack, HalfFault, Statement, Letter, Input, client_input, letter_input, moment_input, Effect}
use Rattle.node_model.specs.States.{Course, Telling, for_time, for_catalogue, for_shards, Router, Work, writing, reading, sharding, splitting, Open, without, replaced}
use Rattle.pipeline_model.specs.Halves.{Rows}
use Rattle.pipeline_model.specs.Stages.{Stage}
use Rattle.node_model.specs.RouterRequests.{id_of, shards_of, untold, turn_after, heard, reached, needs, plan_of}
use Rattle.node_model.specs.RouterNext.{is_target, also_part, awaited, also_told, with_told, with_part, with_work, knows, noted, served_in_part, settled, Next, stays, is_told, letters_in, stay_in, after_next, write_on, begins_work, refused_next, table_refused, asks_again, at_moment}
use Rattle.node_model.specs.RouterRows.{opened_request, takes, IsLate, TellsNothing, RouterRow, router_begin, router_opened, router_plain, router_more, router_no_cursor, router_kill, router_take, router_learn, router_split, router_not_sharded, router_reach, router_hear, router_ahead, router_note, router_refused, router_no_table, router_part, router_read, router_excess, router_overflow, router_late, router_skip, router_moment}
use Rattle.node_laws.proofs.Facts.{counts_of, AreDifferentCounts}
use Rattle.node_laws.proofs.KnownTables.{table_found, all_adopted}
use Rattle.node_laws.proofs.NextKeeps.{keeps_count, write_keeps, begins_keeps}
use Rattle.node_laws.proofs.NextRequests.{KeepsCount}
use Rattle.node_laws.proofs.OpenRequests.{open_of_found}
use Rattle.node_progress.specs.UnderWay.{Thing, a_table, things_sent, things_by, things_of, Brings, IsFor}
use Rattle.node_progress.proofs.Members.{in_filtered}
use Rattle.node_progress.proofs.Things.{Awaits, awaits, InSameLife, IsTimeAt, router_idle}
use Rattle.node_progress.proofs.Lateness.{WaitFits, IsFresh, named_in, wants_time, not_late}
use Rattle.node_progress.proofs.Versions.{IsFirst}
use Rattle.node_progress.proofs.OneRun.{AreStated, HasNext, unsent_course}
use Rattle.node_progress.proofs.Plans.{Starts, plan_goes}
use Rattle.node_progress.proofs.RouterWaits.{StillWaits, WaitsAfter, IsWaiting, unchanged, all_flat, in_flat, unchanged_as, all_wait, answered_wait, replaced_wait}
use Rattle.node_progress.proofs.GiveUps.{IsOver, HasStated, refused_over, StaysOrOver, stays_open, is_over as was_over, table_over, moment_over}
use Rattle.node_progress.proofs.NextWaits.{NextWaits, next_after, note_waits, begins_waits}
use Rattle.node_progress.proofs.RouterLearns.{learned_wait}
use Rattle.node_progress.proofs.RouterHears.{heard_waits, reached_now}
use Rattle.node_progress.proofs.RouterParts.{parted_waits}

-- WHAT IS KNOWN BEFORE

abbrev pub IsStated : Work → Type 0
IsStated (writing kind ordered statements c) = AreStated statements c.answers
IsStated (reading named at stages telling) = Unit {0}
IsStated sharding = Unit {0}
IsStated (splitting middle) = Unit {0}

-- a request that was sent to a shard which returns a part waits for shards
abbrev pub WaitsForParts : Open → Type 0
WaitsForParts q = (shard : ℕ) → is_target shard q.targets ≡ true → q.wait ≡ for_shards

-- of the messages that come, and of the router
pub record IsReady (r : Router) (i : Input) : Type 0 where
  pub place : (m : Letter) → i ≡ letter_input m → m.receiver ≡ r.me
  pub not_zero : r.me ≢ 0
  pub not_one : r.me ≢ first_shard
  pub not_shard : IsIn r.me (shards_of r) → ⊥
  pub some : r.shards ≢ 0
  pub different : AreDifferentCounts (counts_of r.requests)
  pub waiting : AllByRecursion IsWaiting r.requests
  pub stated : AllByRecursion (λ (q : Open). IsStated q.work) r.requests
  pub sent : AllByRecursion WaitsForParts r.requests
  pub tables : AllByRecursion IsFirst r.tables
  pub current : (m : Letter) → i ≡ letter_input m → (id : RequestId) (turn first : ℕ) (met : Version) → m.body ≡ refused (of_request id turn first) (is_stale met) → ⊥
  pub told : (m : Letter) → i ≡ letter_input m → (namespace : List ℕ) (create : Bool) (at : At) (t : Table) → m.body ≡ table_told namespace create at (Some t)
      → IsFirst t × (t.namespace ≡ namespace)

pub stated_of : (q : Open) (kind : WriteKind) (ordered : Bool) (statements : List Statement) (c : Course) → q.work ≡ writing kind ordered statements c
    → IsStated q.work → AreStated statements c.answers
stated_of q kind ordered statements c is stated = subst (λ w. IsStated w) is stated

-- the message names this request
abbrev pub NamesOne : Letter → RequestId → Type 0
NamesOne m id = (t : Thing) → IsFor t m → named_in t ≡ Some id

names_split : (m : Letter) (id : RequestId) (found : Bool) → m.body ≡ split_done id found → NamesOne m id
names_split m id found says t is = ap (λ x. named_in x) (subst (λ b. Brings t m.sender m.receiver b) says is).0

names_time : (m : Letter) (id : RequestId) → m.body ≡ time_told id → NamesOne m id
names_time m id says t is = ap (λ x. named_in x) (subst (λ b. Brings t m.sender m.receiver b) says is).0

names_rows : (m : Letter) (id : RequestId) (turn : ℕ) (rows : Result Rows HalfFault) → m.body ≡ read_rows id turn rows → NamesOne m id
names_rows m id turn rows says t is = ap (λ x. named_in x) (subst (λ b. Brings t m.sender m.receiver b) says is).0

names_run : (m : Letter) (id : RequestId) (dones : List Done) → m.body ≡ write_done id dones → NamesOne m id
names_run m id [] says t is = absurd (subst (λ b. Brings t m.sender m.receiver b) says is)
names_run m id (d ∷ dones) says t is = ap (λ x. named_in x) (subst (λ b. Brings t m.sender m.receiver b) says is).0

names_refused : (m : Letter) (id : RequestId) (what : Refused) (cause : Cause) → m.body ≡ refused what cause → NamesOne m id
names_refused m id what cause says t is = absurd (subst (λ b. Brings t m.sender m.receiver b) says is)

-- ONE REQUEST PROCEEDS, OR IS ANSWERED

module _ (r : Router) (m : Letter) (id : RequestId) (q : Open) (ready : IsReady r (letter_input m)) (names : NamesOne m id) (own : id ≡ id_of r q.count) where
  abbrev after : ℕ → Next → Router
  after time next = knows r time r.tables (after_next q next r.requests)

  first_by : (t : Table) → table_of q.namespace r.tables ≡ Some t → IsFirst t
  first_by t got = all_at IsFirst t r.tables ready.tables (table_found q.namespace r.tables t got).stands

  is_over : (u : Router) (mail : List Letter) → InSameLife r u → AllByRecursion (WaitsAfter r u (letter_input m) mail) (without q.count r.requests)
  is_over u mail same = answered_wait r u m mail q id same own names

  goes : (time : ℕ) (next : Next) → KeepsCount r q next → NextWaits r (after time next) (letter_input m) next
      → AllByRecursion (WaitsAfter r (after time next) (letter_input m) (letters_in next)) (after_next q next r.requests)
  goes time (stays p letters) count (inl still) =
      replaced_wait r (after time (stays p letters)) m letters q id (record { me = refl; shards = refl; life = refl }) own names p count (inl still)
  goes time (stays p letters) count (inr anew) =
      replaced_wait r (after time (stays p letters)) m letters q id (record { me = refl; shards = refl; life = refl }) own names p count
      (inr (record { going = anew.0; fits = anew.1; sent = anew.2; untried = anew.3; fresh = anew.4 }))
  goes time (is_told reply) count waits = is_over (after time (is_told reply)) [] (record { me = refl; shards = refl; life = refl })

  over_goes : (time : ℕ) (next : Next) → IsOver next
      → AllByRecursion (WaitsAfter r (after time next) (letter_input m) (letters_in next)) (after_next q next r.requests)
  over_goes time (stays p letters) over = absurd over
  over_goes time (is_told reply) over = is_over (after time (is_told reply)) [] (record { me = refl; shards = refl; life = refl })

  -- a read whose time is reached
  proceeds : (time : ℕ) (named : Bool) (at : ℕ) (stages : List Stage) (telling : Telling) → IsIn q r.requests → q.work ≡ reading named at stages telling → at ≤ time
      → AllByRecursion (WaitsAfter r (after time (begins_work r time q (reached time q.work))) (letter_input m)
      (letters_in (begins_work r time q (reached time q.work)))) (after_next q (begins_work r time q (reached time q.work)) r.requests)
  proceeds time named at stages telling there work le =
      goes time (begins_work r time q (reached time q.work)) (keeps_count r time q (begins_work r time q (reached time q.work))
      (begins_keeps r time q (reached time q.work)))
      (begins_waits r (after time (begins_work r time q (reached time q.work))) (letter_input m) time q (reached time q.work)
      (record { me = refl; shards = refl; life = refl }) (all_at IsWaiting q r.requests ready.waiting there).untried first_by ready.some (subst (λ w. Starts (reached time w)) (sym work) (tt, tt))
      (λ n a s t is ahead.
      let same : reading named (if named then at else time) stages telling ≡ reading n a s t = ap (λ w. reached time w) (sym work) ∙ is in
      let when : (if named then at else time) ≡ a = cc same in
      let now : nat_lt time a ≡ false = ap (λ x. nat_lt time x) (sym when) ∙ reached_now named at time le in
      absurd (cc (ahead, now))))

  -- outcomes of a write
  notes : (kind : WriteKind) (ordered : Bool) (statements : List Statement) (c : Course) (dones : List Done) (next : Next) → m.body ≡ write_done id dones
      → IsIn q r.requests → q.work ≡ writing kind ordered statements c → noted ordered c.answers dones ≢ c.answers
      → next ≡ write_on r (heard r m) r.tables ordered (served_in_part (noted ordered c.answers dones) c.runs) q kind ordered statements
      (settled c (noted ordered c.answers dones))
      → AllByRecursion (WaitsAfter r (after (heard r m) next) (letter_input m) (letters_in next)) (after_next q next r.requests)
  notes kind ordered statements c dones next says there work news is =
      goes (heard r m) next
      (subst (λ x. KeepsCount r q x) (sym is) (keeps_count r (heard r m) q proceeding
      (write_keeps r (heard r m) r.tables ordered (served_in_part new c.runs) q kind ordered statements (settled c new))))
      (subst (λ x. NextWaits r (after (heard r m) next) (letter_input m) x) (sym is)
      (note_waits r (after (heard r m) next) (letter_input m) (heard r m) r.tables q alive known.untried first_by kind ordered statements ordered c dones q.wait stated fits fresh news
      stay))
    where
      new : List (Option StatementOutcome)
      new = noted ordered c.answers dones

      proceeding : Next
      proceeding = write_on r (heard r m) r.tables ordered (served_in_part new c.runs) q kind ordered statements (settled c new)

      alive : InSameLife r (after (heard r m) next)
      alive = record { me = refl; shards = refl; life = refl }

      stated : AreStated statements c.answers
      stated = stated_of q kind ordered statements c work (all_at (λ (x : Open). IsStated x.work) q r.requests ready.stated there)

      known : IsWaiting q
      known = all_at IsWaiting q r.requests ready.waiting there

      fits : WaitFits (writing kind ordered statements c) q.wait
      fits = subst (λ w. WaitFits w q.wait) work known.fits

      fresh : IsFresh (writing kind ordered statements c)
      fresh = subst (λ w. IsFresh w) work known.fresh

      one_thing : q.wait ≡ for_catalogue → things_of r q ≡ a_table r.me q.namespace true no_time ∷ []
      one_thing wait =
          let none : c.runs ≡ [] = subst (λ w. WaitFits (writing kind ordered statements c) w) wait fits in
          ap (λ w. things_by (id_of r q.count) r.me (untold q.told (shards_of r)) (awaited q.targets q.parts) q.namespace q.work w) wait
          ∙ (ap (λ w. things_by (id_of r q.count) r.me (untold q.told (shards_of r)) (awaited q.targets q.parts) q.namespace w for_catalogue) work
          ∙ ap (λ runs. a_table r.me q.namespace true no_time ∷ things_sent (id_of r q.count) runs) none)

      no_run : (t : Thing) → named_in t ≡ Some id → (t ≡ a_table r.me q.namespace true no_time) ⊎ IsIn t [] → ⊥
      no_run t named (inl is) = let none : named_in t ≡ None = ap (λ x. named_in x) is in cc (named, none)
      no_run t named (inr i) = in_none t i

      stay : HasNext statements new → q.wait ≡ for_catalogue
          → StillWaits r (after (heard r m) next) (letter_input m) (with_work q for_catalogue [] (writing kind ordered statements (unsent_course c.tries new)))
      stay n wait =
          unchanged_as r (after (heard r m) next) (letter_input m) q (with_work q for_catalogue [] (writing kind ordered statements (unsent_course c.tries new))) alive there refl
          (sym (one_thing wait)) (λ w. record { going = n; fits = refl; untried = w.untried; fresh = fresh }) (λ t one x same brings.
          let letter : m ≡ x = cc same in
          let named : named_in t ≡ Some id = names t (subst (λ y. IsFor t y) (sym letter) brings) in
          no_run t named (in_cons t (a_table r.me q.namespace true no_time) [] (subst (λ l. IsIn t l) (one_thing wait) one)))

  hears : (time : ℕ) → m.body ≡ time_told id → IsIn q r.requests → q.wait ≡ for_time → untold (also_told q.told m.sender) (shards_of r) ≢ []
      → AllByRecursion (WaitsAfter r (knows r time r.tables (replaced (with_told q m.sender) r.requests)) (letter_input m) [])
      (replaced (with_told q m.sender) r.requests)
  hears time says there waits others =
      let u : Router = knows r time r.tables (replaced (with_told q m.sender) r.requests) in
      let same : InSameLife r u = record { me = refl; shards = refl; life = refl } in
      replaced_wait r u m [] q id same own names (with_told q m.sender) refl (inl (heard_waits r u q m waits same id says there others))

  has_part : (time : ℕ) (rows : Result Rows HalfFault) (named : Bool) (at : ℕ) (stages : List Stage) (telling : Telling) → m.body ≡ read_rows id 1 rows
      → IsIn q r.requests → q.wait ≡ for_shards → q.work ≡ reading named at stages telling → awaited q.targets (also_part q.parts m.sender rows) ≢ []
      → AllByRecursion (WaitsAfter r (knows r time r.tables (replaced (with_part q m.sender rows) r.requests)) (letter_input m) [])
      (replaced (with_part q m.sender rows) r.requests)
  has_part time rows named at stages telling says there waits work others =
      let u : Router = knows r time r.tables (replaced (with_part q m.sender rows) r.requests) in
      let same : InSameLife r u = record { me = refl; shards = refl; life = refl } in
      replaced_wait r u m [] q id same own names (with_part q m.sender rows) refl
      (inl (parted_waits r u q m rows named at stages telling waits work same id says there others))

-- WHAT IS GIVEN UP

pub stated_open : (r : Router) (i : Input) (q : Open) → IsReady r i → IsIn q r.requests → HasStated q
stated_open r i q ready there kind ordered statements c is =
    stated_of q kind ordered statements c is (all_at (λ (x : Open). IsStated x.work) q r.requests ready.stated there)

over_waits : (r u : Router) (i : Input) (next : Next) → IsOver next → NextWaits r u i next
over_waits r u i (stays q letters) over = absurd over
over_waits r u i (is_told reply) over = tt

-- a request that is refused is answered
pub gives_up : (r : Router) (m : Letter) (id : RequestId) (turn first : ℕ) (cause : Cause) (q : Open) (next : Next) → IsReady r (letter_input m)
    → m.body ≡ refused (of_request id turn first) cause → IsIn q r.requests → refused_next r (heard r m) q m.sender turn first cause ≡ Some next → IsOver next
gives_up r m id turn first cause q next ready says there is =
    refused_over r (heard r m) q (all_at IsWaiting q r.requests ready.waiting there) (stated_open r (letter_input m) q ready there) m.sender turn first cause next
    (λ met same. ready.current m refl id turn first met (says ∙ ap (λ c. refused (of_request id turn first) c) same)) is

stays_or_waits : (r u : Router) (i : Input) (q : Open) (mail : List Letter) (next : Next) → StillWaits r u i q → StaysOrOver q mail next → NextWaits r u i next
stays_or_waits r u i q mail _ still stays_open = inl still
stays_or_waits r u i q mail _ still (was_over next over) = over_waits r u i next over

no_table_waits : (r u : Router) (m : Letter) (namespace : List ℕ) (create : Bool) (at : At) (node : ℕ) (lack : Lack)
    → m.body ≡ refused (of_table namespace create at) (is_lack node lack) → InSameLife r u → IsReady r (letter_input m)
    → AllByRecursion (WaitsAfter r u (letter_input m)
    (flat_map (λ q. letters_in (table_refused r (heard r m) namespace create at (lack_refusal node lack) q)) r.requests))
    (flat_map (λ q. stay_in (table_refused r (heard r m) namespace create at (lack_refusal node lack) q)) r.requests)
no_table_waits r u m namespace create at node lack says alive ready =
    all_flat (WaitsAfter r u (letter_input m)
    (flat_map (λ q. letters_in (table_refused r (heard r m) namespace create at (lack_refusal node lack) q)) r.requests))
    (λ q. stay_in (table_refused r (heard r m) namespace create at (lack_refusal node lack) q)) r.requests
    (λ q there. next_after r u (letter_input m) _ (table_refused r (heard r m) namespace create at (lack_refusal node lack) q)
    (λ x i. in_flat (λ q. letters_in (table_refused r (heard r m) namespace create at (lack_refusal node lack) q)) r.requests q x there i)
    (stays_or_waits r u (letter_input m) q [] (table_refused r (heard r m) namespace create at (lack_refusal node lack) q)
    (unchanged r u (letter_input m) q alive there (λ t one n is brings.
    let same : m ≡ n = cc is in
    absurd (subst (λ b. Brings t m.sender m.receiver b) says (subst (λ x. IsFor t x) (sym same) brings))))
    (table_over r (heard r m) q (all_at IsWaiting q r.requests ready.waiting there) (stated_open r (letter_input m) q ready there) namespace create at node lack)))

moment_waits : (r u : Router) (moment time : ℕ) → InSameLife r u → IsReady r (moment_input moment)
    → AllByRecursion (WaitsAfter r u (moment_input moment) (flat_map (λ q. letters_in (at_moment r time moment q)) r.requests))
    (flat_map (λ q. stay_in (at_moment r time moment q)) r.requests)
moment_waits r u moment time alive ready =
    all_flat (WaitsAfter r u (moment_input moment) (flat_map (λ q. letters_in (at_moment r time moment q)) r.requests))
    (λ q. stay_in (at_moment r time moment q)) r.requests
    (λ q there. next_after r u (moment_input moment) _ (at_moment r time moment q)
    (λ x i. in_flat (λ q. letters_in (at_moment r time moment q)) r.requests q x there i)
    (stays_or_waits r u (moment_input moment) q (asks_again r time q) (at_moment r time moment q)
    (unchanged r u (moment_input moment) q alive there (λ t one m is. absurd (cc is)))
    (moment_over r time q (all_at IsWaiting q r.requests ready.waiting there) (stated_open r (moment_input moment) q ready there) moment)))

-- A REQUEST COMES

came_no_letter : (r : Router) (i : Input) → ((m : Letter) → i ≡ letter_input m → ⊥) → (q : Open) → IsIn q r.requests → (t : Thing) → IsIn t (things_of r q)
    → (m : Letter) → i ≡ letter_input m → IsFor t m → ⊥
came_no_letter r i none q there t one m is brings = none m is

nothing_more : (P : Open → Type 0) (requests : List Open) → AllByRecursion P requests → AllByRecursion P (requests ++ [])
nothing_more P requests all = all_append P requests [] all tt

taken_waits : (r : Router) (link : ℕ) (number : ℤ) (request : Request) (namespace : List ℕ) (work : Work) → IsReady r (client_input link number request)
    → plan_of r (id_of r (r.count + 1)) request.more (command_of request) ≡ needs namespace work
    → AllByRecursion (WaitsAfter r (takes r (stay_in (begins_work r r.time (opened_request r link number request namespace work) work)))
    (client_input link number request) (letters_in (begins_work r r.time (opened_request r link number request namespace work) work)))
    (r.requests ++ stay_in (begins_work r r.time (opened_request r link number request namespace work) work))
taken_waits r link number request namespace work ready plan =
    let q : Open = opened_request r link number request namespace work in
    let u : Router = takes r (stay_in (begins_work r r.time q work)) in
    let mail : List Letter = letters_in (begins_work r r.time q work) in
    all_append (WaitsAfter r u (client_input link number request) mail) r.requests (stay_in (begins_work r r.time q work))
    (all_wait r u (client_input link number request) mail (record { me = refl; shards = refl; life = refl })
    (came_no_letter r (client_input link number request) (λ m is. cc is)))
    (next_after r u (client_input link number request) mail (begins_work r r.time q work) (λ x i. i)
    (begins_waits r u (client_input link number request) r.time q work (record { me = refl; shards = refl; life = refl }) refl
    (λ t got. all_at IsFirst t r.tables ready.tables (table_found namespace r.tables t got).stands) ready.some
    (plan_goes r (id_of r (r.count + 1)) request.more request namespace work (command_of request) refl plan) (λ n a s t is ahead. refl)))

at_once_waits : (r u : Router) (link : ℕ) (number : ℤ) (request : Request) → InSameLife r u → u.requests ≡ r.requests ++ []
    → AllByRecursion (WaitsAfter r u (client_input link number request) []) u.requests
at_once_waits r u link number request alive same =
    subst (λ l. AllByRecursion (WaitsAfter r u (client_input link number request) []) l) (sym same)
    (nothing_more (WaitsAfter r u (client_input link number request) []) r.requests
    (all_wait r u (client_input link number request) [] alive (came_no_letter r (client_input link number request) (λ m is. cc is))))

-- EACH TRANSITION

late_waits : (r : Router) (m : Letter) (u : Router) → IsReady r (letter_input m) → IsLate r m.sender m.body → InSameLife r u
    → AllByRecursion (WaitsAfter r u (letter_input m) []) r.requests
late_waits r m u ready late alive = all_wait r u (letter_input m) [] alive (λ q there t one n is brings.
    let same : m ≡ n = cc is in
    let known = all_at IsWaiting q r.requests ready.waiting there in
    not_late r q t m.sender m.receiver m.body ready.different there known.going known.fits known.untried one late
    (subst (λ x. IsFor t x) (sym same) brings))

-- no request waits for a time of the router itself
own_time : (r : Router) (m : Letter) (q : Open) (t : Thing) → IsReady r (letter_input m) → IsIn t (things_of r q) → IsTimeAt t m.receiver → ⊥
own_time r m q t ready one is =
    let shards : List ℕ = untold q.told (shards_of r) in
    let among = wants_time (id_of r q.count) r.me shards (awaited q.targets q.parts) q.namespace q.work q.wait is.0 m.receiver
    (subst (λ x. Awaits r q x) is.1 (awaits r q t one)) in
    ready.not_shard (subst (λ n. IsIn n (shards_of r)) (ready.place m refl)
    (in_filtered (λ s. not (list_any (λ x. x == s) q.told)) m.receiver (shards_of r) among).0)

skip_waits : (r : Router) (m : Letter) → IsReady r (letter_input m) → TellsNothing m.body → AllByRecursion (WaitsAfter r r (letter_input m) []) r.requests
skip_waits r m ready none = all_wait r r (letter_input m) [] (record { me = refl; shards = refl; life = refl }) (λ q there t one n is brings.
    let same : m ≡ n = cc is in
    let place = ready.place m refl in
    router_idle t m.sender m.receiver m.body (λ e. ready.not_zero (sym place ∙ e)) (λ e. ready.not_one (sym place ∙ e))
    (λ time. own_time r m q t ready one time) none (subst (λ x. IsFor t x) (sym same) brings))

pub router_waits : (r : Router) (i : Input) (f : Effect) (u : Router) → IsReady r i → RouterRow r i f u → AllByRecursion (WaitsAfter r u i f.mail) u.requests
router_waits _ _ _ _ ready (router_begin r early) = all_wait r _ _ [] (record { me = refl; shards = refl; life = refl }) (came_no_letter r _ (λ m is. cc is))
router_waits _ _ _ _ ready (router_opened r begun) = all_wait r _ _ [] (record { me = refl; shards = refl; life = refl }) (came_no_letter r _ (λ m is. cc is))
router_waits _ _ _ _ ready (router_plain r link number request answer begun plan) = at_once_waits r _ link number request (record { me = refl; shards = refl; life = refl }) refl
router_waits _ _ _ _ ready (router_more r link number request get c batch next begun plan found shows) = at_once_waits r _ link number request (record { me = refl; shards = refl; life = refl }) refl
router_waits _ _ _ _ ready (router_no_cursor r link number request get begun plan none) = at_once_waits r _ link number request (record { me = refl; shards = refl; life = refl }) refl
router_waits _ _ _ _ ready (router_kill r link number request kill killed missing next begun plan ends) = at_once_waits r _ link number request (record { me = refl; shards = refl; life = refl }) refl
router_waits _ _ _ _ ready (router_take r link number request namespace work begun plan) = taken_waits r link number request namespace work ready plan
router_waits _ _ _ _ ready (router_learn r m namespace create at table says) =
    learned_wait r _ m (heard r m) namespace create at table says
    (λ t is. (ready.told m refl namespace create at t (says ∙ ap (λ o. table_told namespace create at o) is)).1) (record { me = refl; shards = refl; life = refl })
    (all_adopted IsFirst table r.tables (λ t is. (ready.told m refl namespace create at t (says ∙ ap (λ o. table_told namespace create at o) is)).0) ready.tables)
    ready.waiting
router_waits _ _ _ _ ready (router_split r m id q middle says found work) =
    is_over r m id q ready (names_split m id true says) (open_of_found r id q found).own _ [] (record { me = refl; shards = refl; life = refl })
router_waits _ _ _ _ ready (router_not_sharded r m id q middle says found work) =
    is_over r m id q ready (names_split m id false says) (open_of_found r id q found).own _ [] (record { me = refl; shards = refl; life = refl })
router_waits _ _ _ _ ready (router_reach r m id q named at stages telling says found work waits le) =
    proceeds r m id q ready (names_time m id says) (open_of_found r id q found).own (heard r m) named at stages telling (open_of_found r id q found).stands work le
router_waits _ _ _ _ ready (router_hear r m id q named at stages telling says found work waits ahead others) =
    let o = open_of_found r id q found in
    hears r m id q ready (names_time m id says) o.own (heard r m) says o.stands waits others
router_waits _ _ _ _ ready (router_ahead r m id q named at stages telling says found work waits ahead all) =
    is_over r m id q ready (names_time m id says) (open_of_found r id q found).own _ [] (record { me = refl; shards = refl; life = refl })
router_waits _ _ _ _ ready (router_note r m id dones q kind ordered statements c next says found work news is) =
    let o = open_of_found r id q found in
    notes r m id q ready (names_run m id dones says) o.own kind ordered statements c dones next says o.stands work news is
router_waits _ _ _ _ ready (router_refused r m id turn first cause q next says found is) =
    let o = open_of_found r id q found in
    over_goes r m id q ready (names_refused m id (of_request id turn first) cause says) o.own (heard r m) next
    (gives_up r m id turn first cause q next ready says o.stands is)
router_waits _ _ _ _ ready (router_no_table r m namespace create at node lack says) =
    no_table_waits r _ m namespace create at node lack says (record { me = refl; shards = refl; life = refl }) ready
router_waits _ _ _ _ ready (router_part r m id rows q named at stages telling says found work target some) =
    let o = open_of_found r id q found in
    has_part r m id q ready (names_rows m id (turn_after q.tries) rows says) o.own (heard r m) rows named at stages telling
    (says ∙ ap (λ l. read_rows id (turn_after l) rows) (all_at IsWaiting q r.requests ready.waiting o.stands).untried) o.stands
    (all_at WaitsForParts q r.requests ready.sent o.stands m.sender target) work some
router_waits _ _ _ _ ready (router_read r m id rows q named at stages telling all out answer f says found work target whole got merged tells) =
    is_over r m id q ready (names_rows m id (turn_after q.tries) rows says) (open_of_found r id q found).own _ [] (record { me = refl; shards = refl; life = refl })
router_waits _ _ _ _ ready (router_excess r m id rows n q named at stages telling says found work target whole got) =
    is_over r m id q ready (names_rows m id (turn_after q.tries) rows says) (open_of_found r id q found).own _ [] (record { me = refl; shards = refl; life = refl })
router_waits _ _ _ _ ready (router_overflow r m id rows q named at stages telling says found work target whole got) =
    is_over r m id q ready (names_rows m id (turn_after q.tries) rows says) (open_of_found r id q found).own _ [] (record { me = refl; shards = refl; life = refl })
router_waits _ _ _ _ ready (router_late r m late) = late_waits r m _ ready late (record { me = refl; shards = refl; life = refl })
router_waits _ _ _ _ ready (router_skip r m none) = skip_waits r m ready none
router_waits _ _ _ _ ready (router_moment r moment begun) = moment_waits r _ moment _ (record { me = refl; shards = refl; life = refl }) ready
