-- What a router sends goes to the catalogue or to shards, with the versions of a table that the catalogue had.
use Rattle.std.proofs.Common.{◌≡◌, ◌≢◌, ℕ, ◌+◌, ◌<◌, List, [], ◌∷◌, ◌++◌, refl, sym, ap, subst, ◌∙◌, arith, Bool}
use Rattle.std.specs.Prelude.{Option, Some, None, is_some, true, false, ◌==◌, not, if◌then◌else◌}
use Rattle.std.specs.List.{AllByRecursion, list_any}
use Rattle.history_model.specs.History.{IsIn}
use Rattle.history_model.proofs.Lists.{all_at, all_weaken, all_filter, all_append}
use Rattle.chunk_model.specs.Changes.{Change}
use Rattle.chunk_model.specs.Tables.{Table, table_of, first_shard}
use Rattle.chunk_model.specs.Verdicts.{sent_by}
use Rattle.pipeline_model.specs.Halves.{Half}
use Rattle.pipeline_model.specs.Stages.{Stage}
use Rattle.pipeline_model.specs.Split.{split}
use Rattle.reply_model.specs.Outcomes.{Done, Try, has_outcome, lack_refusal}
use Rattle.node_model.specs.Letters.{At, Body, Statement, time_ask, write_ask, read_ask, table_told, Letter, Input, letter_input, moment_input, Effect}
use Rattle.node_model.specs.States.{Target, Part, Run, Course, Telling, for_time, for_catalogue, for_shards, Wait, Router, Work, writing, reading, sharding, splitting, Open, replaced}
use Rattle.node_model.specs.RouterRequests.{id_of, shards_of, untold, heard, turn_after, turn_of, with_runs, says, run_of, next_run, all_runs, in_run, unsent, runs_by, asks_to_write, asks_to_read, asks_catalogue, asks_times, reached}
use Rattle.node_model.specs.RouterNext.{adopted, part_of, awaited, asks_again, noted, left_of, served_in_part, settled, is_for_catalogue, Next, stays, is_told, was_created, write_on, read_on, begins_work, next_of, letters_in, stay_in, after_next, table_refused, at_moment}
use Rattle.node_model.specs.RouterRows.{opened_request, RouterRow, router_begin, router_opened, router_plain, router_more, router_no_cursor, router_kill, router_take, router_learn, router_split, router_not_sharded, router_reach, router_hear, router_ahead, router_note, router_refused, router_no_table, router_part, router_read, router_excess, router_overflow, router_late, router_skip, router_moment}
use Rattle.command_model.specs.Command.{command_of}
use Rattle.command_model.specs.Writes.{WriteKind}
use Rattle.reply_model.specs.Accounts.{Lack}
use Rattle.node_laws.proofs.Lists.{all_mapped}
use Rattle.node_laws.proofs.KnownTables.{table_found, all_adopted}
use Rattle.node_laws.proofs.NextCases.{more_of, work_after, asks_after, with_catalogue, by_write, by_read, by_next, by_begins}
use Rattle.node_laws.proofs.OpenRequests.{open_of_found, all_without, all_replaced}
use Rattle.node_progress.proofs.Versions.{WasHad, IsTableOf, IsKnowing, IsPlain, IsWell}
use Rattle.node_progress.proofs.OneRun.{IsKeyed, AreStated, AreUntried, stated_keyed, unsent_keyed, next_one, all_one}
use Rattle.node_progress.proofs.RunVersions.{RunWasSent, RunsWereSent, OpenRuns, left_sent}
use Rattle.node_progress.proofs.Lateness.{IsGoing, IsFresh}
use Rattle.node_progress.proofs.Sends.{first_target, one_target, table_of_read}
use Rattle.node_progress.proofs.Plans.{Starts, plan_goes}
use Rattle.node_progress.proofs.RouterWaits.{IsWaiting, all_flat}
use Rattle.node_progress.proofs.GiveUps.{IsOver, StaysOrOver, stays_open, is_over, table_over, moment_over}
use Rattle.node_progress.proofs.RouterGoesOn.{IsReady, IsStated, stated_of, stated_open, gives_up}

-- where a read was sent: to the first shard, with the versions of a table that the catalogue had
pub record WasSentBy (changes : List Change) (namespace : List ℕ) (targets : List Target) : Type 0 where
  pub table : Table
  pub had : WasHad changes table
  pub name : table.namespace ≡ namespace
  pub targets_are : targets ≡ first_target table ∷ []

abbrev pub WasSentOut : List Change → (namespace : List ℕ) → Work → List Target → Type 0
WasSentOut changes namespace (writing kind ordered statements c) targets = Unit {0}
WasSentOut changes namespace (reading named at stages telling) targets = WasSentBy changes namespace targets
WasSentOut changes namespace sharding targets = Unit {0}
WasSentOut changes namespace (splitting middle) targets = Unit {0}

abbrev pub WasSent : List Change → (namespace : List ℕ) → Wait → Work → List Target → Type 0
WasSent changes namespace for_time work targets = Unit {0}
WasSent changes namespace for_catalogue work targets = Unit {0}
WasSent changes namespace for_shards work targets = WasSentOut changes namespace work targets

-- of an open request
abbrev pub OpenWasSent : List Change → Open → Type 0
OpenWasSent changes q = WasSent changes q.namespace q.wait q.work q.targets

module _ (changes : List Change) (nodes : ℕ) (r : Router) (own : r.me < nodes) (two : first_shard < nodes)
    (there : AllByRecursion (λ s. s < nodes) (shards_of r)) where
  abbrev pub Well : List Letter → Type 0
  Well mail = AllByRecursion (IsWell changes nodes) mail

  -- A MESSAGE

  to_first : (time : ℕ) (b : Body) → IsKnowing changes b → IsPlain b → Well (says r first_shard time b ∷ [])
  to_first time b knowing plain = (record { knowing = knowing; first = λ a asks. refl; plain = plain; from = own; to = two }, tt)

  to_catalogue : (time count : ℕ) (namespace : List ℕ) (work : Work) → IsWell changes nodes (asks_catalogue r time count namespace work)
  to_catalogue time count namespace (writing kind ordered statements c) =
      record { knowing = λ a asks. absurd (cc asks); first = λ a asks. absurd (cc asks); plain = tt; from = own; to = omega (arith, two) }
  to_catalogue time count namespace (reading named at stages telling) =
      record { knowing = λ a asks. absurd (cc asks); first = λ a asks. absurd (cc asks); plain = tt; from = own; to = omega (arith, two) }
  to_catalogue time count namespace sharding = record { knowing = λ a asks. absurd (cc asks); first = λ a asks. absurd (cc asks); plain = tt; from = own; to = omega (arith, two) }
  to_catalogue time count namespace (splitting middle) =
      record { knowing = λ a asks. absurd (cc asks); first = λ a asks. absurd (cc asks); plain = tt; from = own; to = omega (arith, two) }

  to_times : (time count : ℕ) (told : List ℕ) → Well (asks_times r time (id_of r count) told)
  to_times time count told =
      all_mapped (IsWell changes nodes) (λ s. says r s time (time_ask (id_of r count))) (untold told (shards_of r))
      (all_weaken (λ s. s < nodes) (λ s. IsWell changes nodes (says r s time (time_ask (id_of r count)))) (untold told (shards_of r))
      (λ s less. record { knowing = λ a asks. absurd (cc asks); first = λ a asks. absurd (cc asks); plain = tt; from = own; to = less })
      (all_filter (λ s. s < nodes) (λ s. not (list_any (λ t. t == s) told)) (shards_of r) there))

  to_catalogues : (time count : ℕ) (namespace : List ℕ) (work : Work) (asks : Bool) (letters : List Letter) → Well letters
      → Well (with_catalogue asks (asks_catalogue r time count namespace work) letters)
  to_catalogues time count namespace work true letters well = (to_catalogue time count namespace work, well)
  to_catalogues time count namespace work false letters well = well

  -- of the first shard
  to_target : (time count : ℕ) (namespace : List ℕ) (t : Table) (at : ℕ) (half : Half) → WasHad changes t → t.namespace ≡ namespace
      → (turn : ℕ) → Well (asks_to_read r time (id_of r count) namespace turn at half (first_target t ∷ []))
  to_target time count namespace t at half had name turn =
      to_first time (read_ask (id_of r count) turn namespace at half (sent_by t first_shard))
      (λ a asks. record { table = t; had = had; name = name ∙ cc asks; sent = cc asks }) tt

  -- a run, whichever statements it has
  to_run : (time count turn : ℕ) (namespace : List ℕ) (ordered : Bool) (l : List Statement) (run : Run) → RunWasSent changes namespace run
      → IsWell changes nodes (says r run.shard time (write_ask (id_of r count) turn ordered namespace l run.sent))
  to_run time count turn namespace ordered [] run s = record {
    knowing = λ a asks. absurd (cc asks);
    first = λ a asks. absurd (cc asks);
    plain = tt;
    from = own;
    to = subst (λ n. n < nodes) (sym s.shard) two;
  }
  to_run time count turn namespace ordered (x ∷ l) run s = record {
    knowing = λ a asks. record {
      table = s.table;
      had = s.had;
      name = s.name ∙ cc asks;
      sent = (let e : a.sent ≡ run.sent = cc asks in e ∙ s.versions);
    };
    first = λ a asks. s.shard;
    plain = tt;
    from = own;
    to = subst (λ n. n < nodes) (sym s.shard) two;
  }

  to_runs : (time count : ℕ) (namespace : List ℕ) (ordered : Bool) (statements : List Statement) (c : Course) (runs : List Run)
      → AllByRecursion (RunWasSent changes namespace) runs → Well (asks_to_write r time (id_of r count) namespace ordered statements c runs)
  to_runs time count namespace ordered statements c runs all =
      all_mapped (IsWell changes nodes)
      (λ (run : Run). says r run.shard time (write_ask (id_of r count) (turn_of c run) ordered namespace (in_run run statements) run.sent)) runs
      (all_weaken (RunWasSent changes namespace)
      (λ (run : Run). IsWell changes nodes (says r run.shard time (write_ask (id_of r count) (turn_of c run) ordered namespace (in_run run statements) run.sent))) runs
      (λ run s. to_run time count (turn_of c run) namespace ordered (in_run run statements) run s) all)

  -- WHAT IS NEXT

  -- the messages are well, and the runs that are under way then were sent so
  abbrev pub NextSends : Next → Type 0
  NextSends (stays p letters) = OpenRuns changes p × Well letters
  NextSends (is_told reply) = Unit {0}

  letters_well : (next : Next) → NextSends next → Well (letters_in next)
  letters_well (stays p letters) n = n.1
  letters_well (is_told reply) n = tt

  pub runs_well : (next : Next) → NextSends next → AllByRecursion (OpenRuns changes) (stay_in next)
  runs_well (stays p letters) n = (n.0, tt)
  runs_well (is_told reply) n = tt

  run_by : (t : Table) (namespace : List ℕ) (statements : List Statement) → IsTableOf changes t → t.namespace ≡ namespace
      → RunWasSent changes namespace (run_of t first_shard statements)
  run_by t namespace statements is name = record { table = t; had = is.0; name = name; shard = refl; versions = refl }

  -- what a table sends
  next_by : (t : Table) (namespace : List ℕ) (tries : List (List Try)) → AreUntried tries → (l : List Statement) → IsTableOf changes t → t.namespace ≡ namespace
      → AllByRecursion IsKeyed l
      → AllByRecursion (RunWasSent changes namespace) (next_run t tries l) × AllByRecursion (RunWasSent changes namespace) (all_runs t tries l)
  next_by t namespace tries fresh [] is name keyed = (tt, tt)
  next_by t namespace tries fresh (s ∷ more) is name keyed = (
    subst (λ runs. AllByRecursion (RunWasSent changes namespace) runs) (sym (next_one t is.1 tries fresh s more keyed.0 keyed.1))
        (run_by t namespace (s ∷ more) is name, tt),
    subst (λ runs. AllByRecursion (RunWasSent changes namespace) runs) (sym (all_one t is.1 tries fresh s more keyed.0 keyed.1))
        (run_by t namespace (s ∷ more) is name, tt),
  )

  more_by : (ordered : Bool) (o : Option Table) (namespace : List ℕ) (statements : List Statement) (c : Course)
      → ((t : Table) → o ≡ Some t → IsTableOf changes t × (t.namespace ≡ namespace)) → AllByRecursion IsKeyed statements → AreUntried c.tries
      → AllByRecursion (RunWasSent changes namespace) (runs_by ordered o statements c)
  more_by ordered None namespace statements c known keyed fresh = tt
  more_by true (Some t) namespace statements c known keyed fresh =
      let k = known t refl in
      (next_by t namespace c.tries fresh (unsent true statements c) k.0 k.1 (unsent_keyed true statements c keyed)).0
  more_by false (Some t) namespace statements c known keyed fresh =
      let k = known t refl in
      (next_by t namespace c.tries fresh (unsent false statements c) k.0 k.1 (unsent_keyed false statements c keyed)).1

  write_sends : (time : ℕ) (tables : List Table) (asks : Bool) (again : List Run) (q : Open) (kind : WriteKind) (ordered : Bool) (statements : List Statement)
      (c : Course) → AllByRecursion (IsTableOf changes) tables → AllByRecursion IsKeyed statements → AreUntried c.tries
      → AllByRecursion (RunWasSent changes q.namespace) c.runs
      → AllByRecursion (RunWasSent changes q.namespace) again → NextSends (write_on r time tables asks again q kind ordered statements c)
  write_sends time tables asks again q kind ordered statements c had keyed fresh runs rest =
      by_write NextSends r time tables q asks again kind ordered statements c (λ told. tt) (λ h none. (all_there, letters))
      (λ h s left some. (
        all_there,
        to_catalogues time q.count q.namespace (work_after tables q kind ordered statements c) asks (asks_after r time tables q ordered statements c again) letters,
      ))
    where
      more : AllByRecursion (RunWasSent changes q.namespace) (more_of tables q ordered statements c)
      more = more_by ordered (table_of q.namespace tables) q.namespace statements c
          (λ t got. let found = table_found q.namespace tables t got in (all_at (IsTableOf changes) t tables had found.stands, found.name)) keyed fresh

      all_there : AllByRecursion (RunWasSent changes q.namespace) (c.runs ++ more_of tables q ordered statements c)
      all_there = all_append (RunWasSent changes q.namespace) c.runs (more_of tables q ordered statements c) runs more

      letters : Well (asks_after r time tables q ordered statements c again)
      letters = to_runs time q.count q.namespace ordered statements (with_runs c (more_of tables q ordered statements c)) (left_of c.answers again ++ more_of tables q ordered statements c)
          (all_append (RunWasSent changes q.namespace) (left_of c.answers again) (more_of tables q ordered statements c)
          (left_sent changes q.namespace c.answers again rest) more)

  read_sends : (time : ℕ) (tables : List Table) (asks : Bool) (q : Open) (named : Bool) (at : ℕ) (stages : List Stage) (telling : Telling)
      → AllByRecursion (IsTableOf changes) tables → NextSends (read_on r time tables asks q named at stages telling)
  read_sends time tables asks q named at stages telling had =
      by_read NextSends r time tables q asks named at stages telling
      (λ none. (tt, to_catalogues time q.count q.namespace (reading named at stages telling) asks [] tt))
      (λ t got.
      let is = table_of_read (table_of q.namespace tables) at q.tries t got in
      let found = table_found q.namespace tables t is.0 in
      let had_it = all_at (IsTableOf changes) t tables had found.stands in (
        tt,
        subst (λ l. Well (asks_to_read r time (id_of r q.count) q.namespace (turn_after q.tries) at (split stages).0 l)) (sym (one_target t at stages had_it.1 is.1))
            (to_target time q.count q.namespace t at (split stages).0 had_it.0 found.name (turn_after q.tries)),
      ))

  pub begins_sends : (time : ℕ) (q : Open) (work : Work) → AllByRecursion (IsTableOf changes) r.tables → Starts work → NextSends (begins_work r time q work)
  begins_sends time q work had starts =
      by_begins NextSends r time q work
      (λ kind ordered statements c is.
      let s : Starts (writing kind ordered statements c) = subst (λ w. Starts w) is starts in
      write_sends time r.tables true [] q kind ordered statements c had s.0.keyed s.1.1
      (subst (λ runs. AllByRecursion (RunWasSent changes q.namespace) runs) (sym s.1.0) tt) tt)
      (λ named at stages telling is ahead. (tt, to_times time q.count []))
      (λ named at stages telling is now. read_sends time r.tables true q named at stages telling had)
      (λ is. (tt, (to_catalogue time q.count q.namespace sharding, tt)))
      (λ middle is. (tt, (to_catalogue time q.count q.namespace (splitting middle), tt)))

  pub next_sends : (time : ℕ) (tables : List Table) (namespace : List ℕ) (made : Bool) (at : At) (q : Open) → AllByRecursion (IsTableOf changes) tables
      → IsGoing q.work → IsFresh q.work → OpenRuns changes q → NextSends (next_of r time tables namespace made at q)
  next_sends time tables namespace made at q had going fresh runs =
      by_next NextSends r time tables q namespace made at (λ other. (runs, tt)) (λ mine. (
        (λ kind ordered statements c is.
            let n : IsGoing (writing kind ordered statements c) = subst (λ w. IsGoing w) is going in
            write_sends time tables false [] q kind ordered statements c had n.keyed (subst (λ w. IsFresh w) is fresh) (subst (λ w. RunsWereSent changes q.namespace w) is runs) tt),
        (λ named at_read stages telling is told. tt),
        (λ named at_read stages telling is. read_sends time tables false q named at_read stages telling had),
        (λ is is_made. tt),
        (λ is. (runs, tt)),
        (λ middle is. (runs, tt)),
      ))

  -- AT A MOMENT

  again_well : (time : ℕ) (q : Open) → OpenRuns changes q → WasSent changes q.namespace q.wait q.work q.targets → Well (asks_again r time q)
  again_well time q runs sent = by_work q.work refl runs sent
    where
      some_awaited : (at : ℕ) (half : Half) (t : Table) (parts : List Part) → WasHad changes t → t.namespace ≡ q.namespace
          → Well (asks_to_read r time (id_of r q.count) q.namespace (turn_after q.tries) at half (awaited (first_target t ∷ []) parts))
      some_awaited at half t parts is name = by_test (not (is_some (part_of first_shard parts)))
        where
          by_test : (b : Bool) → Well (asks_to_read r time (id_of r q.count) q.namespace (turn_after q.tries) at half (if b then first_target t ∷ [] else []))
          by_test true = to_target time q.count q.namespace t at half is name (turn_after q.tries)
          by_test false = tt

      by_read : (named : Bool) (at : ℕ) (stages : List Stage) (telling : Telling) (w : Wait)
          → WasSent changes q.namespace w (reading named at stages telling) q.targets → Well (elim w as (λ (w : Wait). List Letter) [
            | for_time ↦ asks_times r time (id_of r q.count) q.told
            | for_catalogue ↦ asks_catalogue r time q.count q.namespace q.work ∷ []
            | for_shards ↦ asks_to_read r time (id_of r q.count) q.namespace (turn_after q.tries) at (split stages).0 (awaited q.targets q.parts)
          ])
      by_read named at stages telling for_time sent = to_times time q.count q.told
      by_read named at stages telling for_catalogue sent = (to_catalogue time q.count q.namespace q.work, tt)
      by_read named at stages telling for_shards sent =
          subst (λ l. Well (asks_to_read r time (id_of r q.count) q.namespace (turn_after q.tries) at (split stages).0 (awaited l q.parts))) (sym sent.targets_are)
          (some_awaited at (split stages).0 sent.table q.parts sent.had sent.name)

      by_work : (work : Work) → q.work ≡ work → RunsWereSent changes q.namespace work → WasSent changes q.namespace q.wait work q.targets
          → Well (elim work as (λ (x : Work). List Letter) [
            | writing kind ordered statements c ↦
                (if is_for_catalogue q.wait
                then asks_catalogue r time q.count q.namespace q.work ∷ asks_to_write r time (id_of r q.count) q.namespace ordered statements c c.runs
                else asks_to_write r time (id_of r q.count) q.namespace ordered statements c c.runs)
            | reading named at stages telling ↦ elim q.wait as (λ (w : Wait). List Letter) [
              | for_time ↦ asks_times r time (id_of r q.count) q.told
              | for_catalogue ↦ asks_catalogue r time q.count q.namespace q.work ∷ []
              | for_shards ↦ asks_to_read r time (id_of r q.count) q.namespace (turn_after q.tries) at (split stages).0 (awaited q.targets q.parts)
            ]
            | sharding ↦ asks_catalogue r time q.count q.namespace q.work ∷ []
            | splitting middle ↦ asks_catalogue r time q.count q.namespace q.work ∷ []
          ])
      by_work (writing kind ordered statements c) is runs sent =
          to_catalogues time q.count q.namespace q.work (is_for_catalogue q.wait)
          (asks_to_write r time (id_of r q.count) q.namespace ordered statements c c.runs)
          (to_runs time q.count q.namespace ordered statements c c.runs runs)
      by_work (reading named at stages telling) is runs sent = by_read named at stages telling q.wait sent
      by_work sharding is runs sent = (to_catalogue time q.count q.namespace q.work, tt)
      by_work (splitting middle) is runs sent = (to_catalogue time q.count q.namespace q.work, tt)

  -- WHAT IS GIVEN UP

  pub over_sends : (next : Next) → IsOver next → NextSends next
  over_sends (stays p letters) over = absurd over
  over_sends (is_told reply) over = tt

  stays_or_sends : (q : Open) (mail : List Letter) (next : Next) → OpenRuns changes q → Well mail → StaysOrOver q mail next → NextSends next
  stays_or_sends q mail _ runs well stays_open = (runs, well)
  stays_or_sends q mail _ runs well (is_over next over) = over_sends next over

  pub no_table_sends : (m : Letter) (namespace : List ℕ) (create : Bool) (at : At) (node : ℕ) (lack : Lack) (q : Open) → IsReady r (letter_input m)
      → IsIn q r.requests → OpenRuns changes q → NextSends (table_refused r (heard r m) namespace create at (lack_refusal node lack) q)
  no_table_sends m namespace create at node lack q ready one runs =
      stays_or_sends q [] (table_refused r (heard r m) namespace create at (lack_refusal node lack) q) runs tt
      (table_over r (heard r m) q (all_at IsWaiting q r.requests ready.waiting one) (stated_open r (letter_input m) q ready one) namespace create at node lack)

  pub moment_sends : (moment time : ℕ) (q : Open) → IsReady r (moment_input moment) → IsIn q r.requests → OpenRuns changes q → OpenWasSent changes q
      → NextSends (at_moment r time moment q)
  moment_sends moment time q ready one runs sent =
      stays_or_sends q (asks_again r time q) (at_moment r time moment q) runs (again_well time q runs sent)
      (moment_over r time q (all_at IsWaiting q r.requests ready.waiting one) (stated_open r (moment_input moment) q ready one) moment)

  -- AFTER IT

  pub replaced_runs : (p : Open) → AllByRecursion (OpenRuns changes) r.requests → OpenRuns changes p → AllByRecursion (OpenRuns changes) (replaced p r.requests)
  replaced_runs p runs own_runs =
      all_replaced (OpenRuns changes) p r.requests own_runs
      (all_weaken (OpenRuns changes) (λ (x : Open). x.count ≢ p.count → OpenRuns changes x) r.requests (λ x k other. k) runs)

  pub after_runs : (q : Open) (next : Next) → AllByRecursion (OpenRuns changes) r.requests → NextSends next
      → AllByRecursion (OpenRuns changes) (after_next q next r.requests)
  after_runs q (stays p letters) runs n = replaced_runs p runs n.0
  after_runs q (is_told reply) runs n = all_without (OpenRuns changes) q.count r.requests runs

  pub note_sends : (m : Letter) (q : Open) (kind : WriteKind) (ordered : Bool) (statements : List Statement) (c : Course) (dones : List Done) (next : Next)
      → AllByRecursion (λ (x : Open). IsStated x.work) r.requests → IsIn q r.requests → q.work ≡ writing kind ordered statements c
      → AreUntried c.tries → AllByRecursion (IsTableOf changes) r.tables → AllByRecursion (OpenRuns changes) r.requests
      → next ≡ write_on r (heard r m) r.tables ordered (served_in_part (noted ordered c.answers dones) c.runs) q kind ordered statements
      (settled c (noted ordered c.answers dones)) → NextSends next
  note_sends m q kind ordered statements c dones next stated one work fresh had runs is =
      let known : AreStated statements c.answers = stated_of q kind ordered statements c work (all_at (λ (x : Open). IsStated x.work) q r.requests stated one) in
      let old : AllByRecursion (RunWasSent changes q.namespace) c.runs =
      subst (λ w. RunsWereSent changes q.namespace w) work (all_at (OpenRuns changes) q r.requests runs one) in
      subst (λ x. NextSends x) (sym is)
      (write_sends (heard r m) r.tables ordered (served_in_part (noted ordered c.answers dones) c.runs) q kind ordered statements
      (settled c (noted ordered c.answers dones)) had (stated_keyed statements c.answers known) fresh
      (left_sent changes q.namespace (noted ordered c.answers dones) c.runs old)
      (all_filter (RunWasSent changes q.namespace) (λ (run : Run). list_any (has_outcome (noted ordered c.answers dones)) run.indices) c.runs old))

-- EACH TRANSITION

abbrev pub ToldTables : List Change → Input → Type 0
ToldTables changes i = (m : Letter) → i ≡ letter_input m → (namespace : List ℕ) (create : Bool) (at : At) (t : Table)
    → m.body ≡ table_told namespace create at (Some t) → IsTableOf changes t

pub router_well : (changes : List Change) (nodes : ℕ) (r : Router) (i : Input) (f : Effect) (u : Router) → r.me < nodes → first_shard < nodes
    → AllByRecursion (λ s. s < nodes) (shards_of r) → IsReady r i → AllByRecursion (IsTableOf changes) r.tables
    → AllByRecursion (OpenWasSent changes) r.requests → AllByRecursion (OpenRuns changes) r.requests
    → ToldTables changes i → RouterRow r i f u
    → AllByRecursion (IsWell changes nodes) f.mail
router_well changes nodes _ _ _ _ own two there ready had sent runs told (router_begin r early) = tt
router_well changes nodes _ _ _ _ own two there ready had sent runs told (router_opened r begun) = tt
router_well changes nodes _ _ _ _ own two there ready had sent runs told (router_plain r link number request answer begun plan) = tt
router_well changes nodes _ _ _ _ own two there ready had sent runs told (router_more r link number request get c batch next begun plan found shows) = tt
router_well changes nodes _ _ _ _ own two there ready had sent runs told (router_no_cursor r link number request get begun plan none) = tt
router_well changes nodes _ _ _ _ own two there ready had sent runs told (router_kill r link number request kill killed missing next begun plan ends) = tt
router_well changes nodes _ _ _ _ own two there ready had sent runs told (router_take r link number request namespace work begun plan) =
    let q : Open = opened_request r link number request namespace work in
    letters_well changes nodes r own two there (begins_work r r.time q work) (begins_sends changes nodes r own two there r.time q work had
    (plan_goes r (id_of r (r.count + 1)) request.more request namespace work (command_of request) refl plan))
router_well changes nodes _ _ _ _ own two there ready had sent runs told (router_learn r m namespace create at table says) =
    all_flat (IsWell changes nodes) (λ q. letters_in (next_of r (heard r m) (adopted table r.tables) namespace (was_created create table) at q)) r.requests
    (λ q one. letters_well changes nodes r own two there (next_of r (heard r m) (adopted table r.tables) namespace (was_created create table) at q)
    (next_sends changes nodes r own two there (heard r m) (adopted table r.tables) namespace (was_created create table) at q
    (all_adopted (IsTableOf changes) table r.tables (λ t is. told m refl namespace create at t (says ∙ ap (λ o. table_told namespace create at o) is)) had)
    (all_at IsWaiting q r.requests ready.waiting one).going (all_at IsWaiting q r.requests ready.waiting one).fresh (all_at (OpenRuns changes) q r.requests runs one)))
router_well changes nodes _ _ _ _ own two there ready had sent runs told (router_split r m id q middle says found work) = tt
router_well changes nodes _ _ _ _ own two there ready had sent runs told (router_not_sharded r m id q middle says found work) = tt
router_well changes nodes _ _ _ _ own two there ready had sent runs told (router_reach r m id q named at stages telling says found work waits le) =
    letters_well changes nodes r own two there (begins_work r (heard r m) q (reached (heard r m) q.work))
    (begins_sends changes nodes r own two there (heard r m) q (reached (heard r m) q.work) had (subst (λ w. Starts (reached (heard r m) w)) (sym work) (tt, tt)))
router_well changes nodes _ _ _ _ own two there ready had sent runs told (router_hear r m id q named at stages telling says found work waits ahead others) = tt
router_well changes nodes _ _ _ _ own two there ready had sent runs told (router_ahead r m id q named at stages telling says found work waits ahead all) = tt
router_well changes nodes _ _ _ _ own two there ready had sent runs told (router_note r m id dones q kind ordered statements c next says found work news is) =
    letters_well changes nodes r own two there next
    (note_sends changes nodes r own two there m q kind ordered statements c dones next ready.stated (open_of_found r id q found).stands work
    (subst (λ w. IsFresh w) work (all_at IsWaiting q r.requests ready.waiting (open_of_found r id q found).stands).fresh) had runs is)
router_well changes nodes _ _ _ _ own two there ready had sent runs told (router_refused r m id turn first cause q next says found is) =
    letters_well changes nodes r own two there next
    (over_sends changes nodes r own two there next (gives_up r m id turn first cause q next ready says (open_of_found r id q found).stands is))
router_well changes nodes _ _ _ _ own two there ready had sent runs told (router_no_table r m namespace create at node lack says) =
    all_flat (IsWell changes nodes) (λ q. letters_in (table_refused r (heard r m) namespace create at (lack_refusal node lack) q)) r.requests
    (λ q one. letters_well changes nodes r own two there (table_refused r (heard r m) namespace create at (lack_refusal node lack) q)
    (no_table_sends changes nodes r own two there m namespace create at node lack q ready one (all_at (OpenRuns changes) q r.requests runs one)))
router_well changes nodes _ _ _ _ own two there ready had sent runs told (router_part r m id rows q named at stages telling says found work target some) = tt
router_well changes nodes _ _ _ _ own two there ready had sent runs told
    (router_read r m id rows q named at stages telling all out answer f says found work target whole got merged tells) = tt
router_well changes nodes _ _ _ _ own two there ready had sent runs told (router_excess r m id rows n q named at stages telling says found work target whole got) =
    tt
router_well changes nodes _ _ _ _ own two there ready had sent runs told (router_overflow r m id rows q named at stages telling says found work target whole got) =
    tt
router_well changes nodes _ _ _ _ own two there ready had sent runs told (router_late r m late) = tt
router_well changes nodes _ _ _ _ own two there ready had sent runs told (router_skip r m none) = tt
router_well changes nodes _ _ _ _ own two there ready had sent runs told (router_moment r moment begun) =
    all_flat (IsWell changes nodes) (λ q. letters_in (at_moment r _ moment q)) r.requests
    (λ q one. letters_well changes nodes r own two there (at_moment r _ moment q)
    (moment_sends changes nodes r own two there moment _ q ready one (all_at (OpenRuns changes) q r.requests runs one)
    (all_at (OpenWasSent changes) q r.requests sent one)))
