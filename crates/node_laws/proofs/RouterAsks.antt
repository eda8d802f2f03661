-- What a router requests fits.
use Rattle.std.proofs.Common.{◌≡◌, ◌≢◌, inl, inr, ℕ, ◌+◌, ◌<◌, ◌≤◌, List, [], ◌∷◌, ◌++◌, refl, sym, ap, subst, ◌∙◌, arith, append_assoc, Bool}
use Rattle.std.specs.Prelude.{Option, Some, None, is_some, true, false, not, length, map, ◌&&◌, ◌-◌, if◌then◌else◌}
use Rattle.std.specs.List.{AllByRecursion}
use Rattle.std.proofs.lemmas.Bool.{ltb-false}
use Rattle.history_model.proofs.Lists.{all_weaken, all_from, all_filter}
use Rattle.command_model.proofs.Taken.{middle_is_key}
use Rattle.pipeline_model.specs.Stages.{Stage}
use Rattle.pipeline_model.specs.Split.{split}
use Rattle.chunk_model.specs.Tables.{Table, first_shard, table_of}
use Rattle.chunk_model.specs.Verdicts.{sent_by}
use Rattle.command_model.specs.Writes.{WriteKind, WriteCommand}
use Rattle.history_model.specs.History.{Operation, IsIn}
use Rattle.base_model.specs.Identities.{RequestId}
use Rattle.reply_model.specs.Exchanges.{Asked, Answered}
use Rattle.reply_model.specs.Accounts.{Given}
use Rattle.reply_model.specs.Outcomes.{Try, dones_from}
use Rattle.node_model.specs.Letters.{Statement, time_ask, Letter}
use Rattle.node_model.specs.States.{Target, Part, Run, Course, Telling, Work, writing, reading, sharding, splitting, Wait, for_time, for_catalogue, for_shards, Open, Router}
use Rattle.node_model.specs.RouterRequests.{id_of, statements_from, is_owned_at, turn_after, reaches, targets_at, owners_of_span, has_index, in_run, unanswered, unsent, asks_to_write, asks_to_read, asks_catalogue, table_to_read, untold, shards_of, asks_times, says}
use Rattle.node_model.specs.RouterNext.{is_answered, part_of, awaited, is_for_catalogue, asks_again}
use Rattle.node_laws.proofs.Views.{View, reach_of, history_in}
use Rattle.node_laws.proofs.TableFacts.{IsVersionOf, IsSentOut, IsSentTo}
use Rattle.node_laws.proofs.ReadFacts.{is_ahead, IsDecided, IsReadOf}
use Rattle.node_laws.proofs.Facts.{WasLacking, reach_in, IsNoted, IsKnownTable, IsOwned, IsStatementOf, IsWriteOf, RunFits, WorkFits, AreSeen, HasTime, IsOfRequest, IsOpenOf, IsMet}
use Rattle.node_laws.proofs.Owes.{IsSaid}
use Rattle.node_laws.proofs.Lists.{all_filtered, all_mapped, all_unmapped}
use Rattle.node_laws.proofs.SentParts.{run_below}
use Rattle.node_laws.proofs.Outcomes.{statements_long, open_ends, goes_dones, front_answers, front_left}
use Rattle.node_laws.proofs.SentRuns.{passing_all}
use Rattle.node_laws.proofs.Growth.{seen_grows}
use Rattle.node_laws.proofs.Journals.{later_self}
use Rattle.node_laws.proofs.ReadTimes.{reads_of}
use Rattle.node_laws.proofs.KnownTables.{FoundTable, table_found, known_targets, one_target}

-- the request with this number, taken by this time, has this work to do
pub record IsAsking (v : View) (asked : List Asked) (id : RequestId) (time : ℕ) (namespace : List ℕ) (work : Work) : Type 0 where
  pub request : Asked
  pub taken : IsIn request asked
  pub own : request.id ≡ id
  pub past : request.time ≤ time
  pub does : WorkFits request namespace work
  pub seen : AreSeen v time request work
  pub decided : is_ahead time work ≡ false → IsDecided v id work
  pub noted : reach_in work ≤ reach_of id v.reached

pub open_asks : (v : View) (asked : List Asked) (answered : List Answered) (r : Router) (time : ℕ) (q : Open) → r.time ≤ time → IsOpenOf v asked answered r q
    → (is_ahead time q.work ≡ false → IsDecided v (id_of r q.count) q.work) → IsNoted v.reached r q
    → IsAsking v asked (id_of r q.count) time q.namespace q.work
open_asks v asked answered r time q later o decided noted = record {
  request = o.request;
  taken = o.taken;
  own = o.own;
  past =
      (let p = o.past in omega arith);
  does = o.work;
  seen = seen_grows v v r.time time o.request q.work (later_self v) later o.seen;
  decided = decided;
  noted = noted;
}

-- STATEMENTS OF A WRITE

-- each is one of its own
each_statement : (write : WriteCommand) (id : RequestId) (before operations : List Operation) → write.operations ≡ before ++ operations
    → AllByRecursion (IsStatementOf write id) (statements_from write.number id (length before) operations)
each_statement write id before [] same = tt
each_statement write id before (operation ∷ operations) same = (
  record { before = before; operation = operation; back = operations; all = same; numbered = refl; does = refl },
  subst (λ n. AllByRecursion (IsStatementOf write id) (statements_from write.number id n operations)) (pushed before)
      (each_statement write id (before ++ operation ∷ []) operations (same ∙ sym (append_assoc before (operation ∷ []) operations))),
)
  where
    pushed : (xs : List Operation) → length (xs ++ operation ∷ []) ≡ length xs + 1
    pushed [] = refl
    pushed (y ∷ xs) = let n = pushed xs in omega (arith, n)

-- the targets that are awaited are among all
awaited_among : (P : Target → Type 0) (targets : List Target) (parts : List Part) → AllByRecursion P targets → AllByRecursion P (awaited targets parts)
awaited_among P targets parts all =
    all_weaken (λ (t : Target). P t × (not (is_some (part_of t.shard parts)) ≡ true)) P (awaited targets parts) (λ t f. f.0)
    (all_filtered P (λ (t : Target). not (is_some (part_of t.shard parts))) targets all)

-- a target is the first shard, with the versions of a table that the catalogue had
abbrev pub IsTarget : View → (time : ℕ) → (namespace : List ℕ) → Target → Type 0
IsTarget v time namespace t = (t.shard ≡ first_shard) × IsVersionOf v time namespace t.shard t.sent

pub targets_are : (v : View) (time : ℕ) (namespace : List ℕ) (t : Table) (at : ℕ) (stages : List Stage) → IsKnownTable v time t → t.namespace ≡ namespace
    → AllByRecursion (IsTarget v time namespace) (targets_at t at stages)
targets_are v time namespace t at stages known name =
    all_mapped (IsTarget v time namespace) (λ shard. record { shard = shard; sent = sent_by t shard }) (owners_of_span t at (split stages).0.span)
    (all_weaken (λ shard. shard ≡ first_shard) (λ shard. IsTarget v time namespace (record { shard = shard; sent = sent_by t shard }))
    (owners_of_span t at (split stages).0.span) (λ shard first. (first, record { table = t; known = known; name = name; same = refl }))
    (all_unmapped (λ (x : Target). x.shard ≡ first_shard) (λ shard. record { shard = shard; sent = sent_by t shard }) (owners_of_span t at (split stages).0.span)
    (known_targets v time t at stages known)))

-- the table that a read is sent with
pub record ReadTable (tables : List Table) (namespace : List ℕ) (at : ℕ) (t : Table) : Type 0 where
  pub found : FoundTable namespace tables t
  pub enough : is_owned_at t at ≡ true

pub read_table : (tables : List Table) (namespace : List ℕ) (at : ℕ) (tries : List Try) (t : Table) → table_to_read (table_of namespace tables) at tries ≡ Some t
    → ReadTable tables namespace at t
read_table tables namespace at tries t got = by_table (table_of namespace tables) refl got
  where
    by_owned : (u : Table) (a b : Bool) → table_of namespace tables ≡ Some u → is_owned_at u at ≡ b → (if a && b then Some u else None) ≡ Some t
        → ReadTable tables namespace at t
    by_owned u true true h owned got =
        let same : u ≡ t = cc in
        subst (λ x. ReadTable tables namespace at x) same (record { found = table_found namespace tables u h; enough = owned })
    by_owned u true false h owned got = absurd (cc)
    by_owned u false b h owned got = absurd (cc)

    by_table : (table : Option Table) → table_of namespace tables ≡ table → table_to_read table at tries ≡ Some t → ReadTable tables namespace at t
    by_table None h got = absurd (cc)
    by_table (Some u) h got = by_owned u (reaches u tries) (is_owned_at u at) h refl got

module _ (v : View) (asked : List Asked) (given : List Given) (r : Router) (time : ℕ) (met : IsMet v given time) where
  -- WHAT IS REQUESTED OF SHARDS

  run_fits : (id : RequestId) (namespace : List ℕ) (kind : WriteKind) (ordered : Bool) (statements : List Statement) (c : Course) (run : Run)
      → (a : IsAsking v asked id time namespace (writing kind ordered statements c))
      → RunFits v time a.does.0.namespace ordered statements c.answers run → IsIn run c.runs
      → IsWriteOf v asked run.shard time id ordered namespace (in_run run statements)
  run_fits id namespace kind ordered statements c run a f there = fits a.does f
    where
      fits : (work : WorkFits a.request namespace (writing kind ordered statements c)) → RunFits v time work.0.namespace ordered statements c.answers run
          → IsWriteOf v asked run.shard time id ordered namespace (in_run run statements)
      fits (write, asks, is, name, order, all, course) f =
          subst (λ i. IsWriteOf v asked run.shard time i ordered namespace (in_run run statements)) a.own (record {
            request = a.request;
            write = write;
            taken = a.taken;
            own = refl;
            asks = asks;
            order = order;
            name = name;
            each = all_filter (IsStatementOf write a.request.id) (λ (s : Statement). has_index run.indices s.number.index) statements
                (subst (λ l. AllByRecursion (IsStatementOf write a.request.id) l) (sym all) (each_statement write a.request.id [] write.operations refl));
            next = λ in_order. record {
              front = dones_from 0 c.answers;
              back = (f.next in_order).0;
              answered = front_answers (WasLacking v) (history_in v) time write a.request.id 0 c.answers (course.front in_order)
                  (open_ends c.answers (course.front in_order) (subst (λ b. is_answered b c.answers ≡ false) in_order course.open_yet)) (a.seen write asks).0;
              goes_on = goes_dones 0 c.answers
                  (open_ends c.answers (course.front in_order) (subst (λ b. is_answered b c.answers ≡ false) in_order course.open_yet));
              next = sym (front_left write.number a.request.id c.answers write.operations
                  (course.long ∙ ap (λ (l : List Statement). length l) all ∙ statements_long write.number a.request.id 0 write.operations)
                  (course.front in_order))
                  ∙ ap (λ l. unanswered l c.answers) (sym all) ∙ (f.next in_order).1;
            };
            owned = passing_all (IsOwned v time namespace run.shard) (λ (s : Statement). has_index run.indices s.number.index) statements
                (subst (λ n. AllByRecursion (λ (s : Statement). has_index run.indices s.number.index ≡ true → IsOwned v time n run.shard s) statements)
                (sym name) f.owned);
            fresh = a.past;
            below = λ in_order. all_weaken
                (λ (s : Statement). s.number.index < length statements - length (unsent false statements c))
                (λ (s : Statement). s.number.index < reach_of a.request.id v.reached) (in_run run statements)
                (λ s less. let noted = subst (λ b. (if b then length statements - length (unsent false statements c) else 0) ≤ reach_of a.request.id v.reached) in_order
                (subst (λ i. reach_in (writing kind ordered statements c) ≤ reach_of i v.reached) (sym a.own) a.noted) in omega (arith, less, noted))
                (run_below write.number a.request.id write.operations statements c run all course.long (course.front in_order) (f.next in_order) there);
          })

  pub runs_fit : (id : RequestId) (namespace : List ℕ) (kind : WriteKind) (ordered : Bool) (statements : List Statement) (c : Course) (runs : List Run)
      → (a : IsAsking v asked id time namespace (writing kind ordered statements c))
      → AllByRecursion (RunFits v time a.does.0.namespace ordered statements c.answers) runs → AllByRecursion (λ run. IsIn run c.runs) runs
      → AllByRecursion (IsSaid v asked given) (asks_to_write r time id namespace ordered statements c runs)
  runs_fit id namespace kind ordered statements c [] a all there = tt
  runs_fit id namespace kind ordered statements c (run ∷ runs) a all there = (
    ((run_fits id namespace kind ordered statements c run a all.0 there.0, version_is a.does all.0), met, tt),
    runs_fit id namespace kind ordered statements c runs a all.1 there.1,
  )
    where
      version_is : (work : WorkFits a.request namespace (writing kind ordered statements c)) → RunFits v time work.0.namespace ordered statements c.answers run
          → IsVersionOf v time namespace run.shard run.sent
      version_is (write, asks, is, name, order, all, course) f = subst (λ n. IsVersionOf v time n run.shard run.sent) (sym name) f.version

  pub reads_fit : (id : RequestId) (namespace : List ℕ) (turn : ℕ) (named : Bool) (at : ℕ) (stages : List Stage) (telling : Telling) (targets : List Target)
      → IsAsking v asked id time namespace (reading named at stages telling) → is_ahead time (reading named at stages telling) ≡ false
      → AllByRecursion (IsTarget v time namespace) targets
      → AllByRecursion (IsSaid v asked given) (asks_to_read r time id namespace turn at (split stages).0 targets)
  reads_fit id namespace turn named at stages telling targets a reached all = each_target targets all
    where
      work : WorkFits a.request namespace (reading named at stages telling)
      work = a.does

      read : IsReadOf v asked id namespace at (split stages).0
      read = record {
        request = a.request;
        read = work.read;
        taken = a.taken;
        own = a.own;
        reads = reads_of a.request work.read telling work.tells;
        name = work.name;
        shows = ap (λ (l : List Stage). (split l).0) work.words;
        decided = a.decided reached;
      }

      each_target : (rest : List Target) → AllByRecursion (IsTarget v time namespace) rest
          → AllByRecursion (IsSaid v asked given) (asks_to_read r time id namespace turn at (split stages).0 rest)
      each_target [] all = tt
      each_target (t ∷ rest) all = (((read, ltb-false time at reached, all.0.0, all.0.1), met, tt), each_target rest all.1)

  -- WHAT IS REQUESTED OF THE CATALOGUE

  pub catalogue_ask_fits : (count : ℕ) (namespace : List ℕ) (work : Work) → IsAsking v asked (id_of r count) time namespace work
      → is_ahead time work ≡ false
      → IsSaid v asked given (asks_catalogue r time count namespace work)
  catalogue_ask_fits count namespace (writing kind ordered statements c) a reached =
      let work = a.does in (
        (tt, record { request = a.request; taken = a.taken; asks = inl (record { write = work.0; asks = work.1; name = sym work.3 }); past = a.past }),
        met,
        tt,
      )
  catalogue_ask_fits count namespace (reading named at stages telling) a reached = (ltb-false time at reached, met, tt)
  catalogue_ask_fits count namespace sharding a reached =
      ((tt, record { request = a.request; taken = a.taken; asks = inr a.does; past = a.past }), met, tt)
  catalogue_ask_fits count namespace (splitting middle) a reached = (
    record {
      request = a.request;
      taken = a.taken;
      own = a.own;
      asks = a.does;
      key = middle_is_key a.request.request (record { namespace = namespace; middle = middle }) a.does;
      past = a.past;
    },
    met,
    tt,
  )

  pub times_fit : (id : RequestId) (shards : List ℕ) → IsOfRequest asked id
      → AllByRecursion (IsSaid v asked given) (map (λ s. says r s time (time_ask id)) shards)
  times_fit id [] of = tt
  times_fit id (s ∷ shards) of = ((of, met, tt), times_fit id shards of)

  -- AT A MOMENT

  -- a request that waits for no time has reached it
  pub again_fits : (q : Open) (request : Asked) → IsIn request asked → request.id ≡ id_of r q.count → request.time ≤ time
      → WorkFits request q.namespace q.work → AreSeen v time request q.work
      → HasTime v request (id_of r q.count) time q.wait q.work
      → IsSentTo v time q.namespace q.wait q.work q.targets → IsNoted v.reached r q
      → AllByRecursion (IsSaid v asked given) (asks_again r time q)
  again_fits q request taken own past does seen reached sent noted = by_work q.work refl does seen
    where
      asking : (work : Work) → q.work ≡ work → IsDecided v (id_of r q.count) work → IsAsking v asked (id_of r q.count) time q.namespace work
      asking work same d = record {
        request = request;
        taken = taken;
        own = own;
        past = past;
        does = subst (λ x. WorkFits request q.namespace x) same does;
        seen = subst (λ x. AreSeen v time request x) same seen;
        decided = λ e. d;
        noted = subst (λ x. reach_in x ≤ reach_of (id_of r q.count) v.reached) same noted;
      }

      not_time : (wait : Wait) (work : Work) → q.wait ≡ wait → q.work ≡ work → wait ≢ for_time
          → (is_ahead time work ≡ false) × IsDecided v (id_of r q.count) work
      not_time wait work h same other = by_case reached
        where
          by_case : HasTime v request (id_of r q.count) time q.wait q.work → (is_ahead time work ≡ false) × IsDecided v (id_of r q.count) work
          by_case (inl (e, f)) = absurd (other (sym h ∙ e))
          by_case (inr (w, e, d)) = (subst (λ x. is_ahead time x ≡ false) same e, subst (λ x. IsDecided v (id_of r q.count) x) same d)

      of : IsOfRequest asked (id_of r q.count)
      of = record { request = request; taken = taken; own = own }

      catalogue : (work : Work) → q.work ≡ work → is_ahead time work ≡ false → IsDecided v (id_of r q.count) work
          → IsSaid v asked given (asks_catalogue r time q.count q.namespace q.work)
      catalogue work same ahead d =
          subst (λ x. IsSaid v asked given (asks_catalogue r time q.count q.namespace x)) (sym same)
          (catalogue_ask_fits q.count q.namespace work (asking work same d) ahead)

      of_write : (kind : WriteKind) (ordered : Bool) (statements : List Statement) (c : Course) → q.work ≡ writing kind ordered statements c → (b : Bool)
          → AllByRecursion (IsSaid v asked given) (if b then asks_catalogue r time q.count q.namespace q.work
          ∷ asks_to_write r time (id_of r q.count) q.namespace ordered statements c c.runs
          else asks_to_write r time (id_of r q.count) q.namespace ordered statements c c.runs)
      of_write kind ordered statements c is b = by_wait b
        where
          a : IsAsking v asked (id_of r q.count) time q.namespace (writing kind ordered statements c)
          a = asking (writing kind ordered statements c) is tt

          runs : AllByRecursion (IsSaid v asked given) (asks_to_write r time (id_of r q.count) q.namespace ordered statements c c.runs)
          runs = runs_fit (id_of r q.count) q.namespace kind ordered statements c c.runs a (a.seen a.does.0 a.does.1).1 (all_from (λ run. IsIn run c.runs) c.runs (λ run i. i))

          by_wait : (b : Bool) → AllByRecursion (IsSaid v asked given) (if b then asks_catalogue r time q.count q.namespace q.work
              ∷ asks_to_write r time (id_of r q.count) q.namespace ordered statements c c.runs
              else asks_to_write r time (id_of r q.count) q.namespace ordered statements c c.runs)
          by_wait true = (catalogue (writing kind ordered statements c) is refl tt, runs)
          by_wait false = runs

      of_read : (named : Bool) (at : ℕ) (stages : List Stage) (telling : Telling) → q.work ≡ reading named at stages telling → (wait : Wait) → q.wait ≡ wait
          → AllByRecursion (IsSaid v asked given) (elim wait as (λ (w : Wait). List Letter) [
            | for_time ↦ asks_times r time (id_of r q.count) q.told
            | for_catalogue ↦ asks_catalogue r time q.count q.namespace q.work ∷ []
            | for_shards ↦ asks_to_read r time (id_of r q.count) q.namespace (turn_after q.tries) at (split stages).0 (awaited q.targets q.parts)
          ])
      of_read named at stages telling is for_time h = times_fit (id_of r q.count) (untold q.told (shards_of r)) of
      of_read named at stages telling is for_catalogue h =
          let n = not_time for_catalogue (reading named at stages telling) h is (λ e. cc) in
          (catalogue (reading named at stages telling) is n.0 n.1, tt)
      of_read named at stages telling is for_shards h =
          let n = not_time for_shards (reading named at stages telling) h is (λ e. cc) in
          let out : IsSentOut v time q.namespace (reading named at stages telling) q.targets =
          subst (λ x. IsSentOut v time q.namespace x q.targets) is (subst (λ x. IsSentTo v time q.namespace x q.work q.targets) h sent) in
          reads_fit (id_of r q.count) q.namespace (turn_after q.tries) named at stages telling (awaited q.targets q.parts)
          (asking (reading named at stages telling) is n.1) n.0
          (awaited_among (IsTarget v time q.namespace) q.targets q.parts
          (subst (λ l. AllByRecursion (IsTarget v time q.namespace) l) (sym (one_target v time q.namespace at stages q.targets out))
          ((refl, record { table = out.table; known = out.known; name = out.name; same = refl }), tt)))

      by_work : (work : Work) → q.work ≡ work → WorkFits request q.namespace q.work → AreSeen v time request q.work
          → AllByRecursion (IsSaid v asked given) (elim work as (λ (x : Work). List Letter) [
            | writing kind ordered statements c ↦
                if is_for_catalogue q.wait then asks_catalogue r time q.count q.namespace q.work
                ∷ asks_to_write r time (id_of r q.count) q.namespace ordered statements c c.runs
                else asks_to_write r time (id_of r q.count) q.namespace ordered statements c c.runs
            | reading named at stages telling ↦ elim q.wait [
              | for_time ↦ asks_times r time (id_of r q.count) q.told
              | for_catalogue ↦ asks_catalogue r time q.count q.namespace q.work ∷ []
              | for_shards ↦ asks_to_read r time (id_of r q.count) q.namespace (turn_after q.tries) at (split stages).0 (awaited q.targets q.parts)
            ]
            | sharding ↦ asks_catalogue r time q.count q.namespace q.work ∷ []
            | splitting middle ↦ asks_catalogue r time q.count q.namespace q.work ∷ []
          ])
      by_work (writing kind ordered statements c) is f s = of_write kind ordered statements c is (is_for_catalogue q.wait)
      by_work (reading named at stages telling) is f s = of_read named at stages telling is q.wait refl
      by_work sharding is f s = (catalogue sharding is refl tt, tt)
      by_work (splitting middle) is f s = (catalogue (splitting middle) is refl tt, tt)
