-- How an open request goes on, with the tables that its router knows: what is sent fits, and it stays one, or is answered rightly.
use Rattle.std.proofs.Common.{◌≡◌, ◌≢◌, inl, inr, ℕ, ◌≤◌, List, [], ◌∷◌, ◌++◌, refl, sym, subst, ◌∙◌, arith, Bool}
use Rattle.std.specs.Prelude.{Option, Some, None, Ok, true, false, length, nat_lt, if◌then◌else◌}
use Rattle.std.specs.List.{AllByRecursion}
use Rattle.history_model.proofs.Lists.{all_weaken, all_append, all_at, all_from, in_prefix, in_back}
use Rattle.history_model.specs.History.{IsIn}
use Rattle.command_model.specs.Writes.{WriteKind, WriteCommand}
use Rattle.command_model.specs.Command.{write_command, command_of}
use Rattle.pipeline_model.specs.Stages.{Stage}
use Rattle.pipeline_model.specs.Split.{split}
use Rattle.chunk_model.specs.Tables.{Table, table_of}
use Rattle.reply_model.specs.Exchanges.{Asked, Answered}
use Rattle.reply_model.specs.Accounts.{Given}
use Rattle.reply_model.specs.Outcomes.{StatementOutcome, AnyDone, dones_from, answer_of}
use Rattle.node_model.specs.Letters.{Statement, Reply}
use Rattle.node_model.specs.States.{Run, Course, Telling, Work, writing, reading, sharding, splitting, Wait, for_time, for_catalogue, for_shards, Open, Router}
use Rattle.node_model.specs.RouterRequests.{id_of, statements_from, has_index, unsent, runs_by, with_runs, asks_to_write, targets_at, asks_to_read, asks_catalogue, table_to_read, turn_after, untold, shards_of, asks_times}
use Rattle.node_model.specs.RouterNext.{reply_to, is_answered, left_of, with_work, Next, stay_in, stays, is_told, write_on, read_on, begins_work}
use Rattle.node_laws.proofs.Views.{View, reach_of, history_in}
use Rattle.node_laws.proofs.ReadFacts.{is_ahead, WaitsFor, IsDecided}
use Rattle.node_laws.proofs.Facts.{WasLacking, HasBegun, reach_in, IsNoted, IsKnownTable, IsOwned, RunFits, WorkFits, AreSeen, IsOpenOf, IsMet}
use Rattle.node_laws.proofs.Owes.{IsSaid}
use Rattle.node_laws.proofs.NextRequests.{NextIs}
use Rattle.node_laws.proofs.Outcomes.{AreOutcomes, IsFront}
use Rattle.node_laws.proofs.SentRuns.{IsRunBy, runs_are, statements_rise, AreRising, AreWithin, statements_within, one_more}
use Rattle.node_laws.proofs.KnownTables.{FoundTable, table_found}
use Rattle.node_laws.proofs.RouterAsks.{IsAsking, read_table, targets_are, runs_fit, reads_fit, catalogue_ask_fits, times_fit}
use Rattle.node_laws.proofs.RouterAnswers.{same_write}
use Rattle.node_laws.proofs.SeenStatements.{true_false}
use Rattle.node_laws.proofs.OpenFacts.{with_own, IsOpener, opens_with}

-- what is known of a write that goes on: of its outcomes, of what was sent and is not answered, and of what is sent again
pub record WriteGoes (v : View) (a : Asked) (time : ℕ) (namespace : List ℕ) (kind : WriteKind) (ordered : Bool) (statements : List Statement) (c : Course)
    (again : List Run) : Type 0 where
  pub write : WriteCommand
  pub asks : command_of a.request ≡ Ok (write_command write)
  pub is : kind ≡ write.kind
  pub name : namespace ≡ write.namespace
  pub order : ordered ≡ write.ordered
  pub all : statements ≡ statements_from write.number a.id 0 write.operations
  pub long : length c.answers ≡ length statements
  pub front : ordered ≡ true → IsFront c.answers
  pub outcomes : AreOutcomes (WasLacking v) (history_in v) time write a.id 0 c.answers
  pub runs : AllByRecursion (RunFits v time write.namespace ordered statements c.answers) c.runs
  pub again_fits : AllByRecursion (RunFits v time write.namespace ordered statements c.answers) (left_of c.answers again)
  pub one : ordered ≡ true → length c.runs ≤ 1
  pub begun : AnyDone (dones_from 0 c.answers) → HasBegun v time write.namespace
  pub again_in : AllByRecursion (λ run. IsIn run c.runs) (left_of c.answers again)

-- what a known table gives fits
run_by_table : (v : View) (time : ℕ) (namespace : List ℕ) (ordered : Bool) (statements : List Statement) (answers : List (Option StatementOutcome))
    (t : Table) (run : Run) → IsKnownTable v time t → t.namespace ≡ namespace → IsRunBy t ordered statements answers run
    → RunFits v time namespace ordered statements answers run
run_by_table v time namespace ordered statements answers t run known name by = record {
  owned = all_weaken (λ (s : Statement). has_index run.indices s.number.index ≡ true → _ ≡ Some run.shard)
      (λ (s : Statement). has_index run.indices s.number.index ≡ true → IsOwned v time namespace run.shard s) statements
      (λ s h is. record { table = t; known = known; name = name; owner = h is }) by.owned;
  next = by.next;
  within = by.within;
  version = record { table = t; known = known; name = name; same = by.versions };
}

module _ (v : View) (asked : List Asked) (answered : List Answered) (given : List Given) (r s : Router)
    (met : IsMet v given s.time) (tables : List Table) (known : AllByRecursion (IsKnownTable v s.time) tables) (Tells : Reply → Type 0) where
  -- how an open request proceeds, where it is noted how far its statements were sent; what is replied has this
  abbrev pub Goes : Next → Type 0
  Goes next = AllByRecursion (IsNoted v.reached r) (stay_in next) → NextIs (IsOpenOf v asked answered (with_own r s)) (IsSaid v asked given) Tells next

  -- WRITES

  module _ (asks_now : Bool) (again : List Run) (q : Open) (k : IsOpener v asked answered r s.time q) (kind : WriteKind) (ordered : Bool)
      (statements : List Statement) (c : Course) (g : WriteGoes v k.request s.time q.namespace kind ordered statements c again) where
    abbrev More : List Run
    More = runs_by ordered (table_of q.namespace tables) statements c

    abbrev After : Work
    After = writing kind ordered statements (with_runs c More)

    rising : AreRising statements
    rising = subst (λ l. AreRising l) (sym g.all) (statements_rise g.write.number k.request.id 0 g.write.operations)

    below : AreWithin statements
    below = subst (λ l. AreWithin l) (sym g.all) (statements_within g.write.number k.request.id g.write.operations)

    more_fit : AllByRecursion (RunFits v s.time g.write.namespace ordered statements c.answers) More
    more_fit = by_table (table_of q.namespace tables) refl
      where
        by_table : (table : Option Table) → table_of q.namespace tables ≡ table
            → AllByRecursion (RunFits v s.time g.write.namespace ordered statements c.answers) (runs_by ordered table statements c)
        by_table None h = tt
        by_table (Some t) h =
            let f : FoundTable q.namespace tables t = table_found q.namespace tables t h in
            all_weaken (IsRunBy t ordered statements c.answers) (RunFits v s.time g.write.namespace ordered statements c.answers)
            (runs_by ordered (Some t) statements c)
            (λ run by. run_by_table v s.time g.write.namespace ordered statements c.answers t run
            (all_at (IsKnownTable v s.time) t tables known f.stands) (f.name ∙ g.name) by)
            (runs_are t c.tries statements c.answers rising below ordered c.runs)

    abbrev does : is_answered ordered c.answers ≡ false → WorkFits k.request q.namespace After
    does open_yet = (
      g.write,
      g.asks,
      g.is,
      g.name,
      g.order,
      g.all,
      record {
        long = g.long;
        front = g.front;
        open_yet = open_yet;
        one = λ in_order. one_more ordered (table_of q.namespace tables) statements c.answers c.tries c.runs in_order (g.one in_order);
      },
    )

    seen : AreSeen v s.time k.request After
    seen = λ write asks.
        subst (λ (x : WriteCommand). AreOutcomes (WasLacking v) (history_in v) s.time x k.request.id 0 c.answers
        × AllByRecursion (RunFits v s.time x.namespace ordered statements c.answers) (c.runs ++ More)
        × (AnyDone (dones_from 0 c.answers) → HasBegun v s.time x.namespace))
        (same_write g.write write (command_of k.request.request) g.asks asks) (
          g.outcomes,
          all_append (RunFits v s.time g.write.namespace ordered statements c.answers) c.runs More g.runs more_fit,
          g.begun,
        )

    abbrev asking : is_answered ordered c.answers ≡ false → reach_in After ≤ reach_of (id_of r q.count) v.reached
        → IsAsking v asked (id_of r q.count) s.time q.namespace After
    asking open_yet noted =
        record { request = k.request; taken = k.taken; own = k.own; past = k.past; does = does open_yet; seen = seen; decided = λ e. tt; noted = noted }

    letters : is_answered ordered c.answers ≡ false → reach_in After ≤ reach_of (id_of r q.count) v.reached
        → AllByRecursion (IsSaid v asked given) (asks_to_write r s.time (id_of r q.count) q.namespace ordered statements (with_runs c More) (left_of c.answers again ++ More))
    letters open_yet noted =
        runs_fit v asked given r s.time met (id_of r q.count) q.namespace kind ordered statements (with_runs c More) (left_of c.answers again ++ More)
        (asking open_yet noted)
        (all_append (RunFits v s.time g.write.namespace ordered statements c.answers) (left_of c.answers again) More g.again_fits more_fit)
        (all_append (λ run. IsIn run (c.runs ++ More)) (left_of c.answers again) More
        (all_weaken (λ run. IsIn run c.runs) (λ run. IsIn run (c.runs ++ More)) (left_of c.answers again) (λ run i. in_prefix run c.runs More i) g.again_in)
        (all_from (λ run. IsIn run (c.runs ++ More)) More (λ run i. in_back run c.runs More i)))

    -- it is answered, or what can be sent is sent
    pub write_goes : (is_answered ordered c.answers ≡ true
        → Tells (reply_to r s.time q (answer_of kind s.time (dones_from 0 c.answers))))
        → Goes (write_on r s.time tables asks_now again q kind ordered statements c)
    write_goes told = by_answered (is_answered ordered c.answers) refl
      where
        opens : (wait : Wait) → wait ≢ for_time → is_answered ordered c.answers ≡ false → IsOpenOf v asked answered (with_own r s) (with_work q wait [] After)
        opens for_time other open_yet = absurd (other refl)
        opens for_catalogue other open_yet =
            opens_with v asked answered r s q for_catalogue [] After k (inr (other, refl, tt)) (does open_yet) seen refl
        opens for_shards other open_yet =
            opens_with v asked answered r s q for_shards [] After k (inr (other, refl, tt)) (does open_yet) seen refl

        by_asks : (b : Bool) → is_answered ordered c.answers ≡ false → reach_in After ≤ reach_of (id_of r q.count) v.reached → AllByRecursion (IsSaid v asked given)
            (if b then asks_catalogue r s.time q.count q.namespace After
            ∷ asks_to_write r s.time (id_of r q.count) q.namespace ordered statements (with_runs c More) (left_of c.answers again ++ More)
            else asks_to_write r s.time (id_of r q.count) q.namespace ordered statements (with_runs c More) (left_of c.answers again ++ More))
        by_asks true open_yet noted =
            (catalogue_ask_fits v asked given r s.time met q.count q.namespace After (asking open_yet noted) refl, letters open_yet noted)
        by_asks false open_yet noted = letters open_yet noted

        by_left : (left : List Statement) → is_answered ordered c.answers ≡ false → Goes (elim left as (λ (l : List Statement). Next) [
          | [] ↦ stays (with_work q for_shards [] After)
              (asks_to_write r s.time (id_of r q.count) q.namespace ordered statements (with_runs c More) (left_of c.answers again ++ More))
          | x ∷ rest ↦ stays (with_work q for_catalogue [] After) (if asks_now then asks_catalogue r s.time q.count q.namespace After
              ∷ asks_to_write r s.time (id_of r q.count) q.namespace ordered statements (with_runs c More) (left_of c.answers again ++ More)
              else asks_to_write r s.time (id_of r q.count) q.namespace ordered statements (with_runs c More) (left_of c.answers again ++ More))
        ])
        by_left [] open_yet noted = (opens for_shards (λ e. cc) open_yet, letters open_yet noted.0)
        by_left (x ∷ rest) open_yet noted = (opens for_catalogue (λ e. cc) open_yet, by_asks asks_now open_yet noted.0)

        by_answered : (b : Bool) → is_answered ordered c.answers ≡ b → Goes (
            if b then is_told (reply_to r s.time q (answer_of kind s.time (dones_from 0 c.answers)))
            else elim (unsent ordered statements (with_runs c More)) as (λ (l : List Statement). Next) [
              | [] ↦ stays (with_work q for_shards [] After)
                  (asks_to_write r s.time (id_of r q.count) q.namespace ordered statements (with_runs c More) (left_of c.answers again ++ More))
              | x ∷ rest ↦ stays (with_work q for_catalogue [] After) (if asks_now then asks_catalogue r s.time q.count q.namespace After
                  ∷ asks_to_write r s.time (id_of r q.count) q.namespace ordered statements (with_runs c More) (left_of c.answers again ++ More)
                  else asks_to_write r s.time (id_of r q.count) q.namespace ordered statements (with_runs c More) (left_of c.answers again ++ More))
            ])
        by_answered true h noted = told h
        by_answered false h noted = by_left (unsent ordered statements (with_runs c More)) h noted

  -- READS

  module _ (asks_now : Bool) (q : Open) (k : IsOpener v asked answered r s.time q) (named : Bool) (at : ℕ) (stages : List Stage) (telling : Telling)
      (does : WorkFits k.request q.namespace (reading named at stages telling)) (decided : IsDecided v (id_of r q.count) (reading named at stages telling))
      (reached : is_ahead s.time (reading named at stages telling) ≡ false) where
    asking_read : IsAsking v asked (id_of r q.count) s.time q.namespace (reading named at stages telling)
    asking_read = record { request = k.request; taken = k.taken; own = k.own; past = k.past; does = does; seen = tt; decided = λ e. decided; noted = omega arith }

    pub read_goes : Goes (read_on r s.time tables asks_now q named at stages telling)
    read_goes = by_table (table_to_read (table_of q.namespace tables) at q.tries) refl
      where
        by_asks : (b : Bool) → AllByRecursion (IsSaid v asked given)
            (if b then asks_catalogue r s.time q.count q.namespace (reading named at stages telling) ∷ [] else [])
        by_asks true = (catalogue_ask_fits v asked given r s.time met q.count q.namespace (reading named at stages telling) asking_read reached, tt)
        by_asks false = tt

        by_table : (table : Option Table) → table_to_read (table_of q.namespace tables) at q.tries ≡ table → Goes (elim table as (λ (o : Option Table). Next) [
          | None ↦ stays (with_work q for_catalogue [] (reading named at stages telling))
              (if asks_now then asks_catalogue r s.time q.count q.namespace (reading named at stages telling) ∷ [] else [])
          | Some t ↦ stays (with_work q for_shards (targets_at t at stages) (reading named at stages telling))
              (asks_to_read r s.time (id_of r q.count) q.namespace (turn_after q.tries) at (split stages).0 (targets_at t at stages))
        ])
        by_table None h noted = (
          opens_with v asked answered r s q for_catalogue [] (reading named at stages telling) k (inr ((λ e. cc), reached, decided)) does tt refl,
          by_asks asks_now,
        )
        by_table (Some t) h noted =
            let f = read_table tables q.namespace at q.tries t h in
            let own : IsKnownTable v s.time t = all_at (IsKnownTable v s.time) t tables known f.found.stands in (
              opens_with v asked answered r s q for_shards (targets_at t at stages) (reading named at stages telling) k (inr ((λ e. cc), reached, decided))
                  does tt (record { table = t; known = own; name = f.found.name; targets_are = refl; enough = f.enough }),
              reads_fit v asked given r s.time met (id_of r q.count) q.namespace (turn_after q.tries) named at stages telling (targets_at t at stages) asking_read reached
                  (targets_are v s.time q.namespace t at stages own f.found.name),
            )

  -- WHAT IS DONE BY THE CATALOGUE

  pub catalogue_goes : (q : Open) (k : IsOpener v asked answered r s.time q) (work : Work) → is_ahead s.time work ≡ false
      → IsDecided v (id_of r q.count) work
      → WorkFits k.request q.namespace work → AreSeen v s.time k.request work
      → Goes (stays (with_work q for_catalogue [] work) (asks_catalogue r s.time q.count q.namespace work ∷ []))
  catalogue_goes q k work reached decided does seen noted = (
    opens_with v asked answered r s q for_catalogue [] work k (inr ((λ e. cc), reached, decided)) does seen refl,
    (
      catalogue_ask_fits v asked given r s.time met q.count q.namespace work
          (record { request = k.request; taken = k.taken; own = k.own; past = k.past; does = does; seen = seen; decided = λ e. decided; noted = noted.0 }) reached,
      tt,
    ),
  )

  -- A READ THAT WAITS FOR ITS TIME

  pub awaits_goes : (q : Open) (k : IsOpener v asked answered r s.time q) (named : Bool) (at : ℕ) (stages : List Stage) (telling : Telling)
      → WorkFits k.request q.namespace (reading named at stages telling) → WaitsFor v k.request (id_of r q.count) (reading named at stages telling)
      → Goes (stays (with_work q for_time [] (reading named at stages telling)) (asks_times r s.time (id_of r q.count) []))
  awaits_goes q k named at stages telling does waits noted = (
    opens_with v asked answered r s q for_time [] (reading named at stages telling) k (inl (refl, waits)) does tt refl,
    times_fit v asked given r s.time met (id_of r q.count) (untold [] (shards_of r)) (record { request = k.request; taken = k.taken; own = k.own }),
  )

  -- A WRITE THAT IS NOT ANSWERED

  pub open_write_goes : (asks_now : Bool) (q : Open) (k : IsOpener v asked answered r s.time q) (kind : WriteKind) (ordered : Bool)
      (statements : List Statement) (c : Course) → WorkFits k.request q.namespace (writing kind ordered statements c)
      → AreSeen v s.time k.request (writing kind ordered statements c)
      → Goes (write_on r s.time tables asks_now [] q kind ordered statements c)
  open_write_goes asks_now q k kind ordered statements c (write, asks, is, name, order, all, course) seen =
      write_goes asks_now [] q k kind ordered statements c (record {
        write = write;
        asks = asks;
        is = is;
        name = name;
        order = order;
        all = all;
        long = course.long;
        front = course.front;
        outcomes = (seen write asks).0;
        runs = (seen write asks).1;
        again_fits = tt;
        one = course.one;
        begun = (seen write asks).2;
        again_in = tt;
      }) (λ h. absurd (true_false (sym h ∙ course.open_yet)))

-- WORK THAT BEGINS

pub begins_goes : (v : View) (asked : List Asked) (answered : List Answered) (given : List Given) (r s : Router) (met : IsMet v given s.time)
    (known : AllByRecursion (IsKnownTable v s.time) r.tables) (Tells : Reply → Type 0) (q : Open) (k : IsOpener v asked answered r s.time q) (work : Work)
    → WorkFits k.request q.namespace work → AreSeen v s.time k.request work
    → (is_ahead s.time work ≡ true → WaitsFor v k.request (id_of r q.count) work) → (is_ahead s.time work ≡ false → IsDecided v (id_of r q.count) work)
    → Goes v asked answered given r s met r.tables known Tells (begins_work r s.time q work)
begins_goes v asked answered given r s met known Tells q k (writing kind ordered statements c) does seen waits decided =
    open_write_goes v asked answered given r s met r.tables known Tells true q k kind ordered statements c does seen
begins_goes v asked answered given r s met known Tells q k (reading named at stages telling) does seen waits decided = by_time (nat_lt s.time at) refl
  where
    by_time : (b : Bool) → nat_lt s.time at ≡ b → Goes v asked answered given r s met r.tables known Tells
        (if b then stays (with_work q for_time [] (reading named at stages telling)) (asks_times r s.time (id_of r q.count) [])
        else read_on r s.time r.tables true q named at stages telling)
    by_time true h = awaits_goes v asked answered given r s met r.tables known Tells q k named at stages telling does (waits h)
    by_time false h = read_goes v asked answered given r s met r.tables known Tells true q k named at stages telling does (decided h) h
begins_goes v asked answered given r s met known Tells q k sharding does seen waits decided =
    catalogue_goes v asked answered given r s met r.tables known Tells q k sharding refl tt does seen
begins_goes v asked answered given r s met known Tells q k (splitting middle) does seen waits decided =
    catalogue_goes v asked answered given r s met r.tables known Tells q k (splitting middle) refl tt does seen
