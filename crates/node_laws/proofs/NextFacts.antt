-- What becomes of an open request after a table arrives fits.
use Rattle.std.proofs.Common.{◌≡◌, inl, inr, ℕ, ◌+◌, ◌<◌, ◌≤◌, List, [], ◌∷◌, ◌++◌, refl, sym, subst, ◌∙◌, arith, Bool}
use Rattle.std.specs.Prelude.{pos, Option, Some, None, is_some, Ok, true, false, not, nat_lt, ◌&&◌, if◌then◌else◌}
use Rattle.std.specs.List.{AllByRecursion}
use Rattle.std.specs.Str.{bytes_eq}
use Rattle.std.proofs.lemmas.Bool.{ltb-false}
use Rattle.std.proofs.lemmas.Slice.Eq.{bytes_eq-Decides}
use Rattle.history_model.proofs.Lists.{all_at}
use Rattle.reply_model.specs.Cursors.{Cursor}
use Rattle.pipeline_model.specs.Stages.{Stage}
use Rattle.chunk_model.specs.Tables.{Table, table_of, with_table}
use Rattle.command_model.specs.Answers.{sharded_answer}
use Rattle.command_model.specs.Command.{shard_collection_command, command_of}
use Rattle.reply_model.specs.Right.{WasCreated, right_shard}
use Rattle.reply_model.specs.Exchanges.{Asked, Answered}
use Rattle.reply_model.specs.Accounts.{Given}
use Rattle.pipeline_model.specs.Split.{split}
use Rattle.command_model.specs.Writes.{WriteKind}
use Rattle.reply_model.specs.Outcomes.{dones_from, answer_of}
use Rattle.node_model.specs.Letters.{At, Statement, Reply}
use Rattle.node_model.specs.States.{Run, Course, Telling, in_batches, as_number, Work, writing, reading, sharding, splitting, Wait, for_time, for_catalogue, for_shards, Open, Router}
use Rattle.node_model.specs.RouterRequests.{id_of, unsent, runs_by, with_runs, asks_to_write, targets_at, asks_to_read, asks_catalogue, table_to_read, turn_after, asks_times}
use Rattle.node_model.specs.RouterNext.{reply_to, is_answered, left_of, with_work, empty_answer, is_for, is_for_catalogue, adopted, was_created, Next, stays, is_told, write_on, read_on, begins_work, next_of}
use Rattle.node_laws.proofs.Views.{View, changes_in}
use Rattle.node_laws.proofs.ReadFacts.{is_ahead, NoneBegan, IsDecided}
use Rattle.node_laws.proofs.Facts.{IsKnownTable, TableFits, WorkFits, AreSeen, HasTime, IsOpenOf, ToldBelow, IsMet, AnswerFits, NeighboursFit}
use Rattle.node_laws.proofs.Growth.{seen_grows}
use Rattle.node_laws.proofs.Journals.{later_self}
use Rattle.node_laws.proofs.KnownTables.{FoundTable, table_found, table_there, table_created}
use Rattle.node_laws.proofs.Goings.{Goes, open_write_goes, read_goes}
use Rattle.node_laws.proofs.AnswerTimes.{ShowsBelow, first_below, count_below, sharded_below}
use Rattle.node_laws.proofs.EmptyReads.{told_nothing}
use Rattle.node_laws.proofs.RouterAnswers.{as_answered, answer_fits}
use Rattle.node_laws.proofs.ReadAnswers.{empty_right}
use Rattle.node_laws.proofs.OpenFacts.{with_own, ahead_later, IsOpener, opener_of, open_rises}

-- WORK THAT BEGINS

-- it stays open
abbrev pub IsStay : Next → Type 0
IsStay (stays q letters) = Unit {0}
IsStay (is_told reply) = ⊥

-- work that begins does
pub begins_stay : (r : Router) (time : ℕ) (q : Open) (a : Asked) (namespace : List ℕ) (work : Work) → WorkFits a namespace work
    → IsStay (begins_work r time q work)
begins_stay r time q a namespace (writing kind ordered statements c) (write, asks, is, name, order, all, course) =
    by_answered (is_answered ordered c.answers) course.open_yet
  where
    More : List Run
    More = runs_by ordered (table_of q.namespace r.tables) statements c

    After : Work
    After = writing kind ordered statements (with_runs c More)

    by_left : (left : List Statement) → IsStay (elim left as (λ (l : List Statement). Next) [
      | [] ↦ stays (with_work q for_shards [] After)
          (asks_to_write r time (id_of r q.count) q.namespace ordered statements (with_runs c More) (left_of c.answers [] ++ More))
      | x ∷ rest ↦ stays (with_work q for_catalogue [] After) (asks_catalogue r time q.count q.namespace After
          ∷ asks_to_write r time (id_of r q.count) q.namespace ordered statements (with_runs c More) (left_of c.answers [] ++ More))
    ])
    by_left [] = tt
    by_left (x ∷ rest) = tt

    by_answered : (b : Bool) → b ≡ false → IsStay (
        if b then is_told (reply_to r time q (answer_of kind time (dones_from 0 c.answers)))
        else elim (unsent ordered statements (with_runs c More)) as (λ (l : List Statement). Next) [
          | [] ↦ stays (with_work q for_shards [] After)
              (asks_to_write r time (id_of r q.count) q.namespace ordered statements (with_runs c More) (left_of c.answers [] ++ More))
          | x ∷ rest ↦ stays (with_work q for_catalogue [] After) (asks_catalogue r time q.count q.namespace After
              ∷ asks_to_write r time (id_of r q.count) q.namespace ordered statements (with_runs c More) (left_of c.answers [] ++ More))
        ])
    by_answered true h = absurd (cc)
    by_answered false h = by_left (unsent ordered statements (with_runs c More))
begins_stay r time q a namespace (reading named at stages telling) does = by_time (nat_lt time at)
  where
    by_table : (table : Option Table) → IsStay (elim table as (λ (o : Option Table). Next) [
      | None ↦ stays (with_work q for_catalogue [] (reading named at stages telling))
          (asks_catalogue r time q.count q.namespace (reading named at stages telling) ∷ [])
      | Some t ↦ stays (with_work q for_shards (targets_at t at stages) (reading named at stages telling))
          (asks_to_read r time (id_of r q.count) q.namespace (turn_after q.tries) at (split stages).0 (targets_at t at stages))
    ])
    by_table None = tt
    by_table (Some t) = tt

    by_time : (b : Bool) → IsStay (if b then stays (with_work q for_time [] (reading named at stages telling)) (asks_times r time (id_of r q.count) [])
        else read_on r time r.tables true q named at stages telling)
    by_time true = tt
    by_time false = by_table (table_to_read (table_of q.namespace r.tables) at q.tries)
begins_stay r time q a namespace sharding does = tt
begins_stay r time q a namespace (splitting middle) does = tt

-- WHAT IT GOES ON WITH

-- a reply fits, leaves the cursors, shows no later time, and is returned at this one
abbrev pub IsToldRightly : View → List Asked → (said : List Answered) → List Cursor → (time now : ℕ) → Reply → Type 0
IsToldRightly v asked said cursors time now x = AnswerFits v asked said cursors (as_answered now x) cursors × ToldBelow time (as_answered now x)
    × (x.time ≡ time)

empty_below : (bound : ℕ) (q : Open) (at : ℕ) (telling : Telling) → at ≤ bound → ShowsBelow bound (empty_answer q at telling)
empty_below bound q at (in_batches size single) past = first_below bound (record { cursor = pos 0; namespace = q.namespace; documents = []; time = at }) past
empty_below bound q at as_number past = count_below bound 0 at past

module _ (v : View) (asked : List Asked) (answered said : List Answered) (cursors : List Cursor) (given : List Given) (r s : Router) (now told_at : ℕ)
    (namespace : List ℕ) (create : Bool) (told : At)
    (table : Option Table)
    (tables : List Table) (n : NeighboursFit v asked) (met : IsMet v given s.time) (later : r.time ≤ s.time) (fits : TableFits v told_at namespace told table)
    (known : AllByRecursion (IsKnownTable v s.time) (adopted table tables)) where
  abbrev GoesOn : Next → Type 0
  GoesOn next = Goes v asked answered given r s met (adopted table tables) known (IsToldRightly v asked said cursors s.time now) next

  told_empty : (q : Open) (named : Bool) (at : ℕ) (stages : List Stage) (telling : Telling) (o : IsOpenOf v asked answered r q) → o.request.came < now + 1
      → WorkFits o.request q.namespace (reading named at stages telling) → at ≤ s.time
      → NoneBegan v q.namespace at → IsToldRightly v asked said cursors s.time now (reply_to r s.time q (empty_answer q at telling))
  told_empty q named at stages telling o came work reached none = (
    answer_fits v asked answered said r s.time now q (empty_answer q at telling) cursors cursors o later came
        (empty_right v asked said cursors o.request (as_answered now (reply_to r s.time q (empty_answer q at telling))) q named at stages telling n none work
        reached refl),
    empty_below s.time q at telling reached,
    refl,
  )

  told_sharded : (q : Open) (o : IsOpenOf v asked answered r q) → o.request.came < now + 1
      → command_of o.request.request ≡ Ok (shard_collection_command q.namespace) → q.namespace ≡ namespace → (t : Table) → table ≡ Some t
      → IsToldRightly v asked said cursors s.time now (reply_to r s.time q (sharded_answer q.namespace s.time))
  told_sharded q o came asks name t is = (
    answer_fits v asked answered said r s.time now q (sharded_answer q.namespace s.time) cursors cursors o later came
        (record { right = right_shard q.namespace asks created refl; settled = tt }),
    sharded_below s.time q.namespace s.time (omega arith),
    refl,
  )
    where
      created : WasCreated (changes_in v) q.namespace s.time
      created =
          let f : TableFits v told_at namespace told (Some t) = subst (λ x. TableFits v told_at namespace told x) is fits in
          let there = table_there namespace t tables f.1 in
          let found : FoundTable namespace (with_table t tables) there.0 = table_found namespace (with_table t tables) there.0 there.1 in
          let all : AllByRecursion (IsKnownTable v s.time) (with_table t tables) = subst
          (λ x. AllByRecursion (IsKnownTable v s.time) (adopted x tables)) is known in
          let c = table_created v s.time there.0 (all_at (IsKnownTable v s.time) there.0 (with_table t tables) all found.stands) in
          record { creation = c.creation; begun = c.begun; name = c.name ∙ found.name ∙ sym name; before = c.before }

  -- what waits for the catalogue waits for no time
  no_time_waits : (wait : Wait) → is_for_catalogue wait ≡ true → wait ≡ for_time → ⊥
  no_time_waits for_time is e = cc
  no_time_waits for_catalogue is e = cc
  no_time_waits for_shards is e = cc

  waits_on : (q : Open) (o : IsOpenOf v asked answered r q) → o.request.came < now + 1 → is_for_catalogue q.wait ≡ true → q.namespace ≡ namespace
      → GoesOn (elim q.work as (λ (x : Work). Next) [
        | writing kind ordered statements c ↦ write_on r s.time (adopted table tables) false [] q kind ordered statements c
        | reading named at stages telling ↦
            if is_for told at && not (is_some (table_to_read (table_of q.namespace (adopted table tables)) at []))
            then is_told (reply_to r s.time q (empty_answer q at telling)) else read_on r s.time (adopted table tables) false q named at stages telling
        | sharding ↦ if was_created create table then is_told (reply_to r s.time q (sharded_answer q.namespace s.time)) else stays q []
        | splitting middle ↦ stays q []
      ])
  waits_on q o came waits name = by_work q.work refl (by_reached o.reached)
    where
      k : IsOpener v asked answered r s.time q
      k = opener_of v asked answered r s.time q later o

      same : IsOpenOf v asked answered (with_own r s) q
      same = open_rises v asked answered r s q later o

      by_reached : HasTime v o.request (id_of r q.count) r.time q.wait q.work → (is_ahead s.time q.work ≡ false) × IsDecided v (id_of r q.count) q.work
      by_reached (inl (e, f)) = absurd (no_time_waits q.wait waits e)
      by_reached (inr (w, e, f)) = (ahead_later r.time s.time q.work later e, f)

      here : TableFits v told_at q.namespace told table
      here = subst (λ l. TableFits v told_at l told table) (sym name) fits

      of_write : (kind : WriteKind) (ordered : Bool) (statements : List Statement) (c : Course) → WorkFits o.request q.namespace (writing kind ordered statements c)
          → AreSeen v s.time o.request (writing kind ordered statements c)
          → GoesOn (write_on r s.time (adopted table tables) false [] q kind ordered statements c)
      of_write kind ordered statements c does seen =
          open_write_goes v asked answered given r s met (adopted table tables) known (IsToldRightly v asked said cursors s.time now) false q k kind ordered
          statements c does seen

      of_read : (named : Bool) (at : ℕ) (stages : List Stage) (telling : Telling) → WorkFits o.request q.namespace (reading named at stages telling)
          → is_ahead s.time (reading named at stages telling) ≡ false → IsDecided v (id_of r q.count) (reading named at stages telling)
          → (a b : Bool) → is_for told at ≡ a → is_some (table_to_read (table_of q.namespace (adopted table tables)) at []) ≡ b
          → GoesOn (if a && not b then is_told (reply_to r s.time q (empty_answer q at telling))
          else read_on r s.time (adopted table tables) false q named at stages telling)
      of_read named at stages telling does reached decided true false h none = λ noted.
          told_empty q named at stages telling o came does (ltb-false s.time at reached)
          (told_nothing v asked told_at s.time q.namespace told table tables at n here known h (no_table (table_to_read (table_of q.namespace (adopted table tables)) at []) none))
        where
          no_table : (x : Option Table) → is_some x ≡ false → x ≡ None
          no_table None e = refl
          no_table (Some t) e = absurd (cc)
      of_read named at stages telling does reached decided true true h some =
          read_goes v asked answered given r s met (adopted table tables) known (IsToldRightly v asked said cursors s.time now) false q k named at stages telling
          does decided reached
      of_read named at stages telling does reached decided false b h some =
          read_goes v asked answered given r s met (adopted table tables) known (IsToldRightly v asked said cursors s.time now) false q k named at stages telling
          does decided reached

      by_made : (made : Option Table) → table ≡ made → command_of o.request.request ≡ Ok (shard_collection_command q.namespace)
          → GoesOn (if was_created create made then is_told (reply_to r s.time q (sharded_answer q.namespace s.time)) else stays q [])
      by_made None is asks = λ noted. (same, tt)
      by_made (Some t) is asks = by_create create
        where
          by_create : (b : Bool) → GoesOn (if b then is_told (reply_to r s.time q (sharded_answer q.namespace s.time)) else stays q [])
          by_create true = λ noted. told_sharded q o came asks name t is
          by_create false = λ noted. (same, tt)

      by_work : (work : Work) → q.work ≡ work → (is_ahead s.time q.work ≡ false) × IsDecided v (id_of r q.count) q.work
          → GoesOn (elim work as (λ (x : Work). Next) [
            | writing kind ordered statements c ↦ write_on r s.time (adopted table tables) false [] q kind ordered statements c
            | reading named at stages telling ↦
                if is_for told at && not (is_some (table_to_read (table_of q.namespace (adopted table tables)) at []))
                then is_told (reply_to r s.time q (empty_answer q at telling)) else read_on r s.time (adopted table tables) false q named at stages telling
            | sharding ↦ if was_created create table then is_told (reply_to r s.time q (sharded_answer q.namespace s.time)) else stays q []
            | splitting middle ↦ stays q []
          ])
      by_work (writing kind ordered statements c) is reached =
          of_write kind ordered statements c (subst (λ x. WorkFits o.request q.namespace x) is o.work)
          (subst (λ x. AreSeen v s.time o.request x) is (seen_grows v v r.time s.time o.request q.work (later_self v) later o.seen))
      by_work (reading named at stages telling) is reached =
          of_read named at stages telling (subst (λ x. WorkFits o.request q.namespace x) is o.work) (subst (λ x. is_ahead s.time x ≡ false) is reached.0)
          (subst (λ x. IsDecided v (id_of r q.count) x) is reached.1) (is_for told at)
          (is_some (table_to_read (table_of q.namespace (adopted table tables)) at [])) refl refl
      by_work sharding is reached = by_made table refl (subst (λ x. WorkFits o.request q.namespace x) is o.work)
      by_work (splitting middle) is reached = λ noted. (same, tt)

  pub next_fits : (q : Open) (o : IsOpenOf v asked answered r q) → o.request.came < now + 1
      → GoesOn (next_of r s.time (adopted table tables) namespace (was_created create table) told q)
  next_fits q o came = by_tests (is_for_catalogue q.wait) (bytes_eq q.namespace namespace) refl refl
    where
      by_tests : (a b : Bool) → is_for_catalogue q.wait ≡ a → bytes_eq q.namespace namespace ≡ b
          → GoesOn (if not (a && b) then stays q [] else elim q.work as (λ (x : Work). Next) [
            | writing kind ordered statements c ↦ write_on r s.time (adopted table tables) false [] q kind ordered statements c
            | reading named at stages telling ↦
                if is_for told at && not (is_some (table_to_read (table_of q.namespace (adopted table tables)) at []))
                then is_told (reply_to r s.time q (empty_answer q at telling)) else read_on r s.time (adopted table tables) false q named at stages telling
            | sharding ↦ if was_created create table then is_told (reply_to r s.time q (sharded_answer q.namespace s.time)) else stays q []
            | splitting middle ↦ stays q []
          ])
      by_tests true true h name = waits_on q o came h ((bytes_eq-Decides q.namespace namespace).0 name)
      by_tests true false h name = λ noted. (open_rises v asked answered r s q later o, tt)
      by_tests false b h name = λ noted. (open_rises v asked answered r s q later o, tt)
