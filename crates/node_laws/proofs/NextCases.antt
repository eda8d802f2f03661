-- What becomes of an open request, by cases.
use Rattle.std.proofs.Common.{◌≡◌, ℕ, List, [], ◌∷◌, ◌++◌, refl, sym, subst, Bool}
use Rattle.std.specs.Prelude.{Option, Some, None, is_some, true, false, not, nat_lt, ◌==◌, ◌&&◌, if◌then◌else◌}
use Rattle.std.specs.List.{list_any}
use Rattle.std.specs.Str.{bytes_eq}
use Rattle.base_model.specs.Refusals.{Refusal}
use Rattle.chunk_model.specs.Versions.{Version}
use Rattle.bson_model.specs.Tree.{Datum}
use Rattle.command_model.specs.Writes.{WriteKind}
use Rattle.command_model.specs.Answers.{sharded_answer, refusal_answer}
use Rattle.pipeline_model.specs.Stages.{Stage}
use Rattle.pipeline_model.specs.Split.{split}
use Rattle.chunk_model.specs.Tables.{Table, table_of}
use Rattle.reply_model.specs.Outcomes.{dones_from, answer_of, lack_refusal, expired_refusal}
use Rattle.reply_model.specs.Accounts.{Lack}
use Rattle.node_model.specs.Letters.{At, Statement, Cause, is_stale, is_lack, Letter}
use Rattle.node_model.specs.States.{Run, Course, Telling, Work, writing, reading, sharding, splitting, Wait, for_time, for_catalogue, for_shards, Open, Router}
use Rattle.node_model.specs.RouterRequests.{id_of, indices_of, unanswered, unsent, runs_by, with_runs, asks_to_write, targets_at, asks_to_read, asks_catalogue, table_to_read, turn_after, asks_times}
use Rattle.node_model.specs.RouterNext.{reply_to, is_answered, left_of, with_work, empty_answer, is_for, is_for_catalogue, Next, stays, is_told, write_on, read_on, begins_work, next_of, asks_again, is_target, awaited, also_tried, is_bound, gives_up, run_with, after_stale, is_below, read_again, write_refused, read_refused, task_refused, refused_next, wants_table, table_refused, is_expired, at_moment}

-- WRITES

-- what a table sends of a write, its work after that, and the messages
abbrev pub more_of : List Table → Open → Bool → List Statement → Course → List Run
more_of tables q ordered statements c = runs_by ordered (table_of q.namespace tables) statements c

abbrev pub work_after : List Table → Open → WriteKind → Bool → List Statement → Course → Work
work_after tables q kind ordered statements c = writing kind ordered statements (with_runs c (more_of tables q ordered statements c))

abbrev pub asks_after : Router → ℕ → List Table → Open → Bool → List Statement → Course → List Run → List Letter
asks_after r time tables q ordered statements c again =
    asks_to_write r time (id_of r q.count) q.namespace ordered statements (with_runs c (more_of tables q ordered statements c)) (left_of c.answers again ++ more_of tables q ordered statements c)

-- also to the catalogue, if it is asked
abbrev pub with_catalogue : Bool → Letter → List Letter → List Letter
with_catalogue asks letter letters = if asks then letter ∷ letters else letters

module _ (N : Next → Type 0) (r : Router) (time : ℕ) (tables : List Table) (q : Open) where
  -- it is answered; or all that is left is sent; or some is left that no table sends
  pub by_write : (asks : Bool) (again : List Run) (kind : WriteKind) (ordered : Bool) (statements : List Statement) (c : Course)
      → (is_answered ordered c.answers ≡ true → N (is_told (reply_to r time q (answer_of kind time (dones_from 0 c.answers)))))
      → (is_answered ordered c.answers ≡ false → unsent ordered statements (with_runs c (more_of tables q ordered statements c)) ≡ []
      → N (stays (with_work q for_shards [] (work_after tables q kind ordered statements c)) (asks_after r time tables q ordered statements c again)))
      → (is_answered ordered c.answers ≡ false → (s : Statement) (left : List Statement)
      → unsent ordered statements (with_runs c (more_of tables q ordered statements c)) ≡ s ∷ left
      → N (stays (with_work q for_catalogue [] (work_after tables q kind ordered statements c))
      (with_catalogue asks (asks_catalogue r time q.count q.namespace (work_after tables q kind ordered statements c))
      (asks_after r time tables q ordered statements c again))))
      → N (write_on r time tables asks again q kind ordered statements c)
  by_write asks again kind ordered statements c told sent waits = by_answered (is_answered ordered c.answers) refl
    where
      by_left : (left : List Statement) → unsent ordered statements (with_runs c (more_of tables q ordered statements c)) ≡ left
          → is_answered ordered c.answers ≡ false → N (elim left as (λ (l : List Statement). Next) [
            | [] ↦ stays (with_work q for_shards [] (work_after tables q kind ordered statements c)) (asks_after r time tables q ordered statements c again)
            | s ∷ rest ↦ stays (with_work q for_catalogue [] (work_after tables q kind ordered statements c))
                (with_catalogue asks (asks_catalogue r time q.count q.namespace (work_after tables q kind ordered statements c))
                (asks_after r time tables q ordered statements c again))
          ])
      by_left [] is h = sent h is
      by_left (s ∷ rest) is h = waits h s rest is

      by_answered : (b : Bool) → is_answered ordered c.answers ≡ b → N (
          if b then is_told (reply_to r time q (answer_of kind time (dones_from 0 c.answers)))
          else elim (unsent ordered statements (with_runs c (more_of tables q ordered statements c))) as (λ (l : List Statement). Next) [
            | [] ↦ stays (with_work q for_shards [] (work_after tables q kind ordered statements c)) (asks_after r time tables q ordered statements c again)
            | s ∷ rest ↦ stays (with_work q for_catalogue [] (work_after tables q kind ordered statements c))
                (with_catalogue asks (asks_catalogue r time q.count q.namespace (work_after tables q kind ordered statements c))
                (asks_after r time tables q ordered statements c again))
          ])
      by_answered true h = told h
      by_answered false h = by_left (unsent ordered statements (with_runs c (more_of tables q ordered statements c))) refl h

  -- READS

  -- no table is enough, or it is sent by one
  pub by_read : (asks named : Bool) (at : ℕ) (stages : List Stage) (telling : Telling)
      → (table_to_read (table_of q.namespace tables) at q.tries ≡ None
      → N (stays (with_work q for_catalogue [] (reading named at stages telling))
      (with_catalogue asks (asks_catalogue r time q.count q.namespace (reading named at stages telling)) [])))
      → ((t : Table) → table_to_read (table_of q.namespace tables) at q.tries ≡ Some t
      → N (stays (with_work q for_shards (targets_at t at stages) (reading named at stages telling))
      (asks_to_read r time (id_of r q.count) q.namespace (turn_after q.tries) at (split stages).0 (targets_at t at stages))))
      → N (read_on r time tables asks q named at stages telling)
  by_read asks named at stages telling waits sent = by_table (table_to_read (table_of q.namespace tables) at q.tries) refl
    where
      by_table : (table : Option Table) → table_to_read (table_of q.namespace tables) at q.tries ≡ table → N (elim table as (λ (o : Option Table). Next) [
        | None ↦ stays (with_work q for_catalogue [] (reading named at stages telling))
            (with_catalogue asks (asks_catalogue r time q.count q.namespace (reading named at stages telling)) [])
        | Some t ↦ stays (with_work q for_shards (targets_at t at stages) (reading named at stages telling))
            (asks_to_read r time (id_of r q.count) q.namespace (turn_after q.tries) at (split stages).0 (targets_at t at stages))
      ])
      by_table None h = waits h
      by_table (Some t) h = sent t h

  -- A TABLE THAT ARRIVES

  -- what waits for another thing stays
  pub by_next : (namespace : List ℕ) (made : Bool) (told : At)
      → ((is_for_catalogue q.wait && bytes_eq q.namespace namespace) ≡ false → N (stays q []))
      → ((is_for_catalogue q.wait && bytes_eq q.namespace namespace) ≡ true
      → ((kind : WriteKind) (ordered : Bool) (statements : List Statement) (c : Course) → q.work ≡ writing kind ordered statements c
      → N (write_on r time tables false [] q kind ordered statements c))
      × ((named : Bool) (at : ℕ) (stages : List Stage) (telling : Telling) → q.work ≡ reading named at stages telling → is_for told at ≡ true
      → N (is_told (reply_to r time q (empty_answer q at telling))))
      × ((named : Bool) (at : ℕ) (stages : List Stage) (telling : Telling) → q.work ≡ reading named at stages telling
      → N (read_on r time tables false q named at stages telling))
      × (q.work ≡ sharding → made ≡ true → N (is_told (reply_to r time q (sharded_answer q.namespace time))))
      × (((q.work ≡ sharding) × (made ≡ false)) → N (stays q []))
      × ((middle : Datum) → q.work ≡ splitting middle → N (stays q [])))
      → N (next_of r time tables namespace made told q)
  by_next namespace made told other cases = by_test (is_for_catalogue q.wait && bytes_eq q.namespace namespace) refl
    where
      by_work : (is_for_catalogue q.wait && bytes_eq q.namespace namespace) ≡ true → (work : Work) → q.work ≡ work → N (elim work as (λ (x : Work). Next) [
        | writing kind ordered statements c ↦ write_on r time tables false [] q kind ordered statements c
        | reading named at stages telling ↦
            if is_for told at && not (is_some (table_to_read (table_of q.namespace tables) at [])) then is_told (reply_to r time q (empty_answer q at telling))
            else read_on r time tables false q named at stages telling
        | sharding ↦ if made then is_told (reply_to r time q (sharded_answer q.namespace time)) else stays q []
        | splitting middle ↦ stays q []
      ])
      by_work h (writing kind ordered statements c) is = (cases h).0 kind ordered statements c is
      by_work h (reading named at stages telling) is =
          by_told (is_for told at) refl (is_some (table_to_read (table_of q.namespace tables) at []))
        where
          by_told : (a : Bool) → is_for told at ≡ a → (b : Bool) → N (if a && not b then is_told (reply_to r time q (empty_answer q at telling))
              else read_on r time tables false q named at stages telling)
          by_told true e false = (cases h).1 named at stages telling is e
          by_told true e true = (cases h).2 named at stages telling is
          by_told false e b = (cases h).2 named at stages telling is
      by_work h sharding is = by_made made refl
        where
          by_made : (b : Bool) → made ≡ b → N (if b then is_told (reply_to r time q (sharded_answer q.namespace time)) else stays q [])
          by_made true e = (cases h).3 is e
          by_made false e = (cases h).4 (is, e)
      by_work h (splitting middle) is = (cases h).5 middle is

      by_test : (b : Bool) → (is_for_catalogue q.wait && bytes_eq q.namespace namespace) ≡ b
          → N (if not b then stays q [] else elim q.work as (λ (x : Work). Next) [
            | writing kind ordered statements c ↦ write_on r time tables false [] q kind ordered statements c
            | reading named at stages telling ↦
                if is_for told at && not (is_some (table_to_read (table_of q.namespace tables) at [])) then is_told (reply_to r time q (empty_answer q at telling))
                else read_on r time tables false q named at stages telling
            | sharding ↦ if made then is_told (reply_to r time q (sharded_answer q.namespace time)) else stays q []
            | splitting middle ↦ stays q []
          ])
      by_test true h = by_work h q.work refl
      by_test false h = other h

-- WORK THAT BEGINS

pub by_begins : (N : Next → Type 0) (r : Router) (time : ℕ) (q : Open) (work : Work)
    → ((kind : WriteKind) (ordered : Bool) (statements : List Statement) (c : Course) → work ≡ writing kind ordered statements c
    → N (write_on r time r.tables true [] q kind ordered statements c))
    → ((named : Bool) (at : ℕ) (stages : List Stage) (telling : Telling) → work ≡ reading named at stages telling → nat_lt time at ≡ true
    → N (stays (with_work q for_time [] (reading named at stages telling)) (asks_times r time (id_of r q.count) [])))
    → ((named : Bool) (at : ℕ) (stages : List Stage) (telling : Telling) → work ≡ reading named at stages telling → nat_lt time at ≡ false
    → N (read_on r time r.tables true q named at stages telling))
    → (work ≡ sharding → N (stays (with_work q for_catalogue [] sharding) (asks_catalogue r time q.count q.namespace sharding ∷ [])))
    → ((middle : Datum) → work ≡ splitting middle
    → N (stays (with_work q for_catalogue [] (splitting middle)) (asks_catalogue r time q.count q.namespace (splitting middle) ∷ [])))
    → N (begins_work r time q work)
by_begins N r time q (writing kind ordered statements c) write ahead read shard split = write kind ordered statements c refl
by_begins N r time q (reading named at stages telling) write ahead read shard split = by_time (nat_lt time at) refl
  where
    by_time : (b : Bool) → nat_lt time at ≡ b → N (if b then stays (with_work q for_time [] (reading named at stages telling)) (asks_times r time (id_of r q.count) [])
        else read_on r time r.tables true q named at stages telling)
    by_time true h = ahead named at stages telling refl h
    by_time false h = read named at stages telling refl h
by_begins N r time q sharding write ahead read shard split = shard refl
by_begins N r time q (splitting middle) write ahead read shard split = split middle refl

-- WHAT IS REFUSED, AND MOMENTS

-- work that is done, or given up, as one
abbrev pub IsTask : Work → Type 0
IsTask (writing kind ordered statements c) = ⊥
IsTask (reading named at stages telling) = Unit {0}
IsTask sharding = Unit {0}
IsTask (splitting middle) = Unit {0}

-- what a refusal does, by cases
pub record IfRefused (N : Next → Type 0) (r : Router) (time : ℕ) (q : Open) (turn first : ℕ) (cause : Cause) : Type 0 where
  pub stale_write : (kind : WriteKind) (ordered : Bool) (statements : List Statement) (c : Course) (run : Run) (met : Version)
      → q.work ≡ writing kind ordered statements c → cause ≡ is_stale met
      → N (write_on r time r.tables (is_below (table_of q.namespace r.tables) met) [] q kind ordered statements (after_stale ordered c run met))
  pub lack_write : (kind : WriteKind) (ordered : Bool) (statements : List Statement) (c : Course) (run : Run) (node : ℕ) (lack : Lack)
      → q.work ≡ writing kind ordered statements c → cause ≡ is_lack node lack → run_with turn first c c.runs ≡ Some run → is_bound ordered (run ∷ []) ≡ false
      → N (gives_up r time q kind ordered statements c (lack_refusal node lack) run.indices)
  pub stale_read : (named : Bool) (at : ℕ) (stages : List Stage) (telling : Telling) (met : Version)
      → q.work ≡ reading named at stages telling → cause ≡ is_stale met → N (read_again r time (also_tried q met) named at stages telling)
  pub lack_task : (node : ℕ) (lack : Lack) → cause ≡ is_lack node lack → IsTask q.work → N (is_told (reply_to r time q (refusal_answer (lack_refusal node lack))))

same_next : (x y : Next) → Some x ≡ Some y → x ≡ y
same_next x y e = cc

none_next : (x : Next) → None ≡ Some x → ⊥
none_next x e = cc

pub by_refused : (N : Next → Type 0) (r : Router) (time : ℕ) (q : Open) (sender turn first : ℕ) (cause : Cause) (next : Next)
    → IfRefused N r time q turn first cause → refused_next r time q sender turn first cause ≡ Some next → N next
by_refused N r time q sender turn first cause next cases is = by_work q.work refl is
  where
    found : (x : Next) → N x → Some x ≡ Some next → N next
    found x n e = subst (λ y. N y) (same_next x next e) n

    by_task : IsTask q.work → (c : Cause) → cause ≡ c → task_refused r time q turn first c ≡ Some next → N next
    by_task task (is_stale met) same e = absurd (none_next next e)
    by_task task (is_lack node lack) same e = by_own ((turn == 0) && (first == 0)) e
      where
        by_own : (b : Bool) → (if b then Some (is_told (reply_to r time q (refusal_answer (lack_refusal node lack)))) else None) ≡ Some next → N next
        by_own true e = found (is_told (reply_to r time q (refusal_answer (lack_refusal node lack)))) (cases.lack_task node lack same task) e
        by_own false e = absurd (none_next next e)

    by_run : (kind : WriteKind) (ordered : Bool) (statements : List Statement) (c : Course) → q.work ≡ writing kind ordered statements c → (o : Option Run)
        → run_with turn first c c.runs ≡ o
        → (elim o as (λ (x : Option Run). Option Next) [ None ↦ None | Some run ↦ write_refused r time q cause kind ordered statements c run ]) ≡ Some next → N next
    by_run kind ordered statements c work None has e = absurd (none_next next e)
    by_run kind ordered statements c work (Some run) has e = by_cause cause refl e
      where
        by_cause : (x : Cause) → cause ≡ x → write_refused r time q x kind ordered statements c run ≡ Some next → N next
        by_cause (is_stale met) same e =
            found (write_on r time r.tables (is_below (table_of q.namespace r.tables) met) [] q kind ordered statements (after_stale ordered c run met))
            (cases.stale_write kind ordered statements c run met work same) e
        by_cause (is_lack node lack) same e = by_bound (is_bound ordered (run ∷ [])) refl e
          where
            by_bound : (b : Bool) → is_bound ordered (run ∷ []) ≡ b
                → (if b then None else Some (gives_up r time q kind ordered statements c (lack_refusal node lack) run.indices)) ≡ Some next → N next
            by_bound true h e = absurd (none_next next e)
            by_bound false h e =
                found (gives_up r time q kind ordered statements c (lack_refusal node lack) run.indices) (cases.lack_write kind ordered statements c run node lack work same has h) e

    by_wait : (named : Bool) (at : ℕ) (stages : List Stage) (telling : Telling) → q.work ≡ reading named at stages telling → (wait : Wait)
        → (elim wait as (λ (x : Wait). Option Next) [
          | for_time ↦ if list_any (λ t. t == sender) q.told then None else task_refused r time q turn first cause
          | for_catalogue ↦ None
          | for_shards ↦
              if (turn == turn_after q.tries) && ((first == 0) && is_target sender (awaited q.targets q.parts))
              then Some (read_refused r time q cause named at stages telling) else None
        ]) ≡ Some next → N next
    by_wait named at stages telling work for_time e = by_told (list_any (λ t. t == sender) q.told) e
      where
        by_told : (b : Bool) → (if b then None else task_refused r time q turn first cause) ≡ Some next → N next
        by_told true e = absurd (none_next next e)
        by_told false e = by_task (subst (λ x. IsTask x) (sym work) tt) cause refl e
    by_wait named at stages telling work for_catalogue e = absurd (none_next next e)
    by_wait named at stages telling work for_shards e =
        by_own ((turn == turn_after q.tries) && ((first == 0) && is_target sender (awaited q.targets q.parts))) e
      where
        by_cause : (x : Cause) → cause ≡ x → Some (read_refused r time q x named at stages telling) ≡ Some next → N next
        by_cause (is_stale met) same e =
            found (read_again r time (also_tried q met) named at stages telling) (cases.stale_read named at stages telling met work same) e
        by_cause (is_lack node lack) same e =
            found (is_told (reply_to r time q (refusal_answer (lack_refusal node lack)))) (cases.lack_task node lack same (subst (λ x. IsTask x) (sym work) tt)) e

        by_own : (b : Bool) → (if b then Some (read_refused r time q cause named at stages telling) else None) ≡ Some next → N next
        by_own true e = by_cause cause refl e
        by_own false e = absurd (none_next next e)

    by_work : (work : Work) → q.work ≡ work → (elim work as (λ (x : Work). Option Next) [
      | writing kind ordered statements c ↦ elim (run_with turn first c c.runs) [ None ↦ None | Some run ↦ write_refused r time q cause kind ordered statements c run ]
      | reading named at stages telling ↦ elim q.wait [
        | for_time ↦ if list_any (λ t. t == sender) q.told then None else task_refused r time q turn first cause
        | for_catalogue ↦ None
        | for_shards ↦
            if (turn == turn_after q.tries) && ((first == 0) && is_target sender (awaited q.targets q.parts))
            then Some (read_refused r time q cause named at stages telling) else None
      ]
      | sharding ↦ None
      | splitting middle ↦ task_refused r time q turn first cause
    ]) ≡ Some next → N next
    by_work (writing kind ordered statements c) work e = by_run kind ordered statements c work (run_with turn first c c.runs) refl e
    by_work (reading named at stages telling) work e = by_wait named at stages telling work q.wait e
    by_work sharding work e = absurd (none_next next e)
    by_work (splitting middle) work e = by_task (subst (λ x. IsTask x) (sym work) tt) cause refl e

-- what a request for a table that is refused does, by cases
pub by_no_table : (N : Next → Type 0) (r : Router) (time : ℕ) (namespace : List ℕ) (create : Bool) (at : At) (refusal : Refusal) (q : Open)
    → N (stays q [])
    → ((kind : WriteKind) (ordered : Bool) (statements : List Statement) (c : Course) → q.work ≡ writing kind ordered statements c → is_for_catalogue q.wait ≡ true
    → N (gives_up r time q kind ordered statements c refusal (indices_of (unsent ordered statements c))))
    → (IsTask q.work → N (is_told (reply_to r time q (refusal_answer refusal))))
    → N (table_refused r time namespace create at refusal q)
by_no_table N r time namespace create at refusal q other write task =
    by_test (is_for_catalogue q.wait) refl (bytes_eq q.namespace namespace && wants_table q.work create at)
  where
    by_work : is_for_catalogue q.wait ≡ true → (work : Work) → q.work ≡ work → N (elim work as (λ (x : Work). Next) [
      | writing kind ordered statements c ↦ gives_up r time q kind ordered statements c refusal (indices_of (unsent ordered statements c))
      | reading named wanted stages telling ↦ is_told (reply_to r time q (refusal_answer refusal))
      | sharding ↦ is_told (reply_to r time q (refusal_answer refusal))
      | splitting middle ↦ stays q []
    ])
    by_work waits (writing kind ordered statements c) is = write kind ordered statements c is waits
    by_work waits (reading named wanted stages telling) is = task (subst (λ x. IsTask x) (sym is) tt)
    by_work waits sharding is = task (subst (λ x. IsTask x) (sym is) tt)
    by_work waits (splitting middle) is = other

    by_test : (a : Bool) → is_for_catalogue q.wait ≡ a → (b : Bool) → N (if not (a && b) then stays q [] else elim q.work as (λ (x : Work). Next) [
      | writing kind ordered statements c ↦ gives_up r time q kind ordered statements c refusal (indices_of (unsent ordered statements c))
      | reading named wanted stages telling ↦ is_told (reply_to r time q (refusal_answer refusal))
      | sharding ↦ is_told (reply_to r time q (refusal_answer refusal))
      | splitting middle ↦ stays q []
    ])
    by_test true waits true = by_work waits q.work refl
    by_test true waits false = other
    by_test false waits b = other

-- what a moment does, by cases
pub by_moment : (N : Next → Type 0) (r : Router) (time moment : ℕ) (q : Open) → N (stays q (asks_again r time q))
    → (is_expired q moment ≡ true → (kind : WriteKind) (ordered : Bool) (statements : List Statement) (c : Course) → q.work ≡ writing kind ordered statements c
    → is_bound ordered c.runs ≡ false
    → N (gives_up r time q kind ordered statements c (expired_refusal q.arrived moment) (indices_of (unanswered statements c.answers))))
    → (is_expired q moment ≡ true → IsTask q.work → N (is_told (reply_to r time q (refusal_answer (expired_refusal q.arrived moment)))))
    → N (at_moment r time moment q)
by_moment N r time moment q asks write task = by_expired (is_expired q moment) refl
  where
    by_bound : is_expired q moment ≡ true → (kind : WriteKind) (ordered : Bool) (statements : List Statement) (c : Course) → q.work ≡ writing kind ordered statements c
        → (b : Bool) → is_bound ordered c.runs ≡ b → N (if b then stays q (asks_again r time q)
        else gives_up r time q kind ordered statements c (expired_refusal q.arrived moment) (indices_of (unanswered statements c.answers)))
    by_bound late kind ordered statements c is true h = asks
    by_bound late kind ordered statements c is false h = write late kind ordered statements c is h

    by_work : is_expired q moment ≡ true → (work : Work) → q.work ≡ work → N (elim work as (λ (x : Work). Next) [
      | writing kind ordered statements c ↦
          if is_bound ordered c.runs then stays q (asks_again r time q)
          else gives_up r time q kind ordered statements c (expired_refusal q.arrived moment) (indices_of (unanswered statements c.answers))
      | reading named at stages telling ↦ is_told (reply_to r time q (refusal_answer (expired_refusal q.arrived moment)))
      | sharding ↦ is_told (reply_to r time q (refusal_answer (expired_refusal q.arrived moment)))
      | splitting middle ↦ is_told (reply_to r time q (refusal_answer (expired_refusal q.arrived moment)))
    ])
    by_work late (writing kind ordered statements c) is = by_bound late kind ordered statements c is (is_bound ordered c.runs) refl
    by_work late (reading named at stages telling) is = task late (subst (λ x. IsTask x) (sym is) tt)
    by_work late sharding is = task late (subst (λ x. IsTask x) (sym is) tt)
    by_work late (splitting middle) is = task late (subst (λ x. IsTask x) (sym is) tt)

    by_expired : (b : Bool) → is_expired q moment ≡ b → N (if not b then stays q (asks_again r time q) else elim q.work as (λ (x : Work). Next) [
      | writing kind ordered statements c ↦
          if is_bound ordered c.runs then stays q (asks_again r time q)
          else gives_up r time q kind ordered statements c (expired_refusal q.arrived moment) (indices_of (unanswered statements c.answers))
      | reading named at stages telling ↦ is_told (reply_to r time q (refusal_answer (expired_refusal q.arrived moment)))
      | sharding ↦ is_told (reply_to r time q (refusal_answer (expired_refusal q.arrived moment)))
      | splitting middle ↦ is_told (reply_to r time q (refusal_answer (expired_refusal q.arrived moment)))
    ])
    by_expired true h = by_work h q.work refl
    by_expired false h = asks
