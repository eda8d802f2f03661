-- What becomes of an open request is of the same request.
use Rattle.std.proofs.Common.{◌≡◌, ℕ, List, [], ◌∷◌, ◌++◌, refl, Bool}
use Rattle.std.specs.Prelude.{Option, Some, None, is_some, true, false, not, length, nat_lt, ◌==◌, ◌&&◌, if◌then◌else◌}
use Rattle.std.specs.Str.{bytes_eq}
use Rattle.command_model.specs.Writes.{WriteKind}
use Rattle.command_model.specs.Answers.{Answer, sharded_answer, refusal_answer}
use Rattle.pipeline_model.specs.Stages.{Stage}
use Rattle.pipeline_model.specs.Split.{split}
use Rattle.chunk_model.specs.Tables.{Table, table_of}
use Rattle.reply_model.specs.Outcomes.{most_tries, dones_from, answer_of, lack_refusal, expired_refusal, stale_refusal}
use Rattle.base_model.specs.Refusals.{Refusal}
use Rattle.chunk_model.specs.Versions.{Version}
use Rattle.node_model.specs.Letters.{At, Statement, Cause, Reply}
use Rattle.node_model.specs.States.{Run, Course, Telling, Work, writing, reading, sharding, splitting, for_time, for_catalogue, for_shards, Open, Router}
use Rattle.node_model.specs.RouterRequests.{id_of, indices_of, unanswered, unsent, runs_by, with_runs, asks_to_write, targets_at, asks_to_read, asks_catalogue, table_to_read, turn_after, asks_times}
use Rattle.node_model.specs.RouterNext.{reply_to, is_answered, left_of, with_work, empty_answer, is_for, is_for_catalogue, Next, stays, is_told, write_on, read_on, begins_work, next_of, settled, given_up, also_tried, read_again, gives_up, after_stale, is_below, refused_next, table_refused, at_moment}
use Rattle.node_laws.proofs.NextRequests.{KeepsCount}
use Rattle.node_laws.proofs.NextCases.{by_refused, by_no_table, by_moment}

-- another state of an open request
pub record KeepsOpen (q p : Open) : Type 0 where
  pub count : p.count ≡ q.count
  pub link : p.link ≡ q.link
  pub number : p.number ≡ q.number
  pub request : p.request ≡ q.request
  pub namespace : p.namespace ≡ q.namespace
  pub told : p.told ≡ q.told

-- a reply to it
pub record IsReplyTo (r : Router) (now : ℕ) (q : Open) (x : Reply) : Type 0 where
  pub id : x.id ≡ id_of r q.count
  pub link : x.link ≡ q.link
  pub number : x.number ≡ q.number
  pub request : x.request ≡ q.request
  pub time : x.time ≡ now

-- it stays open, or is answered
abbrev pub Continues : Router → (time : ℕ) → Open → Next → Type 0
Continues r time q (stays p letters) = KeepsOpen q p
Continues r time q (is_told reply) = IsReplyTo r time q reply

pub keeps_count : (r : Router) (time : ℕ) (q : Open) (next : Next) → Continues r time q next → KeepsCount r q next
keeps_count r time q (stays p letters) k = k.count
keeps_count r time q (is_told reply) k = k.id

pub write_keeps : (r : Router) (time : ℕ) (tables : List Table) (asks : Bool) (again : List Run) (q : Open) (kind : WriteKind) (ordered : Bool)
    (statements : List Statement) (c : Course) → Continues r time q (write_on r time tables asks again q kind ordered statements c)
write_keeps r time tables asks again q kind ordered statements c = by_answered (is_answered ordered c.answers)
  where
    More : List Run
    More = runs_by ordered (table_of q.namespace tables) statements c

    After : Work
    After = writing kind ordered statements (with_runs c More)

    by_left : (left : List Statement) → Continues r time q (elim left as (λ (l : List Statement). Next) [
      | [] ↦ stays (with_work q for_shards [] After)
          (asks_to_write r time (id_of r q.count) q.namespace ordered statements (with_runs c More) (left_of c.answers again ++ More))
      | x ∷ rest ↦ stays (with_work q for_catalogue [] After) (if asks then asks_catalogue r time q.count q.namespace After
          ∷ asks_to_write r time (id_of r q.count) q.namespace ordered statements (with_runs c More) (left_of c.answers again ++ More)
          else asks_to_write r time (id_of r q.count) q.namespace ordered statements (with_runs c More) (left_of c.answers again ++ More))
    ])
    by_left [] = record { count = refl; link = refl; number = refl; request = refl; namespace = refl; told = refl }
    by_left (x ∷ rest) = record { count = refl; link = refl; number = refl; request = refl; namespace = refl; told = refl }

    by_answered : (b : Bool) → Continues r time q (
        if b then is_told (reply_to r time q (answer_of kind time (dones_from 0 c.answers)))
        else elim (unsent ordered statements (with_runs c More)) as (λ (l : List Statement). Next) [
          | [] ↦ stays (with_work q for_shards [] After)
              (asks_to_write r time (id_of r q.count) q.namespace ordered statements (with_runs c More) (left_of c.answers again ++ More))
          | x ∷ rest ↦ stays (with_work q for_catalogue [] After) (if asks then asks_catalogue r time q.count q.namespace After
              ∷ asks_to_write r time (id_of r q.count) q.namespace ordered statements (with_runs c More) (left_of c.answers again ++ More)
              else asks_to_write r time (id_of r q.count) q.namespace ordered statements (with_runs c More) (left_of c.answers again ++ More))
        ])
    by_answered true = record { id = refl; link = refl; number = refl; request = refl; time = refl }
    by_answered false = by_left (unsent ordered statements (with_runs c More))

pub read_keeps : (r : Router) (time : ℕ) (tables : List Table) (asks : Bool) (q : Open) (named : Bool) (at : ℕ) (stages : List Stage) (telling : Telling)
    → Continues r time q (read_on r time tables asks q named at stages telling)
read_keeps r time tables asks q named at stages telling = by_table (table_to_read (table_of q.namespace tables) at q.tries)
  where
    by_table : (table : Option Table) → Continues r time q (elim table as (λ (o : Option Table). Next) [
      | None ↦ stays (with_work q for_catalogue [] (reading named at stages telling))
          (if asks then asks_catalogue r time q.count q.namespace (reading named at stages telling) ∷ [] else [])
      | Some t ↦ stays (with_work q for_shards (targets_at t at stages) (reading named at stages telling))
          (asks_to_read r time (id_of r q.count) q.namespace (turn_after q.tries) at (split stages).0 (targets_at t at stages))
    ])
    by_table None = record { count = refl; link = refl; number = refl; request = refl; namespace = refl; told = refl }
    by_table (Some t) = record { count = refl; link = refl; number = refl; request = refl; namespace = refl; told = refl }

pub begins_keeps : (r : Router) (time : ℕ) (q : Open) (work : Work) → Continues r time q (begins_work r time q work)
begins_keeps r time q (writing kind ordered statements c) = write_keeps r time r.tables true [] q kind ordered statements c
begins_keeps r time q (reading named at stages telling) = by_time (nat_lt time at)
  where
    by_time : (b : Bool) → Continues r time q (if b then stays (with_work q for_time [] (reading named at stages telling)) (asks_times r time (id_of r q.count) [])
        else read_on r time r.tables true q named at stages telling)
    by_time true = record { count = refl; link = refl; number = refl; request = refl; namespace = refl; told = refl }
    by_time false = read_keeps r time r.tables true q named at stages telling
begins_keeps r time q sharding = record { count = refl; link = refl; number = refl; request = refl; namespace = refl; told = refl }
begins_keeps r time q (splitting middle) = record { count = refl; link = refl; number = refl; request = refl; namespace = refl; told = refl }

pub next_keeps : (r : Router) (time : ℕ) (tables : List Table) (namespace : List ℕ) (made : Bool) (told : At) (q : Open)
    → Continues r time q (next_of r time tables namespace made told q)
next_keeps r time tables namespace made told q = by_test (is_for_catalogue q.wait && bytes_eq q.namespace namespace)
  where
    by_own : (named : Bool) (at : ℕ) (stages : List Stage) (telling : Telling) (b : Bool)
        → Continues r time q (if b then is_told (reply_to r time q (empty_answer q at telling)) else read_on r time tables false q named at stages telling)
    by_own named at stages telling true = record { id = refl; link = refl; number = refl; request = refl; time = refl }
    by_own named at stages telling false = read_keeps r time tables false q named at stages telling

    by_made : (b : Bool) → Continues r time q (if b then is_told (reply_to r time q (sharded_answer q.namespace time)) else stays q [])
    by_made true = record { id = refl; link = refl; number = refl; request = refl; time = refl }
    by_made false = record { count = refl; link = refl; number = refl; request = refl; namespace = refl; told = refl }

    by_work : (work : Work) → Continues r time q (elim work as (λ (x : Work). Next) [
      | writing kind ordered statements c ↦ write_on r time tables false [] q kind ordered statements c
      | reading named at stages telling ↦
          if is_for told at && not (is_some (table_to_read (table_of q.namespace tables) at [])) then is_told (reply_to r time q (empty_answer q at telling))
          else read_on r time tables false q named at stages telling
      | sharding ↦ if made then is_told (reply_to r time q (sharded_answer q.namespace time)) else stays q []
      | splitting middle ↦ stays q []
    ])
    by_work (writing kind ordered statements c) = write_keeps r time tables false [] q kind ordered statements c
    by_work (reading named at stages telling) =
        by_own named at stages telling (is_for told at && not (is_some (table_to_read (table_of q.namespace tables) at [])))
    by_work sharding = by_made made
    by_work (splitting middle) = record { count = refl; link = refl; number = refl; request = refl; namespace = refl; told = refl }

    by_test : (b : Bool) → Continues r time q (if not b then stays q [] else elim q.work as (λ (x : Work). Next) [
      | writing kind ordered statements c ↦ write_on r time tables false [] q kind ordered statements c
      | reading named at stages telling ↦
          if is_for told at && not (is_some (table_to_read (table_of q.namespace tables) at [])) then is_told (reply_to r time q (empty_answer q at telling))
          else read_on r time tables false q named at stages telling
      | sharding ↦ if made then is_told (reply_to r time q (sharded_answer q.namespace time)) else stays q []
      | splitting middle ↦ stays q []
    ])
    by_test true = by_work q.work
    by_test false = record { count = refl; link = refl; number = refl; request = refl; namespace = refl; told = refl }

-- what is refused, and moments

gives_keeps : (r : Router) (time : ℕ) (q : Open) (kind : WriteKind) (ordered : Bool) (statements : List Statement) (c : Course) (refusal : Refusal)
    (indices : List ℕ) → Continues r time q (gives_up r time q kind ordered statements c refusal indices)
gives_keeps r time q kind ordered statements c refusal indices =
    write_keeps r time r.tables false [] q kind ordered statements (settled c (given_up ordered refusal indices c.answers))

replies_keeps : (r : Router) (time : ℕ) (q : Open) (answer : Answer) → Continues r time q (is_told (reply_to r time q answer))
replies_keeps r time q answer = record { id = refl; link = refl; number = refl; request = refl; time = refl }

-- a read after one try more
pub again_keeps : (r : Router) (time : ℕ) (q : Open) (met : Version) (named : Bool) (at : ℕ) (stages : List Stage) (telling : Telling)
    → Continues r time q (read_again r time (also_tried q met) named at stages telling)
again_keeps r time q met named at stages telling = by_test (length (also_tried q met).tries == most_tries)
  where
    of_tried : (n : Next) → Continues r time (also_tried q met) n → Continues r time q n
    of_tried (stays p letters) k =
        record { count = k.count; link = k.link; number = k.number; request = k.request; namespace = k.namespace; told = k.told }
    of_tried (is_told reply) k = record { id = k.id; link = k.link; number = k.number; request = k.request; time = k.time }

    by_test : (b : Bool) → Continues r time q
        (if b then is_told (reply_to r time (also_tried q met) (refusal_answer (stale_refusal (also_tried q met).tries)))
        else read_on r time r.tables true (also_tried q met) named at stages telling)
    by_test true = record { id = refl; link = refl; number = refl; request = refl; time = refl }
    by_test false = of_tried (read_on r time r.tables true (also_tried q met) named at stages telling)
        (read_keeps r time r.tables true (also_tried q met) named at stages telling)

pub refused_keeps : (r : Router) (time : ℕ) (q : Open) (sender turn first : ℕ) (cause : Cause) (next : Next)
    → refused_next r time q sender turn first cause ≡ Some next → Continues r time q next
refused_keeps r time q sender turn first cause next is = by_refused (λ n. Continues r time q n) r time q sender turn first cause next (record {
  stale_write = λ kind ordered statements c run met work same.
      write_keeps r time r.tables (is_below (table_of q.namespace r.tables) met) [] q kind ordered statements (after_stale ordered c run met);
  lack_write = λ kind ordered statements c run node lack work same has free. gives_keeps r time q kind ordered statements c (lack_refusal node lack) run.indices;
  stale_read = λ named at stages telling met work same. again_keeps r time q met named at stages telling;
  lack_task = λ node lack same task. replies_keeps r time q (refusal_answer (lack_refusal node lack));
}) is

pub no_table_keeps : (r : Router) (time : ℕ) (namespace : List ℕ) (create : Bool) (at : At) (refusal : Refusal) (q : Open)
    → Continues r time q (table_refused r time namespace create at refusal q)
no_table_keeps r time namespace create at refusal q = by_no_table (λ n. Continues r time q n) r time namespace create at refusal q
    (record { count = refl; link = refl; number = refl; request = refl; namespace = refl; told = refl })
    (λ kind ordered statements c work waits. gives_keeps r time q kind ordered statements c refusal (indices_of (unsent ordered statements c)))
    (λ task. replies_keeps r time q (refusal_answer refusal))

pub moment_keeps : (r : Router) (time moment : ℕ) (q : Open) → Continues r time q (at_moment r time moment q)
moment_keeps r time moment q = by_moment (λ n. Continues r time q n) r time moment q
    (record { count = refl; link = refl; number = refl; request = refl; namespace = refl; told = refl })
    (λ late kind ordered statements c work free.
    gives_keeps r time q kind ordered statements c (expired_refusal q.arrived moment) (indices_of (unanswered statements c.answers)))
    (λ late task. replies_keeps r time q (refusal_answer (expired_refusal q.arrived moment)))
