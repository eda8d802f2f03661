-- What becomes of an open request that is given up, or refused, by the table that is known of its collection.
use Rattle.std.proofs.Common.{◌≡◌, refl, ap, sym, ◌∙◌, ℕ, List, [], ◌∷◌, ◌++◌, map, length, Bool, true, false, ◌==◌, ◌&&◌, ◌||◌, if◌then◌else◌}
use Rattle.std.proofs.lemmas.Bool.{eqb-true}
use Rattle.std.proofs.lemmas.Slice.Eq.{bytes_eq-Decides}
use Rattle.std.specs.List.{list_any}
use Rattle.std.specs.Prelude.{Option, Some, None, is_some, not, slice_get}
use Rattle.std.specs.Str.{bytes_eq}
use Rattle.bson_model.proofs.Booleans.{both}
use Rattle.chunk_model.specs.Tables.{Table, table_of}
use Rattle.chunk_model.specs.Versions.{Version}
use Rattle.chunk_table.specs.Meanings.{version_view}
use Rattle.command_model.specs.Answers.{refusal_answer}
use Rattle.command_model.specs.Writes.{WriteKind}
use Rattle.node_model.specs.Letters.{At, Cause, is_stale, is_lack, Statement}
use Rattle.node_model.specs.RouterNext as nexts
use Rattle.node_model.specs.RouterNext.{after_stale, asks_again, awaited, given_up, gives_up, is_below, is_bound, is_expired, is_for_catalogue, is_target, is_told, left_of, part_of, read_refused, reply_to, run_with, settled, stays, task_refused, tried, wants_table, write_refused}
use Rattle.node_model.specs.RouterRequests.{indices_of, turn_after, unanswered, unsent}
use Rattle.node_model.specs.States.{Course, Open, Part, Router, Run, Target, Telling, Wait, Work, for_catalogue, for_shards, for_time, reading, sharding, splitting, writing}
use Rattle.pipeline_model.specs.Stages.{Stage}
use Rattle.read_parts.specs.Parts.{target_view}
use Rattle.read_parts.specs.declared.parts.Target as program
use Rattle.reply_model.specs.Outcomes.{StatementOutcome, Try, expired_refusal, most_tries, stale_refusal}
use Rattle.reply_model.specs.Refusals.{Refusal}
use Rattle.reply_model.specs.Tree.{Datum}
use Rattle.router_requests.specs.Askers.{knowing}
use Rattle.router_requests.specs.Fates.{answers_in, course_in, tried_by}
use Rattle.router_requests.specs.Nexts.{read_by, write_by, write_expires, write_next}
use Rattle.router_requests.specs.declared.writes.WriteNext.{WriteNext}
use Rattle.router_requests.proofs.Alike.{again_alike}
use Rattle.router_requests.proofs.Staying.{with_other_runs}

-- WRITES

module _ (all : List Table) (r : Router) (time : ℕ) (q : Open) (kind : WriteKind) (ordered : Bool) (statements : List Statement) (c : Course) (known : Option Table) (is : table_of q.namespace all ≡ known) where
  -- statements are refused
  pub gives_up_by : (refusal : Refusal) (indices : List ℕ)
      → gives_up (knowing all r) time q kind ordered statements c refusal indices
      ≡ write_by r time known false [] q kind ordered statements (settled c (given_up ordered refusal indices c.answers))
  gives_up_by refusal indices = ap (λ (o : Option Table). write_by r time o false [] q kind ordered statements (settled c (given_up ordered refusal indices c.answers))) is

  -- a run met a later table
  pub stale_by : (run : Run) (met : Version)
      → write_refused (knowing all r) time q (is_stale met) kind ordered statements c run
      ≡ Some (write_by r time known (is_below known met) [] q kind ordered statements (after_stale ordered c run met))
  stale_by run met = ap (λ (o : Option Table). Some (write_by r time o (is_below o met) [] q kind ordered statements (after_stale ordered c run met))) is

  -- how it goes on then, where these are its answers and its runs, or this is its course
  module _ (has : q.work ≡ writing kind ordered statements c) (next : WriteNext) where
    pub gives_up_as : (refusal : Refusal) (indices : List ℕ) (answers : List (Option StatementOutcome)) (runs : List Run)
        → answers ≡ given_up ordered refusal indices c.answers → runs ≡ left_of answers c.runs
        → write_by r time known false [] q kind ordered statements (record { answers = answers; tries = c.tries; runs = runs })
        ≡ write_next r time q (writing kind ordered statements (record { answers = answers; tries = c.tries; runs = runs })) next
        → gives_up (knowing all r) time q kind ordered statements c refusal indices ≡ write_next r time q (answers_in q.work answers []) next
    gives_up_as refusal indices answers runs given left goes =
        gives_up_by refusal indices
        ∙ ap (λ (a : List (Option StatementOutcome)). write_by r time known false [] q kind ordered statements (settled c a)) (sym given)
        ∙ ap (λ (rs : List Run). write_by r time known false [] q kind ordered statements (record { answers = answers; tries = c.tries; runs = rs })) (sym left)
        ∙ goes
        ∙ with_other_runs r time q kind ordered statements (record { answers = answers; tries = c.tries; runs = runs }) [] next
        ∙ ap (λ (w : Work). write_next r time q (answers_in w answers []) next) (sym has)

    pub stale_as : (run : Run) (met : Version) (course : Course) → course ≡ after_stale ordered c run met
        → write_by r time known (is_below known met) [] q kind ordered statements course ≡ write_next r time q (writing kind ordered statements course) next
        → write_refused (knowing all r) time q (is_stale met) kind ordered statements c run
        ≡ Some (write_next r time q (course_in q.work (record { answers = course.answers; tries = course.tries; runs = [] })) next)
    stale_as run met course comes goes =
        stale_by run met
        ∙ ap (λ (d : Course). Some (write_by r time known (is_below known met) [] q kind ordered statements d)) (sym comes)
        ∙ ap (λ (n : nexts.Next). Some n)
        (goes
        ∙ with_other_runs r time q kind ordered statements course [] next
        ∙ ap (λ (w : Work). write_next r time q (course_in w (record { answers = course.answers; tries = course.tries; runs = [] })) next) (sym has))

-- READS

module _ (all : List Table) (r : Router) (time : ℕ) (q : Open) (met : Version) (named : Bool) (at : ℕ) (stages : List Stage) (telling : Telling) (tries : List Try) (are : tries ≡ q.tries ++ tried met q.targets) where
  abbrev again_if : List Try → (last : Bool) → nexts.Next
  again_if ts last =
      if last then is_told (reply_to r time q (refusal_answer (stale_refusal ts)))
      else read_by r time (table_of q.namespace all) true (tried_by q ts) named at stages telling

  -- it has had all its tries
  pub all_tried : (length tries == most_tries) ≡ true
      → read_refused (knowing all r) time q (is_stale met) named at stages telling ≡ is_told (reply_to r time q (refusal_answer (stale_refusal tries)))
  all_tried last = ap (λ (ts : List Try). again_if ts (length ts == most_tries)) (sym are) ∙ ap (λ (b : Bool). again_if tries b) last

  -- it goes on
  pub tries_again : (known : Option Table) → table_of q.namespace all ≡ known → (length tries == most_tries) ≡ false
      → read_refused (knowing all r) time q (is_stale met) named at stages telling ≡ read_by r time known true (tried_by q tries) named at stages telling
  tries_again known is more =
      ap (λ (ts : List Try). again_if ts (length ts == most_tries)) (sym are)
      ∙ ap (λ (b : Bool). again_if tries b) more
      ∙ ap (λ (o : Option Table). read_by r time o true (tried_by q tries) named at stages telling) is

-- a shard is awaited that was sent to and has not returned its part
and_false : (b : Bool) → (b && false) ≡ false
and_false true = refl
and_false false = refl

pub target_awaited : (shard : ℕ) (targets : List Target) (parts : List Part) → (is_target shard targets && not (is_some (part_of shard parts))) ≡ is_target shard (awaited targets parts)
target_awaited shard [] parts = refl
target_awaited shard (t ∷ targets) parts = by (t.shard == shard) (is_some (part_of t.shard parts)) refl refl (target_awaited shard targets parts) where
  own : (t.shard == shard) ≡ true → is_some (part_of shard parts) ≡ is_some (part_of t.shard parts)
  own hit = sym (ap (λ (s : ℕ). is_some (part_of s parts)) (eqb-true t.shard shard hit))

  by : (same came : Bool) → (t.shard == shard) ≡ same → is_some (part_of t.shard parts) ≡ came
      → (is_target shard targets && not (is_some (part_of shard parts))) ≡ is_target shard (awaited targets parts)
      → ((same || is_target shard targets) && not (is_some (part_of shard parts))) ≡ is_target shard (if not came then t ∷ awaited targets parts else awaited targets parts)
  by true true hit come next =
      let none : not (is_some (part_of shard parts)) ≡ false = ap (λ (b : Bool). not b) (own hit ∙ come) in
      none ∙ sym (ap (λ (b : Bool). is_target shard targets && b) none ∙ and_false (is_target shard targets)) ∙ next
  by true false hit come next = ap (λ (b : Bool). not b) (own hit ∙ come) ∙ sym (ap (λ (b : Bool). b || is_target shard (awaited targets parts)) hit)
  by false true hit come next = next
  by false false hit come next = next ∙ sym (ap (λ (b : Bool). b || is_target shard (awaited targets parts)) hit)

-- the try that a turn was, by the first shard that it was sent to
pub tried_first : (met : Version) (targets : List program.Target) (first : program.Target) → slice_get targets 0 ≡ Some first
    → tried met (map target_view targets) ≡ record { sent = version_view first.sent.collection; met = met } ∷ []
tried_first met [] first is = absurd cc
tried_first met (t ∷ targets) first is =
    let same : t ≡ first = cc is in ap (λ (x : program.Target). let one : Try = record { sent = version_view x.sent.collection; met = met } in one ∷ []) same

-- WHAT A REFUSAL DOES, by what the request has to do and what it waits for

abbrev refused_if : Router → ℕ → Open → (sender turn first : ℕ) → Cause → Work → Wait → Option nexts.Next
refused_if r time q sender turn first cause work wait = elim work [
  | writing kind ordered statements c ↦ elim (run_with turn first c c.runs) [ None ↦ None | Some run ↦ write_refused r time q cause kind ordered statements c run ]
  | reading named at stages telling ↦ elim wait [
    | for_time ↦ if list_any (λ t. t == sender) q.told then None else task_refused r time q turn first cause
    | for_catalogue ↦ None
    | for_shards ↦
        if (turn == turn_after q.tries) && ((first == 0) && is_target sender (awaited q.targets q.parts))
        then Some (read_refused r time q cause named at stages telling) else None
  ]
  | sharding ↦ None
  | splitting middle ↦ task_refused r time q turn first cause
]

-- what has no turn does not depend on the tables that are known
pub task_known : (all : List Table) (r : Router) (time : ℕ) (q : Open) (turn first : ℕ) (cause : Cause)
    → task_refused (knowing all r) time q turn first cause ≡ task_refused r time q turn first cause
task_known all r time q turn first (is_stale met) = refl
task_known all r time q turn first (is_lack node lack) = refl

module _ (r : Router) (time : ℕ) (q : Open) (sender turn first : ℕ) (cause : Cause) where
  abbrev next_with : Work → Wait → Option nexts.Next
  next_with work wait = refused_if r time q sender turn first cause work wait

  of_work : (work : Work) → q.work ≡ work → nexts.refused_next r time q sender turn first cause ≡ next_with work q.wait
  of_work work has = ap (λ (w : Work). next_with w q.wait) has

  -- a write
  abbrev run_if : WriteKind → Bool → List Statement → Course → Option Run → Option nexts.Next
  run_if kind ordered statements c o = elim o [ None ↦ None | Some run ↦ write_refused r time q cause kind ordered statements c run ]

  pub of_run : (kind : WriteKind) (ordered : Bool) (statements : List Statement) (c : Course) (found : Option Run) → q.work ≡ writing kind ordered statements c
      → run_with turn first c c.runs ≡ found → nexts.refused_next r time q sender turn first cause ≡ run_if kind ordered statements c found
  of_run kind ordered statements c found has is = of_work (writing kind ordered statements c) has ∙ ap (λ (o : Option Run). run_if kind ordered statements c o) is

  -- what has no turn
  pub of_sharding : q.work ≡ sharding → nexts.refused_next r time q sender turn first cause ≡ None
  of_sharding has = of_work sharding has

  pub of_splitting : (middle : Datum) → q.work ≡ splitting middle → nexts.refused_next r time q sender turn first cause ≡ task_refused r time q turn first cause
  of_splitting middle has = of_work (splitting middle) has

  -- a read
  module _ (named : Bool) (at : ℕ) (stages : List Stage) (telling : Telling) (has : q.work ≡ reading named at stages telling) where
    waiting : (wait : Wait) → q.wait ≡ wait → nexts.refused_next r time q sender turn first cause ≡ next_with (reading named at stages telling) wait
    waiting wait waits = of_work (reading named at stages telling) has ∙ ap (λ (w : Wait). next_with (reading named at stages telling) w) waits

    pub of_catalogue : q.wait ≡ for_catalogue → nexts.refused_next r time q sender turn first cause ≡ None
    of_catalogue waits = waiting for_catalogue waits

    pub of_told : q.wait ≡ for_time → list_any (λ t. t == sender) q.told ≡ true → nexts.refused_next r time q sender turn first cause ≡ None
    of_told waits told = waiting for_time waits ∙ ap (λ (b : Bool). if b then None else task_refused r time q turn first cause) told

    pub of_untold : q.wait ≡ for_time → list_any (λ t. t == sender) q.told ≡ false → nexts.refused_next r time q sender turn first cause ≡ task_refused r time q turn first cause
    of_untold waits told = waiting for_time waits ∙ ap (λ (b : Bool). if b then None else task_refused r time q turn first cause) told

    pub of_part : (there : Bool) → q.wait ≡ for_shards → ((turn == turn_after q.tries) && ((first == 0) && is_target sender (awaited q.targets q.parts))) ≡ there
        → nexts.refused_next r time q sender turn first cause ≡ (if there then Some (read_refused r time q cause named at stages telling) else None)
    of_part there waits is = waiting for_shards waits ∙ ap (λ (b : Bool). if b then Some (read_refused r time q cause named at stages telling) else None) is

-- A REQUEST FOR A TABLE THAT IS REFUSED

abbrev table_if : Router → ℕ → Refusal → Open → (waits : Bool) → Work → nexts.Next
table_if r time refusal q waits work = if not waits then stays q [] else elim work [
  | writing kind ordered statements c ↦ gives_up r time q kind ordered statements c refusal (indices_of (unsent ordered statements c))
  | reading named wanted stages telling ↦ is_told (reply_to r time q (refusal_answer refusal))
  | sharding ↦ is_told (reply_to r time q (refusal_answer refusal))
  | splitting middle ↦ stays q []
]

pub of_table : (r : Router) (time : ℕ) (namespace : List ℕ) (create : Bool) (at : At) (refusal : Refusal) (q : Open) (work : Work) (waits : Bool) → q.work ≡ work
    → (is_for_catalogue q.wait && (bytes_eq q.namespace namespace && wants_table work create at)) ≡ waits
    → nexts.table_refused r time namespace create at refusal q ≡ table_if r time refusal q waits work
of_table r time namespace create at refusal q work waits has is =
    ap (λ (w : Work). table_if r time refusal q (is_for_catalogue q.wait && (bytes_eq q.namespace namespace && wants_table w create at)) w) has
    ∙ ap (λ (b : Bool). table_if r time refusal q b work) is

-- the collection of one that waits for this table is the one that the table is of
pub same_table : (q : Open) (namespace : List ℕ) (rest : Bool) (all : List Table) (known : Option Table) → (is_for_catalogue q.wait && (bytes_eq q.namespace namespace && rest)) ≡ true
    → table_of namespace all ≡ known → table_of q.namespace all ≡ known
same_table q namespace rest all known waits is =
    let same = both (bytes_eq q.namespace namespace) rest (both (is_for_catalogue q.wait) (bytes_eq q.namespace namespace && rest) waits).1 in
    ap (λ (n : List ℕ). table_of n all) ((bytes_eq-Decides q.namespace namespace).0 same.0) ∙ is

-- AT A MOMENT

abbrev moment_if : Router → (time moment : ℕ) → Open → (late : Bool) → Work → nexts.Next
moment_if r time moment q late work = if not late then stays q (asks_again r time q) else elim work [
  | writing kind ordered statements c ↦
      if is_bound ordered c.runs then stays q (asks_again r time q)
      else gives_up r time q kind ordered statements c (expired_refusal q.arrived moment) (indices_of (unanswered statements c.answers))
  | reading named at stages telling ↦ is_told (reply_to r time q (refusal_answer (expired_refusal q.arrived moment)))
  | sharding ↦ is_told (reply_to r time q (refusal_answer (expired_refusal q.arrived moment)))
  | splitting middle ↦ is_told (reply_to r time q (refusal_answer (expired_refusal q.arrived moment)))
]

module _ (r : Router) (time moment : ℕ) (q : Open) where
  pub of_moment : (late : Bool) (work : Work) → is_expired q moment ≡ late → q.work ≡ work → nexts.at_moment r time moment q ≡ moment_if r time moment q late work
  of_moment late work is has =
      ap (λ (b : Bool). moment_if r time moment q b q.work) is ∙ ap (λ (w : Work). moment_if r time moment q late w) has

  abbrev bound_if : WriteKind → Bool → List Statement → Course → (bound : Bool) → nexts.Next
  bound_if kind ordered statements c bound =
      if bound then stays q (asks_again r time q)
      else gives_up r time q kind ordered statements c (expired_refusal q.arrived moment) (indices_of (unanswered statements c.answers))

  abbrev expires_if : Work → nexts.Next
  expires_if work = elim work [
    | writing kind ordered statements c ↦ bound_if kind ordered statements c (is_bound ordered c.runs)
    | reading named at stages telling ↦ stays q []
    | sharding ↦ stays q []
    | splitting middle ↦ stays q []
  ]

  pub of_write : (kind : WriteKind) (ordered : Bool) (statements : List Statement) (c : Course) (bound : Bool) → q.work ≡ writing kind ordered statements c
      → is_bound ordered c.runs ≡ bound → write_expires r time moment q ≡ bound_if kind ordered statements c bound
  of_write kind ordered statements c bound has is =
      ap (λ (w : Work). expires_if w) has ∙ ap (λ (b : Bool). bound_if kind ordered statements c b) is

-- what is sent again does not depend on the tables that are known
pub again_known : (all : List Table) (r : Router) (time : ℕ) (q : Open) → asks_again (knowing all r) time q ≡ asks_again r time q
again_known all r time q = sym (again_alike (knowing all r) time q) ∙ again_alike r time q
