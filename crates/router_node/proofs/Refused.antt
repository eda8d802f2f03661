-- The transitions for refusals of what was sent for an open request.
use Rattle.std.proofs.Common.{◌≡◌, refl, ap, sym, subst, ◌∙◌, ℕ, List, [], ◌∷◌, Bool, true, false, ◌==◌, ◌&&◌, if◌then◌else◌}
use Rattle.std.specs.Prelude.{Option, Some, None}
use Rattle.std.specs.List.{list_any}
use Rattle.base_model.specs.Identities.{RequestId}
use Rattle.chunk_model.specs.Versions.{Version}
use Rattle.command_model.specs.Answers.{refusal_answer}
use Rattle.command_model.specs.Writes.{WriteKind}
use Rattle.node_model.specs.Letters.{At, Cause, Letter, Reply, Statement, is_lack, is_stale, letter_input, of_request, of_table, refused}
use Rattle.node_model.specs.RouterRequests.{heard, turn_after}
use Rattle.node_model.specs.RouterNext.{Next, awaited, is_bound, is_target, is_told, gives_up, knows, read_refused, refused_next, reply_to, run_with, stays, task_refused, write_refused}
use Rattle.node_model.specs.RouterRows.{IsLate, IsNoRefusal, goes_on, open_of, router_refused}
use Rattle.node_model.specs.States.{Course, Open, Router, Run, Telling, Wait, Work, for_catalogue, for_shards, for_time, reading, replaced, sharding, splitting, without, writing}
use Rattle.node_traits.specs.Effects.{puts_of}
use Rattle.node_traits.specs.declared.outputs.ToLink.{ToLink}
use Rattle.pipeline_model.specs.Stages.{Stage}
use Rattle.reply_model.specs.Outcomes.{lack_refusal}
use Rattle.router_node.specs.Goings.{MayGo}
use Rattle.router_node.specs.Rows.{TookRow}

-- WHETHER A REFUSAL HAS AN EFFECT DOES NOT DEPEND ON THE TIME

if_none : (b : Bool) (x y : Next) → ◌≡◌ {A = Option Next} (if b then None else Some x) None → ◌≡◌ {A = Option Next} (if b then None else Some y) None
if_none true x y is = refl
if_none false x y is = absurd (cc is)

if_some : (b : Bool) (x y : Next) → ◌≡◌ {A = Option Next} (if b then Some x else None) None → ◌≡◌ {A = Option Next} (if b then Some y else None) None
if_some true x y is = absurd (cc is)
if_some false x y is = refl

module _ (r : Router) (t u : ℕ) (q : Open) (sender turn first : ℕ) where
  run_none : (kind : WriteKind) (ordered : Bool) (statements : List Statement) (c : Course) (cause : Cause) (run : Run)
      → write_refused r t q cause kind ordered statements c run ≡ None → write_refused r u q cause kind ordered statements c run ≡ None
  run_none kind ordered statements c (is_stale met) run is = absurd (cc is)
  run_none kind ordered statements c (is_lack node lack) run is =
      if_none (is_bound ordered (run ∷ [])) (gives_up r t q kind ordered statements c (lack_refusal node lack) run.indices)
      (gives_up r u q kind ordered statements c (lack_refusal node lack) run.indices) is

  abbrev with_run : ℕ → WriteKind → Bool → List Statement → Course → Cause → Option Run → Option Next
  with_run time kind ordered statements c cause o = elim o [ None ↦ None | Some run ↦ write_refused r time q cause kind ordered statements c run ]

  writing_none : (kind : WriteKind) (ordered : Bool) (statements : List Statement) (c : Course) (cause : Cause) (o : Option Run)
      → with_run t kind ordered statements c cause o ≡ None → with_run u kind ordered statements c cause o ≡ None
  writing_none kind ordered statements c cause None is = refl
  writing_none kind ordered statements c cause (Some run) is = run_none kind ordered statements c cause run is

  task_none : (cause : Cause) → task_refused r t q turn first cause ≡ None → task_refused r u q turn first cause ≡ None
  task_none (is_stale met) is = refl
  task_none (is_lack node lack) is =
      if_some ((turn == 0) && (first == 0)) (is_told (reply_to r t q (refusal_answer (lack_refusal node lack)))) (is_told (reply_to r u q (refusal_answer (lack_refusal node lack)))) is

  told_none : (b : Bool) (cause : Cause) → ◌≡◌ {A = Option Next} (if b then None else task_refused r t q turn first cause) None
      → ◌≡◌ {A = Option Next} (if b then None else task_refused r u q turn first cause) None
  told_none true cause is = refl
  told_none false cause is = task_none cause is

  abbrev with_wait : ℕ → Bool → ℕ → List Stage → Telling → Cause → Wait → Option Next
  with_wait time named at stages telling cause wait = elim wait [
    | for_time ↦ if list_any (λ told. told == sender) q.told then None else task_refused r time q turn first cause
    | for_catalogue ↦ None
    | for_shards ↦
        if (turn == turn_after q.tries) && ((first == 0) && is_target sender (awaited q.targets q.parts))
        then Some (read_refused r time q cause named at stages telling) else None
  ]

  reading_none : (named : Bool) (at : ℕ) (stages : List Stage) (telling : Telling) (cause : Cause) (wait : Wait)
      → with_wait t named at stages telling cause wait ≡ None → with_wait u named at stages telling cause wait ≡ None
  reading_none named at stages telling cause for_time is = told_none (list_any (λ told. told == sender) q.told) cause is
  reading_none named at stages telling cause for_catalogue is = refl
  reading_none named at stages telling cause for_shards is =
      if_some ((turn == turn_after q.tries) && ((first == 0) && is_target sender (awaited q.targets q.parts))) (read_refused r t q cause named at stages telling)
      (read_refused r u q cause named at stages telling) is

  abbrev with_work_of : ℕ → Cause → Work → Option Next
  with_work_of time cause work = elim work [
    | writing kind ordered statements c ↦ with_run time kind ordered statements c cause (run_with turn first c c.runs)
    | reading named at stages telling ↦ with_wait time named at stages telling cause q.wait
    | sharding ↦ None
    | splitting middle ↦ task_refused r time q turn first cause
  ]

  work_none : (cause : Cause) (work : Work) → with_work_of t cause work ≡ None → with_work_of u cause work ≡ None
  work_none cause (writing kind ordered statements c) is = writing_none kind ordered statements c cause (run_with turn first c c.runs) is
  work_none cause (reading named at stages telling) is = reading_none named at stages telling cause q.wait is
  work_none cause sharding is = refl
  work_none cause (splitting middle) is = task_none cause is

  refused_none : (cause : Cause) → refused_next r t q sender turn first cause ≡ None → refused_next r u q sender turn first cause ≡ None
  refused_none cause is = work_none cause q.work is

-- LATE REFUSALS

module _ (r : Router) (m : Letter) where
  pub refused_of_none : (id : RequestId) (turn first : ℕ) (cause : Cause) → m.body ≡ refused (of_request id turn first) cause → open_of r id ≡ None → IsLate r m.sender m.body
  refused_of_none id turn first cause is none =
      subst (λ b. IsLate r m.sender b) (sym is) (subst (λ o. IsNoRefusal r r.time o m.sender turn first cause) (sym none) tt)

  pub refused_late : (id : RequestId) (turn first : ℕ) (cause : Cause) (q : Open) (time : ℕ) → m.body ≡ refused (of_request id turn first) cause → open_of r id ≡ Some q
      → refused_next r time q m.sender turn first cause ≡ None → IsLate r m.sender m.body
  refused_late id turn first cause q time is opened none =
      subst (λ b. IsLate r m.sender b) (sym is)
      (subst (λ o. IsNoRefusal r r.time o m.sender turn first cause) (sym opened) (refused_none r time r.time q m.sender turn first cause none))

  pub table_late : (namespace : List ℕ) (create : Bool) (at : At) (met : Version) → m.body ≡ refused (of_table namespace create at) (is_stale met) → IsLate r m.sender m.body
  table_late namespace create at met is = subst (λ b. IsLate r m.sender b) (sym is) tt

  -- WHAT BECOMES OF THE REQUEST

  pub refused_goes : (id : RequestId) (turn first : ℕ) (cause : Cause) (q : Open) (time : ℕ) (next : Next) → m.body ≡ refused (of_request id turn first) cause → open_of r id ≡ Some q → time ≡ heard r m
      → refused_next r time q m.sender turn first cause ≡ Some next → MayGo r m q next
  refused_goes id turn first cause q time next is opened late some =
      router_refused r m id turn first cause q next is opened (subst (λ (t : ℕ). refused_next r t q m.sender turn first cause ≡ Some next) late some)

  pub goes_told : (q : Open) (reply : Reply) (replies : List ToLink) → MayGo r m q (is_told reply) → replies ≡ puts_of (reply ∷ [])
      → TookRow r (letter_input m) [] replies (knows r (heard r m) r.tables (without q.count r.requests))
  goes_told q reply replies may told = record { effect = goes_on (is_told reply); row = may; written = refl; sent = refl; told = told }

  pub goes_stays : (q p : Open) (mail : List Letter) → MayGo r m q (stays p mail) → TookRow r (letter_input m) mail [] (knows r (heard r m) r.tables (replaced p r.requests))
  goes_stays q p mail may = record { effect = goes_on (stays p mail); row = may; written = refl; sent = refl; told = refl }
