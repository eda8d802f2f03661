-- What becomes of open requests, by what the program finds of them.
use Rattle.std.proofs.Common.{Global, ◌≡◌, refl, ap, sym, subst, ◌∙◌, ℕ, ◌≤◌, List, [], Bool, true, if◌then◌else◌}
use Rattle.std.proofs.lemmas.Bool.{le-ltb}
use Rattle.std.specs.Prelude.{Option, Some, None}
use Rattle.std.specs.Option.{option_map}
use Rattle.std.specs.declared.vec.Vec.{Vec}
use Rattle.chunk_model.specs.Tables.{Table, table_of}
use Rattle.base_model.specs.Identities.{RequestId}
use Rattle.base_model.specs.Refusals.{Refusal}
use Rattle.command_replies.specs.Kinds.{kind_view}
use Rattle.node_model.specs.Letters.{At, Cause}
use Rattle.node_model.specs.RouterNext as nexts
use Rattle.node_model.specs.RouterNext.{stays, at_moment, begins_work, left_of, next_of, read_on, refused_next, served_in_part, table_refused, with_work}
use Rattle.node_model.specs.RouterRequests.{asks_times, id_of}
use Rattle.node_model.specs.States as states
use Rattle.node_model.specs.States.{Open, Router, Telling, Work, for_time, reading}
use Rattle.pipeline_model.specs.Stages.{Stage}
use Rattle.protocol_model.specs.Tables.{at_view}
use Rattle.protocol_model.specs.declared.refused.Try.{Try}
use Rattle.protocol_model.specs.declared.statement.StatementOutcome.{StatementOutcome}
use Rattle.protocol_model.specs.declared.tables.TableTold.{TableTold}
use Rattle.router_requests.proofs.Alike.{begins_alike, begun_next_alike, moment_alike, next_alike, next_view_alike, read_alike, refused_alike, table_refused_alike, write_alike, write_next_alike}
use Rattle.router_requests.proofs.ByTables.{begins_known, read_known, write_known}
use Rattle.router_requests.specs.Askers.{asking, knowing}
use Rattle.router_requests.specs.Nexts.{begins_by, begun_next, next_view, read_by, read_next, write_by, write_next}
use Rattle.router_requests.specs.Works.{open_view, read_at, stages_of, statements_of, telling_view, work_of}
use Rattle.router_requests.specs.declared.begins.Begun.{Begun}
use Rattle.router_requests.specs.declared.reads.Sends.{Sends}
use Rattle.router_requests.specs.declared.read.OpenRead.{OpenRead}
use Rattle.router_requests.specs.declared.next.Next.{Next}
use Rattle.router_requests.specs.declared.work.OpenRequest.{OpenRequest}
use Rattle.router_requests.specs.declared.write.OpenWrite.{OpenWrite}
use Rattle.router_requests.specs.declared.writes.WriteNext.{WriteNext}
use Rattle.router_requests.specs.declared.writes.WriteNext.TheVariants.{GoesOn, IsWritten}
use Rattle.write_runs.specs.Runs.{all_tries_view, answers_view, course_view, runs_view}
use Rattle.write_runs.specs.declared.run.Run.{Run}
use Rattle.router_node.specs.News.{next_noted}
use Rattle.router_node.specs.Nexts.{made_by, next_at, tables_told}

module _ (r a : Router) (time : ℕ) (same : a ≡ asking r.me r.shards r.life) where
  -- work that begins
  pub begins_so : (q : Open) (count : ℕ) (work : RequestId → Work) (known : Option Table) (begun : Begun) → known ≡ table_of q.namespace r.tables
      → begins_by a time known q (work (id_of a count)) ≡ begun_next a time q (work (id_of a count)) begun
      → begins_work r time q (work (id_of r count)) ≡ begun_next r time q (work (id_of r count)) begun
  begins_so q count work known begun is next =
      begins_known r time q (work (id_of r count))
      ∙ ap (λ (o : Option Table). begins_by r time o q (work (id_of r count))) (sym is)
      ∙ sym (begins_alike r time known q (work (id_of r count)))
      ∙ subst (λ (x : Router). begins_by x time known q (work (id_of x count)) ≡ begun_next x time q (work (id_of x count)) begun) same next
      ∙ begun_next_alike r time q (work (id_of r count)) begun

  -- an open request after a table arrives
  pub learns_so : (told : TableTold) (request : OpenRequest) (made : Bool) (next : Next) → made ≡ made_by told
      → next_of a time (tables_told told r.tables) told.namespace made (at_view told.at) (open_view a.me a.life request) ≡ next_view a time (open_view a.me a.life request) next
      → next_at r time told (open_view r.me r.life request) ≡ next_view r time (open_view r.me r.life request) next
  learns_so told request made next is found =
      let q = open_view r.me r.life request in
      ap (λ (b : Bool). next_of r time (tables_told told r.tables) told.namespace b (at_view told.at) q) (sym is)
      ∙ sym (next_alike r time (tables_told told r.tables) told.namespace made (at_view told.at) q)
      ∙ subst (λ (x : Router). next_of x time (tables_told told r.tables) told.namespace made (at_view told.at) (open_view x.me x.life request)
      ≡ next_view x time (open_view x.me x.life request) next) same found
      ∙ next_view_alike r time q next

  -- an open request of which something that was sent is refused
  viewed : (q : Open) (found : Option Next) → option_map (λ n. next_view (asking r.me r.shards r.life) time q n) found ≡ option_map (λ n. next_view r time q n) found
  viewed q None = refl
  viewed q (Some n) = ap (λ (x : nexts.Next). Some x) (next_view_alike r time q n)

  pub refused_so : (request : OpenRequest) (sender turn first : ℕ) (cause : Cause) (found : Option Next)
      → refused_next (knowing r.tables a) time (open_view a.me a.life request) sender turn first cause ≡ option_map (λ n. next_view a time (open_view a.me a.life request) n) found
      → refused_next r time (open_view r.me r.life request) sender turn first cause ≡ option_map (λ n. next_view r time (open_view r.me r.life request) n) found
  refused_so request sender turn first cause found is =
      let q = open_view r.me r.life request in
      sym (refused_alike r time q sender turn first cause)
      ∙ subst (λ (x : Router). refused_next (knowing r.tables x) time (open_view x.me x.life request) sender turn first cause
      ≡ option_map (λ n. next_view x time (open_view x.me x.life request) n) found) same is
      ∙ viewed q found

  -- one after the request for a table was refused
  pub without_so : (namespace : List ℕ) (create : Bool) (at : At) (refusal : Refusal) (request : OpenRequest) (next : Next)
      → table_refused (knowing r.tables a) time namespace create at refusal (open_view a.me a.life request) ≡ next_view a time (open_view a.me a.life request) next
      → table_refused r time namespace create at refusal (open_view r.me r.life request) ≡ next_view r time (open_view r.me r.life request) next
  without_so namespace create at refusal request next found =
      let q = open_view r.me r.life request in
      sym (table_refused_alike r time namespace create at refusal q)
      ∙ subst (λ (x : Router). table_refused (knowing r.tables x) time namespace create at refusal (open_view x.me x.life request)
      ≡ next_view x time (open_view x.me x.life request) next) same found
      ∙ next_view_alike r time q next

  -- one at a moment
  pub moment_so : (moment : ℕ) (request : OpenRequest) (next : Next)
      → at_moment (knowing r.tables a) time moment (open_view a.me a.life request) ≡ next_view a time (open_view a.me a.life request) next
      → at_moment r time moment (open_view r.me r.life request) ≡ next_view r time (open_view r.me r.life request) next
  moment_so moment request next found =
      let q = open_view r.me r.life request in
      sym (moment_alike r time moment q)
      ∙ subst (λ (x : Router). at_moment (knowing r.tables x) time moment (open_view x.me x.life request) ≡ next_view x time (open_view x.me x.life request) next) same found
      ∙ next_view_alike r time q next

  -- what becomes of a write does not depend on what was under way before
  runs_other : (q : Open) (id : RequestId) (write : OpenWrite) (answers : List (Option StatementOutcome)) (tries : List (Vec Try Global)) (runs others : List Run) (next : WriteNext)
      → write_next r time q (work_of id write (course_view answers tries runs)) next ≡ write_next r time q (work_of id write (course_view answers tries others)) next
  runs_other q id write answers tries runs others (GoesOn s) = refl
  runs_other q id write answers tries runs others (IsWritten answer) = refl

  -- an open write that has these answers
  pub notes_on : (q : Open) (write : OpenWrite) (answers : List (Option StatementOutcome)) (rest left : List Run) (known : Option Table) (next : WriteNext) → known ≡ table_of q.namespace r.tables
      → runs_view rest ≡ left_of (answers_view answers) (served_in_part (answers_view answers) (runs_view write.runs.items))
      → runs_view left ≡ left_of (answers_view answers) (runs_view write.runs.items)
      → write_by a time known write.ordered (runs_view rest) q (kind_view write.kind) write.ordered (statements_of (id_of a q.count) write) (course_view answers write.tries.items left)
      ≡ write_next a time q (work_of (id_of a q.count) write (course_view answers write.tries.items left)) next
      → next_noted r time q write answers ≡ write_next r time q (work_of (id_of r q.count) write (course_view answers write.tries.items write.runs.items)) next
  notes_on q write answers rest left known next is again kept found =
      let kind = kind_view write.kind in
      let statements = statements_of (id_of r q.count) write in
      let now = answers_view answers in
      let tries = all_tries_view write.tries.items in
      let served = served_in_part now (runs_view write.runs.items) in
      write_known r time r.tables write.ordered served q kind write.ordered statements (record { answers = now; tries = tries; runs = left_of now (runs_view write.runs.items) })
      ∙ ap (λ (o : Option Table). write_by r time o write.ordered (left_of now served) q kind write.ordered statements (record { answers = now; tries = tries; runs = left_of now (runs_view write.runs.items) })) (sym is)
      ∙ ap (λ (runs : List states.Run). write_by r time known write.ordered runs q kind write.ordered statements (record { answers = now; tries = tries; runs = left_of now (runs_view write.runs.items) })) (sym again)
      ∙ ap (λ (runs : List states.Run). write_by r time known write.ordered (runs_view rest) q kind write.ordered statements (record { answers = now; tries = tries; runs = runs })) (sym kept)
      ∙ sym (write_alike r time known write.ordered (runs_view rest) q kind write.ordered statements (course_view answers write.tries.items left))
      ∙ subst (λ (x : Router). write_by x time known write.ordered (runs_view rest) q kind write.ordered (statements_of (id_of x q.count) write) (course_view answers write.tries.items left)
      ≡ write_next x time q (work_of (id_of x q.count) write (course_view answers write.tries.items left)) next) same found
      ∙ write_next_alike r time q (work_of (id_of r q.count) write (course_view answers write.tries.items left)) next
      ∙ runs_other q (id_of r q.count) write answers write.tries.items left write.runs.items next

  -- a read of a time that is reached
  begins_at : (q : Open) (named : Bool) (at : ℕ) (stages : List Stage) (telling : Telling) → at ≤ time
      → begins_work r time q (reading named at stages telling) ≡ read_on r time r.tables true q named at stages telling
  begins_at q named at stages telling come =
      ap (λ (b : Bool). if b then stays (with_work q for_time [] (reading named at stages telling)) (asks_times r time (id_of r q.count) []) else read_on r time r.tables true q named at stages telling)
      (le-ltb time at come)

  pub reads_on : (q : Open) (read : OpenRead) (at : ℕ) (work : Work) (known : Option Table) (s : Sends) → known ≡ table_of q.namespace r.tables → at ≤ time → read_at read at ≡ work
      → read_by a time known true q read.named at (stages_of read.parts) (telling_view read.telling) ≡ read_next q (read_at read at) s
      → begins_work r time q work ≡ read_next q work s
  reads_on q read at work known s is come reads found =
      subst (λ (w : Work). begins_work r time q w ≡ read_next q w s) reads
      (begins_at q read.named at (stages_of read.parts) (telling_view read.telling) come
      ∙ read_known r time r.tables true q read.named at (stages_of read.parts) (telling_view read.telling)
      ∙ ap (λ (o : Option Table). read_by r time o true q read.named at (stages_of read.parts) (telling_view read.telling)) (sym is)
      ∙ sym (read_alike r time known true q read.named at (stages_of read.parts) (telling_view read.telling))
      ∙ subst (λ (x : Router). read_by x time known true q read.named at (stages_of read.parts) (telling_view read.telling) ≡ read_next q (read_at read at) s) same found)
