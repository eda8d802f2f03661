-- What becomes of open requests does not depend on what else a router knows: its number, how many shards there are, and its life decide.
use Rattle.std.proofs.Common.{◌≡◌, refl, ap, ℕ, List, [], ◌∷◌, map, Bool, if◌then◌else◌}
use Rattle.std.specs.Prelude.{Option, Some, None, not}
use Rattle.chunk_model.specs.Tables.{Table}
use Rattle.command_model.specs.Answers.{refusal_answer}
use Rattle.command_model.specs.Writes.{WriteKind}
use Rattle.node_model.specs.Letters.{At, Cause, is_stale, is_lack, Letter, Statement}
use Rattle.node_model.specs.RouterNext as nexts
use Rattle.node_model.specs.RouterNext.{awaited, gives_up, is_bound, is_expired, is_for_catalogue, is_told, reply_to, stays}
use Rattle.node_model.specs.RouterRequests.{asks_catalogue, asks_times, asks_to_read, asks_to_write, id_of, indices_of, turn_after, unanswered}
use Rattle.node_model.specs.States.{Course, Open, Router, Run, Telling, Work, for_catalogue, for_shards, for_time, reading, sharding, splitting, writing}
use Rattle.node_traits.specs.Lists.{listed}
use Rattle.pipeline_model.specs.Split.{split}
use Rattle.pipeline_model.specs.Stages.{Stage}
use Rattle.protocol_model.specs.Messages.{letter_of}
use Rattle.protocol_model.specs.declared.message.Message.{Message}
use Rattle.reply_model.specs.Outcomes.{expired_refusal}
use Rattle.reply_model.specs.Refusals.{Refusal}
use Rattle.router_requests.specs.Askers.{asking, knowing, letters_of}
use Rattle.router_requests.specs.Nexts.{begins_by, begun_next, next_view, read_arrives, read_by, write_arrives, write_by, write_next}
use Rattle.router_requests.specs.declared.begins.Begun.{Begun}
use Rattle.router_requests.specs.declared.begins.Begun.TheVariants as begins
use Rattle.router_requests.specs.declared.next.Next.{Next}
use Rattle.router_requests.specs.declared.next.Next.TheVariants as next
use Rattle.router_requests.specs.declared.writes.WriteNext.{WriteNext}
use Rattle.router_requests.specs.declared.writes.WriteNext.TheVariants as writes

-- the message of an optional message
pub letters_listed : (o : Option Message) → map (λ m. letter_of m) (listed o) ≡ letters_of o
letters_listed None = refl
letters_listed (Some m) = refl

-- what an open request sends again, where this is what it asks of the catalogue
abbrev again_with : Router → ℕ → Open → Letter → Work → List Letter
again_with r time q ask work = elim work [
  | writing kind ordered statements c ↦
      let letters = asks_to_write r time (id_of r q.count) q.namespace ordered statements c c.runs in
      if is_for_catalogue q.wait then ask ∷ letters else letters
  | reading named at stages telling ↦ elim q.wait [
    | for_time ↦ asks_times r time (id_of r q.count) q.told
    | for_catalogue ↦ ask ∷ []
    | for_shards ↦ asks_to_read r time (id_of r q.count) q.namespace (turn_after q.tries) at (split stages).0 (awaited q.targets q.parts)
  ]
  | sharding ↦ ask ∷ []
  | splitting middle ↦ ask ∷ []
]

-- what becomes of an open request at a moment, where these messages are those that it sends again
abbrev moment_with : Router → (time moment : ℕ) → Open → List Letter → nexts.Next
moment_with r time moment q letters = if not (is_expired q moment) then stays q letters else elim q.work [
  | writing kind ordered statements c ↦
      if is_bound ordered c.runs then stays q letters
      else gives_up r time q kind ordered statements c (expired_refusal q.arrived moment) (indices_of (unanswered statements c.answers))
  | reading named at stages telling ↦ is_told (reply_to r time q (refusal_answer (expired_refusal q.arrived moment)))
  | sharding ↦ is_told (reply_to r time q (refusal_answer (expired_refusal q.arrived moment)))
  | splitting middle ↦ is_told (reply_to r time q (refusal_answer (expired_refusal q.arrived moment)))
]

module _ (r : Router) (time : ℕ) where
  -- WHAT IS REQUESTED

  pub catalogue_alike : (count : ℕ) (namespace : List ℕ) (work : Work)
      → asks_catalogue (asking r.me r.shards r.life) time count namespace work ≡ asks_catalogue r time count namespace work
  catalogue_alike count namespace (writing kind ordered statements c) = refl
  catalogue_alike count namespace (reading named at stages telling) = refl
  catalogue_alike count namespace sharding = refl
  catalogue_alike count namespace (splitting middle) = refl

  pub times_alike : (count : ℕ) (told : List ℕ)
      → asks_times (asking r.me r.shards r.life) time (id_of (asking r.me r.shards r.life) count) told ≡ asks_times r time (id_of r count) told
  times_alike count told = refl

  pub writes_alike : (count : ℕ) (namespace : List ℕ) (ordered : Bool) (statements : List Statement) (c : Course) (runs : List Run)
      → asks_to_write (asking r.me r.shards r.life) time (id_of (asking r.me r.shards r.life) count) namespace ordered statements c runs
      ≡ asks_to_write r time (id_of r count) namespace ordered statements c runs
  writes_alike count namespace ordered statements c runs = refl

  pub again_alike : (q : Open) → nexts.asks_again (asking r.me r.shards r.life) time q ≡ nexts.asks_again r time q
  again_alike q = ap (λ (m : Letter). again_with r time q m q.work) (catalogue_alike q.count q.namespace q.work)

  -- BY A TABLE

  pub write_alike : (known : Option Table) (asks : Bool) (rest : List Run) (q : Open) (kind : WriteKind) (ordered : Bool) (statements : List Statement) (c : Course)
      → write_by (asking r.me r.shards r.life) time known asks rest q kind ordered statements c ≡ write_by r time known asks rest q kind ordered statements c
  write_alike known asks rest q kind ordered statements c = refl

  pub read_alike : (known : Option Table) (asks : Bool) (q : Open) (named : Bool) (at : ℕ) (stages : List Stage) (telling : Telling)
      → read_by (asking r.me r.shards r.life) time known asks q named at stages telling ≡ read_by r time known asks q named at stages telling
  read_alike known asks q named at stages telling = refl

  pub begins_alike : (known : Option Table) (q : Open) (work : Work) → begins_by (asking r.me r.shards r.life) time known q work ≡ begins_by r time known q work
  begins_alike known q (writing kind ordered statements c) = refl
  begins_alike known q (reading named at stages telling) = refl
  begins_alike known q sharding = refl
  begins_alike known q (splitting middle) = refl

  pub arrives_alike : (known : Option Table) (told : At) (q : Open) → read_arrives (asking r.me r.shards r.life) time known told q ≡ read_arrives r time known told q
  arrives_alike known told q = refl

  pub write_arrives_alike : (known : Option Table) (q : Open) → write_arrives (asking r.me r.shards r.life) time known q ≡ write_arrives r time known q
  write_arrives_alike known q = refl

  pub next_alike : (tables : List Table) (namespace : List ℕ) (made : Bool) (told : At) (q : Open)
      → nexts.next_of (asking r.me r.shards r.life) time tables namespace made told q ≡ nexts.next_of r time tables namespace made told q
  next_alike tables namespace made told q = refl

  -- BY THE TABLES THAT ARE KNOWN

  pub refused_alike : (q : Open) (sender turn first : ℕ) (cause : Cause)
      → nexts.refused_next (knowing r.tables (asking r.me r.shards r.life)) time q sender turn first cause ≡ nexts.refused_next r time q sender turn first cause
  refused_alike q sender turn first (is_stale met) = refl
  refused_alike q sender turn first (is_lack node lack) = refl

  pub table_refused_alike : (namespace : List ℕ) (create : Bool) (at : At) (refusal : Refusal) (q : Open)
      → nexts.table_refused (knowing r.tables (asking r.me r.shards r.life)) time namespace create at refusal q ≡ nexts.table_refused r time namespace create at refusal q
  table_refused_alike namespace create at refusal q = refl

  pub moment_alike : (moment : ℕ) (q : Open) → nexts.at_moment (knowing r.tables (asking r.me r.shards r.life)) time moment q ≡ nexts.at_moment r time moment q
  moment_alike moment q = ap (λ (letters : List Letter). moment_with r time moment q letters) (again_alike q)

  -- IN THE PROGRAM

  pub write_next_alike : (q : Open) (work : Work) (w : WriteNext) → write_next (asking r.me r.shards r.life) time q work w ≡ write_next r time q work w
  write_next_alike q work (writes.GoesOn s) = refl
  write_next_alike q work (writes.IsWritten answer) = refl

  pub begun_next_alike : (q : Open) (work : Work) (b : Begun) → begun_next (asking r.me r.shards r.life) time q work b ≡ begun_next r time q work b
  begun_next_alike q work (begins.Waits s) = refl
  begun_next_alike q work (begins.Writes w) = write_next_alike q work w

  pub next_view_alike : (q : Open) (n : Next) → next_view (asking r.me r.shards r.life) time q n ≡ next_view r time q n
  next_view_alike q (next.Stays stay mail) = refl
  next_view_alike q (next.IsTold answer) = refl
  next_view_alike q (next.IsEmpty at telling) = refl
  next_view_alike q next.IsSharded = refl
