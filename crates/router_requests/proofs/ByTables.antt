-- What becomes of open requests is said by the table that is known of their collection.
use Rattle.std.proofs.Common.{◌≡◌, refl, ap, sym, ◌∙◌, ℕ, List, [], Bool, true, false, ◌&&◌, if◌then◌else◌}
use Rattle.std.proofs.lemmas.Slice.Eq.{bytes_eq-Decides}
use Rattle.std.specs.Prelude.{Option, is_some, not}
use Rattle.std.specs.Str.{bytes_eq}
use Rattle.bson_model.proofs.Booleans.{both}
use Rattle.chunk_model.specs.Tables.{Table, table_of}
use Rattle.command_model.specs.Answers.{sharded_answer}
use Rattle.command_model.specs.Writes.{WriteKind}
use Rattle.node_model.specs.Letters.{At, Statement}
use Rattle.node_model.specs.RouterNext as nexts
use Rattle.node_model.specs.RouterNext.{empty_answer, is_for, is_for_catalogue, is_told, left_of, reply_to, stays}
use Rattle.node_model.specs.RouterRequests.{table_to_read}
use Rattle.node_model.specs.States.{Course, Open, Router, Run, Telling, Work, reading, sharding, splitting, writing}
use Rattle.pipeline_model.specs.Stages.{Stage}
use Rattle.reply_model.specs.Tree.{Datum}
use Rattle.router_requests.specs.Nexts.{begins_by, read_arrives, read_by, write_arrives, write_by}

pub write_known : (r : Router) (time : ℕ) (tables : List Table) (asks : Bool) (again : List Run) (q : Open) (kind : WriteKind) (ordered : Bool) (statements : List Statement) (c : Course)
    → nexts.write_on r time tables asks again q kind ordered statements c
    ≡ write_by r time (table_of q.namespace tables) asks (left_of c.answers again) q kind ordered statements c
write_known r time tables asks again q kind ordered statements c = refl

pub read_known : (r : Router) (time : ℕ) (tables : List Table) (asks : Bool) (q : Open) (named : Bool) (at : ℕ) (stages : List Stage) (telling : Telling)
    → nexts.read_on r time tables asks q named at stages telling ≡ read_by r time (table_of q.namespace tables) asks q named at stages telling
read_known r time tables asks q named at stages telling = refl

pub begins_known : (r : Router) (time : ℕ) (q : Open) (work : Work) → nexts.begins_work r time q work ≡ begins_by r time (table_of q.namespace r.tables) q work
begins_known r time q (writing kind ordered statements c) = refl
begins_known r time q (reading named at stages telling) = refl
begins_known r time q sharding = refl
begins_known r time q (splitting middle) = refl

-- what becomes of a request by what it has to do, if it waits for the table
abbrev next_if : Router → ℕ → Option Table → (made : Bool) → At → Open → (waits : Bool) → Work → nexts.Next
next_if r time known made told q waits work = if not waits then stays q [] else elim work [
  | writing kind ordered statements c ↦ write_by r time known false [] q kind ordered statements c
  | reading named at stages telling ↦
      if is_for told at && not (is_some (table_to_read known at [])) then is_told (reply_to r time q (empty_answer q at telling))
      else read_by r time known false q named at stages telling
  | sharding ↦ if made then is_told (reply_to r time q (sharded_answer q.namespace time)) else stays q []
  | splitting middle ↦ stays q []
]

abbrev arrives_if : Router → ℕ → Option Table → At → Open → Work → nexts.Next
arrives_if r time known told q work = elim work [
  | writing kind ordered statements c ↦ stays q []
  | reading named at stages telling ↦
      if is_for told at && not (is_some (table_to_read known at [])) then is_told (reply_to r time q (empty_answer q at telling))
      else read_by r time known false q named at stages telling
  | sharding ↦ stays q []
  | splitting middle ↦ stays q []
]

abbrev writes_if : Router → ℕ → Option Table → Open → Work → nexts.Next
writes_if r time known q work = elim work [
  | writing kind ordered statements c ↦ write_by r time known false [] q kind ordered statements c
  | reading named at stages telling ↦ stays q []
  | sharding ↦ stays q []
  | splitting middle ↦ stays q []
]

module _ (r : Router) (time : ℕ) (tables : List Table) (namespace : List ℕ) (made : Bool) (told : At) (q : Open) where
  -- a request that does not wait for the table of this collection stays as it is
  pub next_other : (is_for_catalogue q.wait && bytes_eq q.namespace namespace) ≡ false → nexts.next_of r time tables namespace made told q ≡ stays q []
  next_other misses = ap (λ (b : Bool). next_if r time (table_of q.namespace tables) made told q b q.work) misses

  -- one that does, by what it has to do
  module _ (known : Option Table) (is : table_of namespace tables ≡ known) (meets : (is_for_catalogue q.wait && bytes_eq q.namespace namespace) ≡ true) where
    waiting : (work : Work) → q.work ≡ work → nexts.next_of r time tables namespace made told q ≡ next_if r time known made told q true work
    waiting work has =
        ap (λ (b : Bool). next_if r time (table_of q.namespace tables) made told q b q.work) meets
        ∙ ap (λ (n : List ℕ). next_if r time (table_of n tables) made told q true q.work)
        ((bytes_eq-Decides q.namespace namespace).0 (both (is_for_catalogue q.wait) (bytes_eq q.namespace namespace) meets).1)
        ∙ ap (λ (o : Option Table). next_if r time o made told q true q.work) is
        ∙ ap (λ (w : Work). next_if r time known made told q true w) has

    pub next_write : (kind : WriteKind) (ordered : Bool) (statements : List Statement) (c : Course) → q.work ≡ writing kind ordered statements c
        → nexts.next_of r time tables namespace made told q ≡ write_arrives r time known q
    next_write kind ordered statements c has = waiting (writing kind ordered statements c) has ∙ sym (ap (λ (w : Work). writes_if r time known q w) has)

    pub next_read : (named : Bool) (at : ℕ) (stages : List Stage) (telling : Telling) → q.work ≡ reading named at stages telling
        → nexts.next_of r time tables namespace made told q ≡ read_arrives r time known told q
    next_read named at stages telling has =
        waiting (reading named at stages telling) has ∙ sym (ap (λ (w : Work). arrives_if r time known told q w) has)

    pub next_sharding : q.work ≡ sharding
        → nexts.next_of r time tables namespace made told q ≡ (if made then is_told (reply_to r time q (sharded_answer q.namespace time)) else stays q [])
    next_sharding has = waiting sharding has

    pub next_splitting : (middle : Datum) → q.work ≡ splitting middle → nexts.next_of r time tables namespace made told q ≡ stays q []
    next_splitting middle has = waiting (splitting middle) has

-- a write goes on by the table
pub write_arrives_is : (r : Router) (time : ℕ) (known : Option Table) (q : Open) (kind : WriteKind) (ordered : Bool) (statements : List Statement) (c : Course) → q.work ≡ writing kind ordered statements c
    → write_arrives r time known q ≡ write_by r time known false [] q kind ordered statements c
write_arrives_is r time known q kind ordered statements c has = ap (λ (w : Work). writes_if r time known q w) has

-- a read at a time that no table says who owned what it reads: nothing is there, where the answer has that time
pub arrives_at : (r : Router) (time : ℕ) (known : Option Table) (told : At) (q : Open) (named : Bool) (at : ℕ) (stages : List Stage) (telling : Telling) → q.work ≡ reading named at stages telling
    → read_arrives r time known told q
    ≡ (if is_for told at && not (is_some (table_to_read known at [])) then is_told (reply_to r time q (empty_answer q at telling))
    else read_by r time known false q named at stages telling)
arrives_at r time known told q named at stages telling has = ap (λ (w : Work). arrives_if r time known told q w) has
