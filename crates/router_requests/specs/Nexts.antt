-- What becomes of an open request, by what is known of its collection.
use Rattle.std.specs.Prelude.{ℕ, List, [], ◌∷◌, ◌++◌, map, not, ◌&&◌, Bool, true, false, Option, Some, None, is_some, nat_lt, if◌then◌else◌}
use Rattle.command_model.specs.Answers.{sharded_answer}
use Rattle.command_model.specs.Writes.{WriteKind}
use Rattle.command_replies.specs.AnswerMeanings.{answer_view}
use Rattle.node_model.specs.Letters.{At, Letter, Statement}
use Rattle.node_model.specs.RouterRequests.{asks_catalogue, asks_times, asks_to_read, asks_to_write, id_of, indices_of, runs_by, table_to_read, targets_at, turn_after, unanswered, unsent, with_runs}
use Rattle.node_model.specs.RouterNext as nexts
use Rattle.node_model.specs.RouterNext.{stays, is_told, asks_again, empty_answer, gives_up, is_bound, is_answered, is_for, reply_to, with_work}
use Rattle.node_model.specs.States as states
use Rattle.node_model.specs.States.{Course, Open, Router, Run, Work, for_catalogue, for_shards, for_time, reading, sharding, splitting, writing}
use Rattle.chunk_model.specs.Tables.{Table}
use Rattle.pipeline_model.specs.Split.{split}
use Rattle.pipeline_model.specs.Stages.{Stage}
use Rattle.protocol_model.specs.Messages.{letter_of}
use Rattle.read_parts.specs.Parts.{target_view}
use Rattle.reply_model.specs.Outcomes.{answer_of, dones_from, expired_refusal}
use Rattle.router_requests.specs.Fates.{runs_in, stay_of}
use Rattle.router_requests.specs.Works.{telling_view, wait_view}
use Rattle.router_requests.specs.declared.begins.Begun.{Begun}
use Rattle.router_requests.specs.declared.begins.Begun.TheVariants as begins
use Rattle.router_requests.specs.declared.reads.Sends.{Sends}
use Rattle.router_requests.specs.declared.next.Next.{Next}
use Rattle.router_requests.specs.declared.next.Next.TheVariants as next
use Rattle.router_requests.specs.declared.writes.WriteNext.{WriteNext}
use Rattle.router_requests.specs.declared.writes.WriteNext.TheVariants as writes
use Rattle.router_requests.specs.declared.writes.WriteSends.{WriteSends}
use Rattle.write_runs.specs.Runs.{runs_view}

-- BY A TABLE

-- a write that is not answered has come this far, and these messages are sent; where statements are left to be sent it waits for the catalogue, which is
-- asked if `asks`
abbrev pub goes_by : Router → ℕ → (asks : Bool) → Open → WriteKind → Bool → List Statement → Course → List Letter → nexts.Next
goes_by r time asks q kind ordered statements c letters =
    let work = writing kind ordered statements c in
    elim (unsent ordered statements c) [
      | [] ↦ stays (with_work q for_shards [] work) letters
      | s ∷ left ↦ stays (with_work q for_catalogue [] work) (if asks then asks_catalogue r time q.count q.namespace work ∷ letters else letters)
    ]

-- a write goes on by this table of its collection, if one is known; of the runs of which some statements are answered this is the rest
abbrev pub write_by : Router → ℕ → Option Table → (asks : Bool) → (rest : List Run) → Open → WriteKind → Bool → List Statement → Course → nexts.Next
write_by r time known asks rest q kind ordered statements c =
    let more = runs_by ordered known statements c in
    let d = with_runs c more in
    let letters = asks_to_write r time (id_of r q.count) q.namespace ordered statements d (rest ++ more) in
    if is_answered ordered c.answers then is_told (reply_to r time q (answer_of kind time (dones_from 0 c.answers)))
    else goes_by r time asks q kind ordered statements d letters

-- a read goes on by this table of its collection, if one is known
abbrev pub read_by : Router → ℕ → Option Table → (asks : Bool) → Open → (named : Bool) → (at : ℕ) → List Stage → states.Telling → nexts.Next
read_by r time known asks q named at stages telling =
    let work = reading named at stages telling in
    elim (table_to_read known at q.tries) [
      | None ↦ stays (with_work q for_catalogue [] work) (if asks then asks_catalogue r time q.count q.namespace work ∷ [] else [])
      | Some t ↦ stays (with_work q for_shards (targets_at t at stages) work)
          (asks_to_read r time (id_of r q.count) q.namespace (turn_after q.tries) at (split stages).0 (targets_at t at stages))
    ]

-- work begins by this table of its collection, if one is known
abbrev pub begins_by : Router → ℕ → Option Table → Open → Work → nexts.Next
begins_by r time known q (writing kind ordered statements c) = write_by r time known true [] q kind ordered statements c
begins_by r time known q (reading named at stages telling) =
    if nat_lt time at then stays (with_work q for_time [] (reading named at stages telling)) (asks_times r time (id_of r q.count) [])
    else read_by r time known true q named at stages telling
begins_by r time known q sharding = stays (with_work q for_catalogue [] sharding) (asks_catalogue r time q.count q.namespace sharding ∷ [])
begins_by r time known q (splitting middle) =
    stays (with_work q for_catalogue [] (splitting middle)) (asks_catalogue r time q.count q.namespace (splitting middle) ∷ [])

-- a table arrived, and this one is known of the collection of a write that waits for it
abbrev pub write_arrives : Router → ℕ → Option Table → Open → nexts.Next
write_arrives r time known q = elim q.work [
  | writing kind ordered statements c ↦ write_by r time known false [] q kind ordered statements c
  | reading named at stages telling ↦ stays q []
  | sharding ↦ stays q []
  | splitting middle ↦ stays q []
]

-- a table arrived for a time, and this one is known of the collection of a read that waits for it
abbrev pub read_arrives : Router → ℕ → Option Table → At → Open → nexts.Next
read_arrives r time known told q = elim q.work [
  | writing kind ordered statements c ↦ stays q []
  | reading named at stages telling ↦
      if is_for told at && not (is_some (table_to_read known at [])) then is_told (reply_to r time q (empty_answer q at telling))
      else read_by r time known false q named at stages telling
  | sharding ↦ stays q []
  | splitting middle ↦ stays q []
]

-- what becomes at a moment of a write whose time limit has passed
abbrev pub write_expires : Router → (time moment : ℕ) → Open → nexts.Next
write_expires r time moment q = elim q.work [
  | writing kind ordered statements c ↦
      if is_bound ordered c.runs then stays q (asks_again r time q)
      else gives_up r time q kind ordered statements c (expired_refusal q.arrived moment) (indices_of (unanswered statements c.answers))
  | reading named at stages telling ↦ stays q []
  | sharding ↦ stays q []
  | splitting middle ↦ stays q []
]

-- IN THE PROGRAM

-- the open request with this work, after it was sent
abbrev pub sent_open : Open → Work → Sends → Open
sent_open q work s = with_work q (wait_view s.wait) (map target_view s.targets.items) work

abbrev pub written_open : Open → Work → WriteSends → Open
written_open q work s = with_work q (wait_view s.wait) [] (runs_in work (runs_view s.runs.items))

-- what becomes of a write
abbrev pub write_next : Router → ℕ → Open → Work → WriteNext → nexts.Next
write_next r time q work (writes.GoesOn s) = stays (written_open q work s) (map letter_of s.mail.items)
write_next r time q work (writes.IsWritten answer) = is_told (reply_to r time q (answer_view answer))

abbrev pub read_next : Open → Work → Sends → nexts.Next
read_next q work s = stays (sent_open q work s) (map letter_of s.mail.items)

-- what becomes of work that begins
abbrev pub begun_next : Router → ℕ → Open → Work → Begun → nexts.Next
begun_next r time q work (begins.Waits s) = read_next q work s
begun_next r time q work (begins.Writes w) = write_next r time q work w

-- what becomes of an open request
abbrev pub next_view : Router → ℕ → Open → Next → nexts.Next
next_view r time q (next.Stays stay mail) = stays (stay_of q stay) (map letter_of mail.items)
next_view r time q (next.IsTold answer) = is_told (reply_to r time q (answer_view answer))
next_view r time q (next.IsEmpty at telling) = is_told (reply_to r time q (empty_answer q at.0 (telling_view telling)))
next_view r time q next.IsSharded = is_told (reply_to r time q (sharded_answer q.namespace time))
