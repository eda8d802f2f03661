-- What becomes of open writes, by the table that is known of their collection.
use Rattle.std.proofs.Common.{◌≡◌, ◌≢◌, refl, ap, sym, ◌∙◌, ℕ, List, [], ◌∷◌, ◌++◌, map, Bool, true, false, if◌then◌else◌}
use Rattle.std.proofs.lemmas.List.{map-append}
use Rattle.std.specs.Prelude.{Option}
use Rattle.base_model.specs.Identities.{RequestId}
use Rattle.chunk_model.specs.Tables.{Table}
use Rattle.command_model.specs.Writes.{WriteKind}
use Rattle.node_model.specs.Letters.{Letter, Statement, no_time, table_ask, write_ask}
use Rattle.node_model.specs.RouterNext as nexts
use Rattle.node_model.specs.RouterNext.{is_answered, is_told, reply_to, stays, with_work}
use Rattle.node_model.specs.RouterRequests.{asks_to_write, id_of, in_run, runs_by, says, turn_of, unsent, with_runs}
use Rattle.node_model.specs.States.{Course, Open, Router, Run, for_catalogue, for_shards, writing}
use Rattle.protocol_model.specs.Messages.{letter_of}
use Rattle.protocol_model.specs.declared.message.Message.{Message}
use Rattle.reply_model.specs.Outcomes.{answer_of, dones_from}
use Rattle.router_requests.specs.Nexts.{goes_by, write_by}

-- what runs request, one list after another
pub asks_joined : (r : Router) (time : ℕ) (id : RequestId) (namespace : List ℕ) (ordered : Bool) (statements : List Statement) (c : Course) (runs more : List Run)
    → asks_to_write r time id namespace ordered statements c (runs ++ more)
    ≡ asks_to_write r time id namespace ordered statements c runs ++ asks_to_write r time id namespace ordered statements c more
asks_joined r time id namespace ordered statements c runs more =
    map-append (λ (run : Run). says r run.shard time (write_ask id (turn_of c run) ordered namespace (in_run run statements) run.sent)) runs more

pub letters_appended : (old more new : List Message) → new ≡ old ++ more → map (λ m. letter_of m) new ≡ map (λ m. letter_of m) old ++ map (λ m. letter_of m) more
letters_appended old more new is = ap (λ (l : List Message). map (λ m. letter_of m) l) is ∙ map-append (λ m. letter_of m) old more

before_if : (b : Bool) (m : Letter) (letters : List Letter) → (if b then m ∷ [] else []) ++ letters ≡ (if b then m ∷ letters else letters)
before_if true m letters = refl
before_if false m letters = refl

module _ (r : Router) (time : ℕ) (asks : Bool) (q : Open) (kind : WriteKind) (ordered : Bool) (statements : List Statement) where
  -- by what is left to be sent
  abbrev goes_if : Course → List Letter → (left : List Statement) → nexts.Next
  goes_if c letters left = elim left [
    | [] ↦ stays (with_work q for_shards [] (writing kind ordered statements c)) letters
    | s ∷ rest ↦ stays (with_work q for_catalogue [] (writing kind ordered statements c)) (if asks then says r 0 time (table_ask q.namespace true no_time) ∷ letters else letters)
  ]

  -- nothing is left
  pub all_sent : (c : Course) (letters : List Letter) → unsent ordered statements c ≡ []
      → goes_by r time asks q kind ordered statements c letters ≡ stays (with_work q for_shards [] (writing kind ordered statements c)) letters
  all_sent c letters none = ap (λ (l : List Statement). goes_if c letters l) none

  some_left : (c : Course) (letters : List Letter) (left : List Statement) → left ≢ []
      → goes_if c letters left
      ≡ stays (with_work q for_catalogue [] (writing kind ordered statements c)) (if asks then says r 0 time (table_ask q.namespace true no_time) ∷ letters else letters)
  some_left c letters [] some = absurd (some refl)
  some_left c letters (s ∷ left) some = refl

  -- statements are left
  pub waits_for_table : (namespace : List ℕ) → q.namespace ≡ namespace → (c : Course) (letters mail : List Letter) → unsent ordered statements c ≢ []
      → mail ≡ (if asks then says r 0 time (table_ask namespace true no_time) ∷ [] else []) ++ letters
      → goes_by r time asks q kind ordered statements c letters ≡ stays (with_work q for_catalogue [] (writing kind ordered statements c)) mail
  waits_for_table namespace of c letters mail some asked =
      some_left c letters (unsent ordered statements c) some
      ∙ ap (λ (ls : List Letter). stays (with_work q for_catalogue [] (writing kind ordered statements c)) ls)
      (ap (λ (n : List ℕ). if asks then says r 0 time (table_ask n true no_time) ∷ letters else letters) of
      ∙ sym (asked ∙ before_if asks (says r 0 time (table_ask namespace true no_time)) letters))

  -- by whether it is answered
  abbrev written_if : Course → Course → List Letter → (answered : Bool) → nexts.Next
  written_if c d letters answered =
      if answered then is_told (reply_to r time q (answer_of kind time (dones_from 0 c.answers))) else goes_by r time asks q kind ordered statements d letters

  abbrev sent_of : Course → List Run → List Letter
  sent_of c runs = asks_to_write r time (id_of r q.count) q.namespace ordered statements c runs

  -- it is answered
  pub is_written : (known : Option Table) (rest : List Run) (c : Course) → is_answered ordered c.answers ≡ true
      → write_by r time known asks rest q kind ordered statements c ≡ is_told (reply_to r time q (answer_of kind time (dones_from 0 c.answers)))
  is_written known rest c answered =
      let d = with_runs c (runs_by ordered known statements c) in
      ap (λ (b : Bool). written_if c d (sent_of d (rest ++ runs_by ordered known statements c)) b) answered

  -- it is not, and what its table sends is sent
  pub goes_on : (count : ℕ) (namespace : List ℕ) → q.count ≡ count → q.namespace ≡ namespace → (known : Option Table) (rest : List Run) (c : Course) (more : List Run) (letters : List Letter)
      → is_answered ordered c.answers ≡ false → more ≡ runs_by ordered known statements c
      → letters ≡ asks_to_write r time (id_of r count) namespace ordered statements c rest ++ asks_to_write r time (id_of r count) namespace ordered statements c more
      → write_by r time known asks rest q kind ordered statements c ≡ goes_by r time asks q kind ordered statements (with_runs c more) letters
  goes_on count namespace same of known rest c more letters going is asked =
      ap (λ (m : List Run). written_if c (with_runs c m) (sent_of (with_runs c m) (rest ++ m)) (is_answered ordered c.answers)) (sym is)
      ∙ ap (λ (b : Bool). written_if c (with_runs c more) (sent_of (with_runs c more) (rest ++ more)) b) going
      ∙ ap (λ (ls : List Letter). goes_by r time asks q kind ordered statements (with_runs c more) ls)
      (ap (λ (n : ℕ). asks_to_write r time (id_of r n) q.namespace ordered statements c (rest ++ more)) same
      ∙ ap (λ (n : List ℕ). asks_to_write r time (id_of r count) n ordered statements c (rest ++ more)) of
      ∙ asks_joined r time (id_of r count) namespace ordered statements c rest more
      ∙ sym asked)
