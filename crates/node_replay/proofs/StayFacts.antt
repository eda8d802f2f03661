-- Facts of nodes, messages and replies that stay true where nodes stop: they speak of what is stored and of what was requested, and not of
-- the times of nodes.
use Rattle.std.proofs.Common.{◌≡◌, ℕ, ◌<◌, ◌≤◌, List}
use Rattle.std.specs.Prelude.{Ok, true, length}
use Rattle.std.specs.List.{AllByRecursion}
use Rattle.value_model.specs.Keys.{is_key}
use Rattle.base_model.specs.Identities.{RequestId}
use Rattle.command_model.specs.Command.{write_command, split_command, command_of}
use Rattle.command_model.specs.Writes.{WriteCommand}
use Rattle.chunk_model.specs.Tables.{first_shard}
use Rattle.history_model.proofs.Lists.{all_weaken}
use Rattle.history_model.specs.History.{StatementNumber, Entry, IsIn}
use Rattle.reply_model.specs.Exchanges.{Asked, Answered, number_for}
use Rattle.reply_model.specs.Outcomes.{StatementOutcome, Done, dones_from}
use Rattle.reply_model.specs.Requests.{Request}
use Rattle.node_model.specs.Journal.{Kept, entries_kept, changes_kept}
use Rattle.node_model.specs.Letters.{Statement, Body, table_ask, table_told, split_ask, split_done, write_ask, write_done, read_ask, half_ask, read_rows, refused, time_ask, time_told, Letter}
use Rattle.node_model.specs.RouterRequests.{statements_from}
use Rattle.node_model.specs.States.{Catalogue, Shard, Router, Work, writing, reading, sharding, splitting, Open, NodeState, catalogue_state, shard_state, router_state}
use Rattle.node_model.specs.World.{Held}
use Rattle.node_laws.proofs.Facts.{IsBy}
use Rattle.node_replay.specs.Histories.{HasKey}
use Rattle.node_replay.specs.Replays.{records_of}
use Rattle.node_replay.proofs.Noted.{IsPrefix}
use Rattle.node_replay.proofs.NextOnes.{OneNext}
use Rattle.node_replay.specs.Acknowledged.{IsOutcomeOf, of_entry, of_greater, of_none, IsOutcomeAt, IsAcknowledged, IsStored}

-- STATEMENTS AND OUTCOMES

-- these statements are some of a write that a request asked for
pub record AreSent (asked : List Asked) (id : RequestId) (namespace : List ℕ) (statements : List Statement) : Type 0 where
  pub request : Asked
  pub write : WriteCommand
  pub taken : IsIn request asked
  pub own : request.id ≡ id
  pub asks : command_of request.request ≡ Ok (write_command write)
  pub name : namespace ≡ write.namespace
  pub each : AllByRecursion (λ s. IsIn s (statements_from write.number id 0 write.operations)) statements

-- these outcomes are of statements of a write that a request asked for
pub record AreDone (asked : List Asked) (history : List Entry) (id : RequestId) (dones : List Done) : Type 0 where
  pub request : Asked
  pub write : WriteCommand
  pub taken : IsIn request asked
  pub own : request.id ≡ id
  pub asks : command_of request.request ≡ Ok (write_command write)
  pub each : AllByRecursion (IsOutcomeAt history write id) dones

-- MESSAGES

abbrev pub BodyStays : List Asked → List Entry → Body → Type 0
BodyStays asked history (write_ask id turn ordered namespace statements sent) = AreSent asked id namespace statements
BodyStays asked history (write_done id dones) = AreDone asked history id dones
BodyStays asked history (split_ask id namespace middle) = is_key middle ≡ true
BodyStays asked history (table_ask namespace create at) = Unit {0}
BodyStays asked history (table_told namespace create at table) = Unit {0}
BodyStays asked history (split_done id found) = Unit {0}
BodyStays asked history (read_ask id turn namespace at half sent) = Unit {0}
BodyStays asked history (half_ask id turn namespace at half documents) = Unit {0}
BodyStays asked history (read_rows id turn rows) = Unit {0}
BodyStays asked history (refused what cause) = Unit {0}
BodyStays asked history (time_ask id) = Unit {0}
BodyStays asked history (time_told id) = Unit {0}

abbrev pub LetterStays : List Asked → List Entry → Letter → Type 0
LetterStays asked history m = BodyStays asked history m.body

-- NODES

-- the request is no write
abbrev pub IsNoWrite : Request → Type 0
IsNoWrite request = (write : WriteCommand) → command_of request ≡ Ok (write_command write) → ⊥

-- What an open request has to do is what it asks for, and the outcomes that arrived are stored; of an ordered write the first statements have outcomes, and the
-- next ones are under way.
abbrev pub WorkStays : List Entry → RequestId → Request → (namespace : List ℕ) → Work → Type 0
WorkStays history id request namespace (writing kind ordered statements c) =
    (write : WriteCommand) × (command_of request ≡ Ok (write_command write)) × (kind ≡ write.kind) × (namespace ≡ write.namespace)
    × (statements ≡ statements_from write.number id 0 write.operations) × AllByRecursion (IsOutcomeAt history write id) (dones_from 0 c.answers)
    × (ordered ≡ write.ordered) × (length c.answers ≡ length statements) × (ordered ≡ true → IsPrefix c.answers × OneNext statements c.answers c.runs)
WorkStays history id request namespace (reading named at stages telling) = IsNoWrite request
WorkStays history id request namespace sharding = IsNoWrite request
WorkStays history id request namespace (splitting middle) = command_of request ≡ Ok (split_command (record { namespace = namespace; middle = middle }))

-- the number of a request of a life
abbrev pub id_in : (me life count : ℕ) → RequestId
id_in me life count = record { router = me; life = life; count = count }

pub record OpenStays (asked : List Asked) (history : List Entry) (me life : ℕ) (q : Open) : Type 0 where
  pub request : Asked
  pub taken : IsIn request asked
  pub own : request.id ≡ id_in me life q.count
  pub asks : request.request ≡ q.request
  pub work : WorkStays history (id_in me life q.count) q.request q.namespace q.work

pub record ShardStays (asked : List Asked) (history : List Entry) (at : ℕ) (kept : List Kept) (s : Shard) : Type 0 where
  pub own : s.me ≡ at
  pub place : 0 < at
  pub entries : s.entries ≡ entries_kept kept
  pub parked : AllByRecursion (LetterStays asked history) s.parked

pub record RouterStays (asked : List Asked) (history : List Entry) (at : ℕ) (r : Router) : Type 0 where
  pub own : r.me ≡ at
  pub place : first_shard < at
  pub requests : AllByRecursion (OpenStays asked history r.me r.life) r.requests
  pub counted : AllByRecursion (λ (a : Asked). a.id.router ≡ at → IsBy a.id.life r.life r.begun (a.id.count ≤ r.count)) asked

-- GROWTH

-- later requests and entries: all before stay
pub record Grows (asked more : List Asked) (history longer : List Entry) : Type 0 where
  pub taken : (a : Asked) → IsIn a asked → IsIn a more
  pub stored : (e : Entry) → IsIn e history → IsIn e longer

module _ (asked more : List Asked) (history longer : List Entry) (g : Grows asked more history longer) where
  pub sent_grows : (id : RequestId) (namespace : List ℕ) (statements : List Statement) → AreSent asked id namespace statements
      → AreSent more id namespace statements
  sent_grows id namespace statements s = record {
    request = s.request;
    write = s.write;
    taken = g.taken s.request s.taken;
    own = s.own;
    asks = s.asks;
    name = s.name;
    each = s.each;
  }

  outcome_grows : (number : StatementNumber) (answer : StatementOutcome) → IsOutcomeOf history number answer → IsOutcomeOf longer number answer
  outcome_grows number _ (of_entry e i same) = of_entry e (g.stored e i) same
  outcome_grows number _ (of_greater e i session less) = of_greater e (g.stored e i) session less
  outcome_grows number _ (of_none refusal says) = of_none refusal says

  pub outcomes_grow : (write : WriteCommand) (id : RequestId) (dones : List Done) → AllByRecursion (IsOutcomeAt history write id) dones
      → AllByRecursion (IsOutcomeAt longer write id) dones
  outcomes_grow write id dones all =
      all_weaken (IsOutcomeAt history write id) (IsOutcomeAt longer write id) dones
      (λ d o. record { within = o.within; outcome = outcome_grows (number_for write.number id d.index) d.answer o.outcome }) all

  pub body_grows : (b : Body) → BodyStays asked history b → BodyStays more longer b
  body_grows (write_ask id turn ordered namespace statements sent) s = sent_grows id namespace statements s
  body_grows (write_done id dones) s = record {
    request = s.request;
    write = s.write;
    taken = g.taken s.request s.taken;
    own = s.own;
    asks = s.asks;
    each = outcomes_grow s.write id dones s.each;
  }
  body_grows (split_ask id namespace middle) s = s
  body_grows (table_ask namespace create at) s = tt
  body_grows (table_told namespace create at table) s = tt
  body_grows (split_done id found) s = tt
  body_grows (read_ask id turn namespace at half sent) s = tt
  body_grows (half_ask id turn namespace at half documents) s = tt
  body_grows (read_rows id turn rows) s = tt
  body_grows (refused what cause) s = tt
  body_grows (time_ask id) s = tt
  body_grows (time_told id) s = tt

  pub letters_grow : (letters : List Letter) → AllByRecursion (LetterStays asked history) letters → AllByRecursion (LetterStays more longer) letters
  letters_grow letters all = all_weaken (LetterStays asked history) (LetterStays more longer) letters (λ (m : Letter) s. body_grows m.body s) all

  work_grows : (id : RequestId) (request : Request) (namespace : List ℕ) (work : Work) → WorkStays history id request namespace work
      → WorkStays longer id request namespace work
  work_grows id request namespace (writing kind ordered statements c) (write, asks, same, name, all, each, order, long, turns) =
      (write, asks, same, name, all, outcomes_grow write id (dones_from 0 c.answers) each, order, long, turns)
  work_grows id request namespace (reading named at stages telling) s = s
  work_grows id request namespace sharding s = s
  work_grows id request namespace (splitting middle) s = s

  pub open_grows : (me life : ℕ) (q : Open) → OpenStays asked history me life q → OpenStays more longer me life q
  open_grows me life q o = record {
    request = o.request;
    taken = g.taken o.request o.taken;
    own = o.own;
    asks = o.asks;
    work = work_grows (id_in me life q.count) q.request q.namespace q.work o.work;
  }

  pub stored_grows : (t : Answered) → IsStored history t → IsStored longer t
  stored_grows t s write asks =
      let a : IsAcknowledged history write t = s write asks in
      record { dones = a.dones; turns = a.turns; all = a.all; document = a.document; stored = outcomes_grow write t.id a.dones a.stored }

-- NODES OF EACH KIND

pub record CatalogueStays (at : ℕ) (kept : List Kept) (c : Catalogue) : Type 0 where
  pub own : c.me ≡ at
  pub place : at ≡ 0
  pub changes : c.changes ≡ changes_kept kept
  pub keyed : AllByRecursion HasKey (records_of kept)

abbrev pub StateStays : List Asked → List Entry → ℕ → List Kept → NodeState → Type 0
StateStays asked history at kept (catalogue_state c) = CatalogueStays at kept c
StateStays asked history at kept (shard_state s) = ShardStays asked history at kept s
StateStays asked history at kept (router_state r) = RouterStays asked history at r

abbrev pub HeldStays : List Asked → List Entry → ℕ → Held → Type 0
HeldStays asked history at h = StateStays asked history at h.kept h.state
