-- Four numbers of a world and of the messages that wait in it, of which each delivery lowers the first that it changes (own). None counts steps.
use Rattle.std.specs.Prelude.{◌≡◌, ◌<◌, ℕ, ◌+◌, ◌-◌, ◌*◌, List, [], ◌∷◌, length, true, false, Option, Some, None}
use Rattle.chunk_model.specs.Changes.{namespace_of}
use Rattle.chunk_model.specs.Tables.{Table, table_of}
use Rattle.reply_model.specs.Accounts.{Dated}
use Rattle.reply_model.specs.Outcomes.{StatementOutcome}
use Rattle.node_model.specs.Letters.{Body, table_ask, split_ask, write_ask, read_ask, half_ask, time_ask, Letter}
use Rattle.node_model.specs.RouterRequests.{unsent}
use Rattle.node_model.specs.States.{Work, writing, reading, sharding, splitting, Wait, for_time, for_catalogue, for_shards, Open, NodeState, catalogue_state, shard_state, router_state}
use Rattle.node_model.specs.World.{Held}
use Rattle.node_weights.specs.Deliveries.{Waiting}

pub record Weight : Type 0 where
  pub requests : ℕ
  pub turns : ℕ
  pub changes : ℕ
  pub messages : ℕ

-- the first number that differs is lower
pub data IsLower (a b : Weight) : Type 0 where
  fewer_requests : a.requests < b.requests → IsLower a b
  fewer_turns : a.requests ≡ b.requests → a.turns < b.turns → IsLower a b
  fewer_changes : a.requests ≡ b.requests → a.turns ≡ b.turns → a.changes < b.changes → IsLower a b
  fewer_messages : a.requests ≡ b.requests → a.turns ≡ b.turns → a.changes ≡ b.changes → a.messages < b.messages → IsLower a b

-- what these weigh together
abbrev pub total : {X : Type 0} → (X → ℕ) → List X → ℕ
total weigh [] = 0
total weigh (x ∷ xs) = weigh x + total weigh xs

-- REQUESTS: how many are open

abbrev pub requests_in : NodeState → ℕ
requests_in (catalogue_state c) = 0
requests_in (shard_state s) = 0
requests_in (router_state r) = length r.requests

-- TURNS: how often routers may still send something for them

-- the statements that are not answered
abbrev pub without_outcome : List (Option StatementOutcome) → ℕ
without_outcome [] = 0
without_outcome (None ∷ answers) = 1 + without_outcome answers
without_outcome (Some x ∷ answers) = without_outcome answers

-- a read asks for a time, then for a table, then for its parts
abbrev pub turns_before : Wait → ℕ
turns_before for_time = 2
turns_before for_catalogue = 1
turns_before for_shards = 0

-- a write sends again for each statement that is answered, and once for each that was not sent
abbrev pub turns_of : Work → Wait → ℕ
turns_of (writing kind ordered statements c) wait = without_outcome c.answers + length (unsent false statements c)
turns_of (reading named at stages telling) wait = turns_before wait
turns_of sharding wait = 0
turns_of (splitting middle) wait = 0

abbrev pub turns_in : NodeState → ℕ
turns_in (catalogue_state c) = 0
turns_in (shard_state s) = 0
turns_in (router_state r) = total (λ (q : Open). turns_of q.work q.wait) r.requests

-- CHANGES: how many of the catalogue's a shard may still learn

-- the message may make the catalogue change a table
abbrev pub changes_by : Body → ℕ
changes_by (table_ask namespace true at) = 1
changes_by (split_ask id namespace middle) = 1
changes_by body = 0

abbrev pub changes_to_come : List Letter → ℕ
changes_to_come letters = total (λ (m : Letter). changes_by m.body) letters

-- how many changes are in a table, and one for the table itself
abbrev pub changes_in_table : Option Table → ℕ
changes_in_table None = 0
changes_in_table (Some t) = 1 + t.changes

-- and in that of a collection among these
abbrev pub changes_known : List ℕ → List Table → ℕ
changes_known namespace tables = changes_in_table (table_of namespace tables)

-- no table has more of them
abbrev pub most_changes : (changed : List Dated) → (coming : ℕ) → ℕ
most_changes changed coming = 1 + length changed + coming

-- For each change that was made, and each that is to come, how many of its collection may still be learned by a shard with these tables.
abbrev pub changes_left : (changed : List Dated) → (coming : ℕ) → List Table → ℕ
changes_left changed coming tables =
    total (λ (d : Dated). most_changes changed coming - changes_known (namespace_of d.change) tables) changed + coming * most_changes changed coming

abbrev pub changes_left_in : (changed : List Dated) → (coming : ℕ) → NodeState → ℕ
changes_left_in changed coming (catalogue_state c) = 0
changes_left_in changed coming (shard_state s) = changes_left changed coming s.tables
changes_left_in changed coming (router_state r) = 0

-- MESSAGES: those that wait and those that are parked; one weighs more than what its receiver sends for it, or keeps of it

abbrev pub cost_of : Body → ℕ
cost_of (write_ask id turn ordered namespace statements sent) = 4
cost_of (read_ask id turn namespace at half sent) = 4
cost_of (half_ask id turn namespace at half documents) = 2
cost_of (time_ask id) = 2
cost_of (table_ask namespace create at) = 2
cost_of (split_ask id namespace middle) = 2
cost_of body = 1

abbrev pub costs_of : List Letter → ℕ
costs_of letters = total (λ (m : Letter). cost_of m.body) letters

abbrev pub parked_in : NodeState → ℕ
parked_in (catalogue_state c) = 0
parked_in (shard_state s) = length s.parked
parked_in (router_state r) = 0

-- ALL FOUR

abbrev pub weight_by : List Held → (changed : List Dated) → List Letter → Weight
weight_by nodes changed letters = record {
  requests = total (λ (h : Held). requests_in h.state) nodes;
  turns = total (λ (h : Held). turns_in h.state) nodes;
  changes = total (λ (h : Held). changes_left_in changed (changes_to_come letters) h.state) nodes;
  messages = total (λ (h : Held). parked_in h.state) nodes + costs_of letters;
}

abbrev pub weight_of : Waiting → Weight
weight_of x = weight_by x.world.nodes x.world.changed x.letters
