-- What a node returns where it takes no step: it is out of memory, or at its last step (own). It stays as it is; who sent it a request learns of the lack.
use Rattle.std.specs.Prelude.{ℕ, ℤ, ◌^◌, ◌-◌, [], ◌∷◌, max, Bool, ◌==◌, ◌||◌, Option, Some, None, nat_le, if◌then◌else◌}
use Rattle.reply_model.specs.Requests.{Request}
use Rattle.reply_model.specs.Accounts.{Lack}
use Rattle.reply_model.specs.Outcomes.{lack_refusal}
use Rattle.reply_model.specs.Answers.{refusal_answer, answer_document}
use Rattle.node_model.specs.Letters.{no_time, at_time, Body, table_ask, split_ask, write_ask, read_ask, half_ask, refused, Refused, of_request, of_table, is_lack, time_ask, Letter, Input, client_input, letter_input, moment_input, opened_input, Effect, nothing, sends}
use Rattle.node_model.specs.States.{NodeState, catalogue_state, shard_state, router_state, time_of_node}
use Rattle.node_model.specs.Steps.{number_of}

-- THE LAST STEP

-- so many steps are the most of a node
abbrev pub most_steps : ℕ
most_steps = 2 ^ 56 - 1

-- from this time on no step is taken
abbrev pub last_time : ℕ
last_time = 2 ^ 64 - 2 ^ 57

abbrev pub time_in : Input → ℕ
time_in (letter_input m) = m.time
time_in (client_input link number request) = 0
time_in (moment_input moment) = 0
time_in opened_input = 0

-- the node took all its steps, or its time, or that of the message, is the last
abbrev pub is_last : (steps : ℕ) → NodeState → Input → Bool
is_last steps s i = nat_le most_steps steps || (nat_le last_time (time_of_node s) || nat_le last_time (time_in i))

-- WHAT IS RETURNED

-- what a message requests of a shard, and of the catalogue
abbrev pub requested_of_shard : Body → Option Refused
requested_of_shard (write_ask id turn ordered namespace [] sent) = Some (of_request id turn 0)
requested_of_shard (write_ask id turn ordered namespace (s ∷ statements) sent) = Some (of_request id turn s.number.index)
requested_of_shard (read_ask id turn namespace at half sent) = Some (of_request id turn 0)
requested_of_shard (half_ask id turn namespace at half documents) = Some (of_request id turn 0)
requested_of_shard (time_ask id) = Some (of_request id 0 0)
requested_of_shard body = None

abbrev pub requested_of_catalogue : Body → Option Refused
requested_of_catalogue (table_ask namespace create at) = Some (of_table namespace create at)
requested_of_catalogue (split_ask id namespace middle) = Some (of_request id 0 0)
requested_of_catalogue body = None

-- nothing is requested of a router
abbrev pub requested_of : NodeState → Body → Option Refused
requested_of (catalogue_state c) body = requested_of_catalogue body
requested_of (shard_state s) body = requested_of_shard body
requested_of (router_state r) body = None

-- a request goes back to its router, and that for a table to its sender; the message is not before the time that was asked for
abbrev pub refusal_to : (me time sender : ℕ) → Refused → Lack → Letter
refusal_to me time sender (of_request id turn first) lack = record { sender = me; receiver = id.router; time = time; body = refused (of_request id turn first) (is_lack me lack) }
refusal_to me time sender (of_table namespace create no_time) lack =
    record { sender = me; receiver = sender; time = time; body = refused (of_table namespace create no_time) (is_lack me lack) }
refusal_to me time sender (of_table namespace create (at_time at)) lack =
    record { sender = me; receiver = sender; time = max time at; body = refused (of_table namespace create (at_time at)) (is_lack me lack) }

abbrev pub turns_away : NodeState → Lack → (link : ℕ) → (number : ℤ) → Request → Effect
turns_away (catalogue_state c) lack link number request = nothing
turns_away (shard_state s) lack link number request = nothing
turns_away (router_state r) lack link number request = record {
  written = [];
  mail = [];
  taken = [];
  replies = [];
  away = record { link = link; number = number; request = request; document = answer_document (refusal_answer (lack_refusal r.me lack)) } ∷ [];
}

-- a request gets one answer; a moment, an opening and an answer get none
abbrev pub misses : NodeState → Lack → Input → Effect
misses s lack (letter_input m) = if m.receiver == number_of s then elim (requested_of s m.body) [
  | None ↦ nothing
  | Some what ↦ sends (refusal_to (number_of s) (time_of_node s) m.sender what lack ∷ [])
] else nothing
misses s lack (client_input link number request) = turns_away s lack link number request
misses s lack (moment_input moment) = nothing
misses s lack opened_input = nothing
