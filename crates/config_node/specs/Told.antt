-- The messages with which the catalogue answers a request.
use Rattle.std.specs.Prelude.{ℕ, List, [], ◌∷◌, Option, Some, None}
use Rattle.std.specs.Arc.{arc_value}
use Rattle.std.specs.Option.{option_map}
use Rattle.node_model.specs.Lacks.{requested_of_catalogue}
use Rattle.node_model.specs.Letters.{Body, table_told, split_done, Refused, of_request, of_table, Letter, Input, client_input, letter_input, moment_input, opened_input}
use Rattle.config_node.specs.declared.plan.Answer.{Answer}
use Rattle.config_node.specs.declared.plan.Answer.TheVariants.{Nothing, Table, Split}

-- what answers a request, if it is an answer to that request
abbrev pub answer_of : Answer → Refused → Option Body
answer_of Nothing what = None
answer_of (Table table) (of_table namespace create at) = Some (table_told namespace create at (option_map (λ t. arc_value t) table))
answer_of (Table table) (of_request id turn first) = None
answer_of (Split found) (of_request id turn first) = Some (split_done id found)
answer_of (Split found) (of_table namespace create at) = None

-- the message with this body, if there is one
abbrev pub letters : (me receiver time : ℕ) → Option Body → List Letter
letters me receiver time None = []
letters me receiver time (Some body) = record { sender = me; receiver = receiver; time = time; body = body } ∷ []

abbrev pub told_of : (me sender time : ℕ) → Answer → Option Refused → List Letter
told_of me sender time answer None = []
told_of me sender time answer (Some what) = letters me sender time (answer_of answer what)

-- what a node sends at a time where it answers an input so
abbrev pub answers : (me time : ℕ) → Answer → Input → List Letter
answers me time answer (letter_input m) = told_of me m.sender time answer (requested_of_catalogue m.body)
answers me time answer (client_input link number request) = []
answers me time answer (moment_input moment) = []
answers me time answer opened_input = []
