-- The node, its messages and its inputs, by the definitions.
use Rattle.std.specs.Prelude.{pos, [], Err, true}
use Rattle.node_traits.specs.Letters.{Letter, half_overflow, read_rows}
use Rattle.node_traits.specs.Letters as model
use Rattle.node_traits.specs.Letters.{client_input, letter_input, moment_input, opened_input}
use Rattle.node_traits.specs.Requests.{Request, msg_form, read_body}
use Rattle.node_traits.specs.States.{NodeState, catalogue_state}
use Rattle.node_traits.specs.Tree.{no_fields}
use Rattle.node_tests.specs.declared.idle.IdleInput.{IdleInput}
use Rattle.node_tests.specs.declared.idle.IdleInput.TheVariants as inputs
use Rattle.node_tests.specs.declared.idle.Silent.{Silent}
use Rattle.node_tests.specs.declared.state.Idle.{Idle}

abbrev pub idle_state : Idle → NodeState
idle_state node = catalogue_state (record { me = node.me.0; time = 0; changes = [] })

abbrev pub silent_letter : Silent → Letter
silent_letter m = record { sender = 0; receiver = m.to.0; time = 0; body = read_rows (record { router = 0; life = 0; count = 0 }) 0 (Err half_overflow) }

-- a request without a field, which requests no reply
abbrev pub request_of_nothing : Request
request_of_nothing = record { id = pos 0; more = true; form = msg_form; body = read_body no_fields []; bytes = [] }

abbrev pub idle_input : IdleInput → model.Input
idle_input (inputs.Client link number) = client_input link number request_of_nothing
idle_input (inputs.Letter m) = letter_input (silent_letter m)
idle_input (inputs.Moment moment) = moment_input moment
idle_input inputs.Opened = opened_input
