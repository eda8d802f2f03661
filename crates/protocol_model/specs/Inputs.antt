-- The program's inputs, by the definitions.
use Rattle.node_model.specs.Letters as letters
use Rattle.node_model.specs.Letters.{client_input, letter_input, moment_input, opened_input}
use Rattle.protocol_model.specs.declared.input.Input.{Input}
use Rattle.protocol_model.specs.declared.input.Input.TheVariants.{Client, Deliver, Moment, Opened}
use Rattle.protocol_model.specs.Messages.{letter_of}
use Rattle.protocol_model.specs.Requests.{request_of}

abbrev pub input_of : Input → letters.Input
input_of (Client link number request) = client_input link number (request_of request)
input_of (Deliver message) = letter_input (letter_of message)
input_of (Moment moment) = moment_input moment
input_of Opened = opened_input
