-- `ping` (MongoDB manual, "ping"): a command without parameters, whose answer is `done_document`.
use Rattle.command_model.specs.Forms.{CommandForm}
use Rattle.command_model.specs.Handshake.{handshake_form}

abbrev pub ping_form : CommandForm (Unit {0})
ping_form = handshake_form (λ document. tt)
