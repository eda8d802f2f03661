-- `endSessions` (MongoDB manual, "endSessions"): its sessions are not read, and the answer is `done_document`.
use Rattle.command_model.specs.Forms.{CommandForm}
use Rattle.command_model.specs.Handshake.{handshake_form}

abbrev pub end_sessions_form : CommandForm (Unit {0})
end_sessions_form = handshake_form (λ document. tt)
