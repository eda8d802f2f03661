-- `hello` (MongoDB manual, "hello"; the order of fields is own): the handshake, at the moment of the answer.
use Rattle.std.specs.Prelude.{ℕ, true, codes}
use Rattle.bson_model.specs.Tree.{boolean_value, Fields, no_fields, field}
use Rattle.command_model.specs.AnswerParts.{ok}
use Rattle.command_model.specs.Forms.{CommandForm}
use Rattle.command_model.specs.Handshake.{handshake_form, handshake}

-- a command without parameters
abbrev pub hello_form : CommandForm (Unit {0})
hello_form = handshake_form (λ document. tt)

abbrev pub hello_document : ℕ → Fields
hello_document moment = field (codes "isWritablePrimary") (boolean_value true) (handshake moment (ok no_fields))
