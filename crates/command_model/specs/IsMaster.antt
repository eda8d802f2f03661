-- `isMaster`, also `ismaster`, the older `hello` (MongoDB manual, "hello"; the order of fields is own): the handshake with the old field names, at the moment
-- of the answer.
use Rattle.std.specs.Prelude.{ℕ, Bool, true, false, codes}
use Rattle.bson_model.specs.Tree.{boolean_value, Fields, no_fields, field, get}
use Rattle.command_model.specs.AnswerParts.{ok}
use Rattle.command_model.specs.Fields.{boolean_or}
use Rattle.command_model.specs.Forms.{CommandForm}
use Rattle.command_model.specs.Handshake.{handshake_form, handshake, hello_ok}

-- whether `helloOk` is shown
pub record Legacy : Type 0 where
  pub shows_hello_ok : Bool

abbrev pub legacy_of : Fields → Legacy
legacy_of document = record { shows_hello_ok = boolean_or false (get (codes "helloOk") document) }

abbrev pub legacy_form : CommandForm Legacy
legacy_form = handshake_form legacy_of

abbrev pub legacy_document : ℕ → Bool → Fields
legacy_document moment shown = field (codes "ismaster") (boolean_value true) (handshake moment (hello_ok shown (ok no_fields)))
