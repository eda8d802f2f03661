-- What the commands share that read only `$db` and `helloOk`: `hello`, `isMaster`, `ping` and `endSessions` (MongoDB manual, "hello", "ping", "endSessions";
-- the order of fields is own).
use Rattle.std.specs.Prelude.{ℕ, List, [], ◌∷◌, Bool, true, false, None, if◌then◌else◌, codes}
use Rattle.bson_model.specs.Tree.{string_value, boolean_value, Fields, no_fields, field}
use Rattle.command_model.specs.Fields.{Rule, boolean_needed, string_needed}
use Rattle.command_model.specs.Forms.{CommandForm, any_own, nothing_judged}
use Rattle.command_model.specs.AnswerParts.{moment_shown, number, ok}
use Rattle.bson_model.specs.Limits.{most_bytes_kept}
use Rattle.command_model.specs.CommandLimits.{most_statements}

abbrev pub handshake_rules : List Rule
handshake_rules = record { name = codes "$db"; check = string_needed } ∷ record { name = codes "helloOk"; check = boolean_needed } ∷ []

-- other fields are ignored
abbrev pub handshake_form : {C : Type 0} → (Fields → C) → CommandForm C
handshake_form command = record {
  check_own = any_own;
  rules = λ database. handshake_rules;
  unlisted = None;
  sequence = None;
  check_needed = nothing_judged;
  check_last = nothing_judged;
  command = λ database own document sequences. command document;
}

-- the fields of a handshake at a moment, after the one that says that writes are accepted
abbrev pub handshake : ℕ → Fields → Fields
handshake moment more =
    field (codes "msg") (string_value (codes "isdbgrid"))
    (field (codes "maxBsonObjectSize") (number most_bytes_kept)
    (field (codes "maxMessageSizeBytes") (number 48000000)
    (field (codes "maxWriteBatchSize") (number most_statements)
    (field (codes "localTime") (moment_shown moment)
    (field (codes "logicalSessionTimeoutMinutes") (number 30)
    (field (codes "minWireVersion") (number 0)
    (field (codes "maxWireVersion") (number 17)
    (field (codes "readOnly") (boolean_value false) more))))))))

abbrev pub hello_ok : Bool → Fields → Fields
hello_ok shown more = if shown then field (codes "helloOk") (boolean_value true) more else more

-- the answer to `ping` and `endSessions`
abbrev pub done_document : Fields
done_document = ok no_fields
