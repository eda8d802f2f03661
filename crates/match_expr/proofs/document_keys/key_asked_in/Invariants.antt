-- What is left of the fields targets the key of the whole.
use Rattle.std.proofs.Common.{◌≡◌, drop}
use Rattle.bson_values.specs.View.{fields_of}
use Rattle.query_model.specs.DocumentKeys.{key_asked_in}
use Rattle.match_expr.proofs.document_keys.key_asked_in.Given as goal

abbrev pub invariant-loop-field : goal.invariant-loop-field
invariant-loop-field l = key_asked_in (fields_of (drop l.field-index l.field-items)) ≡ key_asked_in l.document
