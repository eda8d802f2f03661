-- The key that a document targets, before it is read as a query, so that a document which targets none is distinguished from one
-- with another fault (MongoDB manual, "Targeted Operations vs. Broadcast Operations").
use Rattle.std.specs.Prelude.{[], ◌∷◌, Option, Some, None, codes, if◌then◌else◌}
use Rattle.std.specs.Option.{option_or}
use Rattle.std.specs.Str.{bytes_eq}
use Rattle.bson_model.specs.Tree.{Datum, document_value, Fields, no_fields, field, get}
use Rattle.query_model.specs.Reading.{is_operator_document}

-- the value that a field must equal by its operand: the first `$eq` of an operator document, and any other value itself
abbrev pub value_asked : Datum → Option Datum
value_asked (document_value ms) = if is_operator_document ms then get (codes "$eq") ms else Some (document_value ms)
value_asked d = Some d

-- the first equality on `_id` among the fields
abbrev pub key_asked_in : Fields → Option Datum
key_asked_in no_fields = None
key_asked_in (field name d ms) = if bytes_eq name (codes "_id") then option_or (value_asked d) (key_asked_in ms) else key_asked_in ms
