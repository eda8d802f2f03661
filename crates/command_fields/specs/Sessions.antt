-- The sessions that writes name.
use Rattle.std.specs.Prelude.{◌≡◌, Some, None, codes}
use Rattle.bson_model.specs.Tree.{Datum, Fields, get}
use Rattle.command_model.specs.Fields.{check_session, document_needed}

-- a session that is named passes
abbrev pub HasSession : Fields → Type 0
HasSession document = (value : Datum) → get (codes "lsid") document ≡ Some value → document_needed check_session value ≡ None
