-- The keys at which chunks are divided.
use Rattle.std.specs.Prelude.{◌≡◌, Some, None, codes}
use Rattle.bson_model.specs.Tree.{Datum, Fields, get}
use Rattle.command_model.specs.AdminCommands.{key_needed}

-- a middle that is given passes
abbrev pub MiddlePasses : Fields → Type 0
MiddlePasses document = (value : Datum) → get (codes "middle") document ≡ Some value → key_needed value ≡ None
