-- A collection that is read before its turn to be checked.
use Rattle.std.specs.Prelude.{◌≡◌, List, ℕ, Option, Some, None, Result, Ok, Err}
use Rattle.bson_model.specs.Tree.{Datum}
use Rattle.cluster_base.specs.Codes.{meaning_of}
use Rattle.cluster_base.specs.declared.code.Code.{Code}
use Rattle.cluster_base.specs.declared.namespace.Namespace.{Namespace}
use Rattle.command_model.specs.Checks.{Verdict}
use Rattle.command_model.specs.Forms.{check_collection}
use Rattle.command_fields.specs.FieldNames.{NamesCollection}

-- the namespace that a value names
abbrev pub IsGiven : Option Namespace → (database : List ℕ) → Datum → Type 0
IsGiven None database value = ⊥
IsGiven (Some namespace) database value = NamesCollection namespace database value

-- the namespace that a field names, if there is the field; or the error that the field returns
abbrev pub IsCollection : Result (Option Namespace) Code → (database : List ℕ) → Option Datum → Type 0
IsCollection (Ok None) database field = field ≡ None
IsCollection (Ok (Some namespace)) database field =
    (value : Datum) × (field ≡ Some value) × (check_collection database value ≡ None) × NamesCollection namespace database value
IsCollection (Err code) database field = (value : Datum) × (field ≡ Some value) × (check_collection database value ≡ Some (meaning_of code))

abbrev pub collection_told : Result (Option Namespace) Code → Verdict
collection_told (Ok namespace) = None
collection_told (Err code) = Some (meaning_of code)
