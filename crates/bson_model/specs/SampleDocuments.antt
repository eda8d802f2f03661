-- Documents to try the definitions on.
use Rattle.std.specs.Prelude.{ℕ, ℤ, zero, suc, List, [], ◌∷◌, codes}
use Rattle.bson_model.specs.Tree.{Fields, no_fields, field, document_value, int32_value}

-- {_id: n}
abbrev pub id_document : ℤ → Fields
id_document n = field (codes "_id") (int32_value n) no_fields

-- the bytes of {_id: 1}
abbrev pub id_bytes : List ℕ
id_bytes = 0x0E ∷ 0x00 ∷ 0x00 ∷ 0x00 ∷ 0x10 ∷ 0x5F ∷ 0x69 ∷ 0x64 ∷ 0x00 ∷ 0x01 ∷ 0x00 ∷ 0x00 ∷ 0x00 ∷ 0x00 ∷ []

-- an empty document nested in n others
abbrev pub nested : ℕ → Fields
nested zero = no_fields
nested (suc n) = field (codes "a") (document_value (nested n)) no_fields
