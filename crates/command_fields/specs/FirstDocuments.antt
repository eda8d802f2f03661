-- The documents of sequences.
use Rattle.std.specs.Prelude.{List, [], ◌∷◌, Option, Some, None}
use Rattle.bson_model.specs.Tree.{Fields}
use Rattle.command_model.specs.Forms.{Sequences}

-- the documents of the first sequence
abbrev pub first_documents : Sequences → Option (List Fields)
first_documents [] = None
first_documents (s ∷ more) = Some s.1
