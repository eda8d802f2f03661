-- The names of writes.
use Rattle.std.specs.Prelude.{ℕ, List, codes}
use Rattle.command_replies.specs.declared.answer.WriteKind.{WriteKind}
use Rattle.command_replies.specs.declared.answer.WriteKind.TheVariants.{Insert, Update, Delete}

-- the name of a write's own field
abbrev pub name_view : WriteKind → List ℕ
name_view Insert = codes "insert"
name_view Update = codes "update"
name_view Delete = codes "delete"
