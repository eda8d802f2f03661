-- Tables after one was put among them.
use Rattle.std.specs.Prelude.{List, [], ◌∷◌, if◌then◌else◌}
use Rattle.std.specs.Str.{bytes_eq}
use Rattle.chunk_model.specs.Tables.{Table}

-- the tables with this one in the place of the one of its collection, or after them
abbrev pub put_table : Table → List Table → List Table
put_table t [] = t ∷ []
put_table t (u ∷ tables) = if bytes_eq u.namespace t.namespace then t ∷ tables else u ∷ put_table t tables
