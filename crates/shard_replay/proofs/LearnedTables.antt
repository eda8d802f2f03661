-- There is a table after one was learned.
use Rattle.std.proofs.Common.{◌≡◌, List, [], ◌∷◌, refl}
use Rattle.std.specs.Prelude.{Bool, true, false, if◌then◌else◌}
use Rattle.std.specs.Str.{bytes_eq}
use Rattle.chunk_model.specs.Tables.{Table, is_longer, with_table}
use Rattle.node_replay.specs.Follow.{has_table}

pub has_learned : (t : Table) (tables : List Table) → has_table (with_table t tables) ≡ true
has_learned t [] = refl
has_learned t (u ∷ tables) = by_test (bytes_eq u.namespace t.namespace)
  where
    by_test : (b : Bool) → has_table (if b then ((if is_longer t u then t else u) ∷ tables) else u ∷ with_table t tables) ≡ true
    by_test true = refl
    by_test false = refl
