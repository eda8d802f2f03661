-- The key is that of both inserts.
use Rattle.std.proofs.Common.{[], refl}
use Rattle.std.specs.Prelude.{Some, codes, pos}
use Rattle.bson_model.specs.Tree.{int32_value}
use Rattle.history_laws.specs.SampleJournals.{inserted_at}
use Rattle.history_laws.proofs.examples.key_shared.Goals as goal

pub returns-clause-shared : goal.returns-clause-shared
returns-clause-shared c share =
    share (codes "d.c") (Some (int32_value (pos 1))) (inserted_at 1 3 1) (inserted_at 2 4 1) ([], [], refl) ([], [], refl) refl refl
