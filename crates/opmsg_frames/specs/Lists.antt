-- Document sequences as plain data: each an identifier and its documents.
use Rattle.std.specs.Prelude.{ℕ, List, [], ◌∷◌}
use Rattle.bson_model.specs.Tree.{Fields}
use Rattle.opmsg_frames.specs.declared.lists.Sequence.{Sequence}

abbrev pub pairs_of : List Sequence → List (List ℕ × List Fields)
pairs_of [] = []
pairs_of (s ∷ sequences) = (s.identifier, s.documents) ∷ pairs_of sequences
