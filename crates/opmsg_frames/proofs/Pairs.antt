-- One more sequence.
use Rattle.std.proofs.Common.{◌≡◌, List, [], ◌∷◌, ◌++◌, refl, ap}
use Rattle.opmsg_frames.specs.declared.lists.Sequence.{Sequence}
use Rattle.opmsg_frames.specs.Lists.{pairs_of}

pub pairs_push : (xs : List Sequence) (s : Sequence) → pairs_of (xs ++ s ∷ []) ≡ pairs_of xs ++ (s.identifier, s.documents) ∷ []
pairs_push [] s = refl
pairs_push (x ∷ xs) s = ap (λ l. (x.identifier, x.documents) ∷ l) (pairs_push xs s)
