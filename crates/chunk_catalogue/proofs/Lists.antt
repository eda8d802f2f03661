-- The list of changes with one more.
use Rattle.std.proofs.Common.{◌≡◌, refl, ap, List, [], ◌∷◌, ◌++◌, ◌||◌}
use Rattle.chunk_model.specs.Tables.{Table}
use Rattle.cluster_base.specs.declared.identity.RequestId.{RequestId}
use Rattle.chunk_model.specs.Changes.{Change, is_committed}
use Rattle.chunk_catalogue.specs.Views.{change_view, id_view}
use Rattle.chunk_catalogue.specs.Admitted.{newest_first, commits_id}
use Rattle.chunk_catalogue.specs.declared.change.ChangeFields.{ChangeFields}
use Rattle.chunk_catalogue.specs.declared.change.ChangeFields.TheVariants.{Create, Split, Commit}

pub newest_after : (admitted : List (ChangeFields × Table)) (fields : ChangeFields) (t : Table)
    → newest_first (admitted ++ (fields, t) ∷ []) ≡ change_view fields ∷ newest_first admitted
newest_after [] fields t = refl
newest_after (k ∷ admitted) fields t = ap (λ (changes : List Change). changes ++ change_view k.0 ∷ []) (newest_after admitted fields t)

-- which moves are committed then
pub committed_after : (fields : ChangeFields) (older : List Change) (id : RequestId)
    → is_committed (id_view id) (change_view fields ∷ older) ≡ (commits_id fields id || is_committed (id_view id) older)
committed_after (Create namespace epoch at) older id = refl
committed_after (Split namespace middle at) older id = refl
committed_after (Commit own namespace range from to at) older id = refl
