-- The changes that were admitted, as the program keeps them: oldest first, each with the table after it.
use Rattle.std.specs.Prelude.{◌≡◌, ◌≤◌, ℕ, List, [], ◌∷◌, ◌++◌, Bool, false}
use Rattle.std.specs.Coded.{Coded-set, coded_option}
use Rattle.std.specs.List.{list_any}
use Rattle.std.specs.HashSet.{HashSet, spare}
use Rattle.base_model.specs.Identities.{same_request}
use Rattle.cluster_base.specs.declared.identity.RequestId.{RequestId}
use Rattle.chunk_model.specs.Tables.{Table, table_of}
use Rattle.chunk_model.specs.Changes.{Change, known_table}
use Rattle.chunk_table.specs.Code.{table_code}
use Rattle.chunk_catalogue.specs.Views.{id_view, change_view}
use Rattle.chunk_catalogue.specs.declared.change.ChangeFields.{ChangeFields}
use Rattle.chunk_catalogue.specs.declared.change.ChangeFields.TheVariants.{Create, Split, Commit}

abbrev pub newest_first : List (ChangeFields × Table) → List Change
newest_first [] = []
newest_first (k ∷ admitted) = newest_first admitted ++ change_view k.0 ∷ []

-- the id is among these
abbrev pub is_among : RequestId → List RequestId → Bool
is_among id ids = list_any (λ k. same_request (id_view id) (id_view k)) ids

-- the change commits the move of that id
abbrev pub commits_id : ChangeFields → RequestId → Bool
commits_id (Create namespace epoch at) id = false
commits_id (Split namespace middle at) id = false
commits_id (Commit own namespace range from to at) id = same_request (id_view own) (id_view id)

-- there is a place for the id of a commit
abbrev pub HasPlaceFor : {S : Type 0} → HashSet RequestId S → ChangeFields → Type 0
HasPlaceFor committed (Create namespace epoch at) = Unit {0}
HasPlaceFor committed (Split namespace middle at) = Unit {0}
HasPlaceFor committed (Commit id namespace range from to at) = 1 ≤ spare committed

-- the tables are those that the changes make
abbrev pub AreKnown : List Table → List Change → Type 0
AreKnown tables changes = (namespace : List ℕ) → table_of namespace tables ≡ known_table namespace changes

-- which has one proof at most
pub known-prop : (tables : List Table) (changes : List Change) → IsProp (AreKnown tables changes)
known-prop tables changes =
    λ p q i n. Coded-set (coded_option table_code) (table_of n tables) (known_table n changes) (p n) (q n) i
