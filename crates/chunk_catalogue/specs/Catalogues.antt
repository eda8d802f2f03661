-- What contracts see of a catalogue: the changes that were admitted, newest first, and for which more there is room.
use Rattle.std.specs.Prelude.{◌≡◌, ◌≤◌, List, Option, Some, None}
use Rattle.std.specs.Arc.{arc_value}
use Rattle.std.specs.HashSet.{spare}
use Rattle.chunk_model.specs.Changes as changes
use Rattle.chunk_model.specs.Changes.{known_table, namespace_of, table_after}
use Rattle.chunk_model.specs.Placement.{Follows}
use Rattle.chunk_model.specs.Requests.{CatalogueAnswer, changed, unchanged}
use Rattle.chunk_catalogue.specs.Views.{change_view}
use Rattle.chunk_catalogue.specs.Admitted.{newest_first}
use Rattle.chunk_catalogue.specs.declared.change.Change.{Change}
use Rattle.chunk_catalogue.specs.declared.change.ChangeFields.{ChangeFields}
use Rattle.chunk_catalogue.specs.declared.change.ChangeFields.TheVariants.{Create, Split, Commit}
use Rattle.chunk_catalogue.specs.declared.catalogue.Catalogue.{Catalogue}

abbrev pub changes_of : Catalogue → List changes.Change
changes_of c = newest_first c.admitted.items

-- a creation needs a place for its table, a commit one for its id
abbrev pub HasRoomFor : Catalogue → ChangeFields → Type 0
HasRoomFor c (Create namespace epoch at) = 1 ≤ c.tables.room
HasRoomFor c (Split namespace middle at) = Unit {0}
HasRoomFor c (Commit id namespace range from to at) = 1 ≤ spare c.committed

-- the change may be admitted next: it follows those that were, its table is the one after it, and there is room
pub record IsNext (c : Catalogue) (change : Change) : Type 0 where
  pub follows : Follows (change_view change.fields) (changes_of c)
  pub table :
      table_after (change_view change.fields) (known_table (namespace_of (change_view change.fields)) (changes_of c)) ≡ Some (arc_value change.table)
  pub room : HasRoomFor c change.fields

-- a request's answer, by the change that was made for it, if one was
abbrev pub answer_of : Option Change → CatalogueAnswer
answer_of None = unchanged
answer_of (Some change) = changed (change_view change.fields)
