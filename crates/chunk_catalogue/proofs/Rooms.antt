-- A change whose collection has no table is a creation, for which there is room.
use Rattle.std.proofs.Common.{◌≡◌, ◌≤◌}
use Rattle.std.specs.Prelude.{Option, Some, None}
use Rattle.chunk_model.specs.Tables.{Table}
use Rattle.chunk_model.specs.Changes.{table_after}
use Rattle.chunk_catalogue.specs.Views.{change_view}
use Rattle.chunk_catalogue.specs.Catalogues.{HasRoomFor}
use Rattle.chunk_catalogue.specs.declared.change.ChangeFields.{ChangeFields}
use Rattle.chunk_catalogue.specs.declared.change.ChangeFields.TheVariants.{Create, Split, Commit}
use Rattle.chunk_catalogue.specs.declared.catalogue.Catalogue.{Catalogue}

pub table_room : (c : Catalogue) (fields : ChangeFields) (before : Option Table) (t : Table) → HasRoomFor c fields
    → table_after (change_view fields) before ≡ Some t → before ≡ None → 1 ≤ c.tables.room
table_room c (Create namespace epoch at) before t room e none = room
table_room c (Split namespace middle at) None t room e none = absurd cc
table_room c (Split namespace middle at) (Some u) t room e none = absurd cc
table_room c (Commit id namespace range from to at) None t room e none = absurd cc
table_room c (Commit id namespace range from to at) (Some u) t room e none = absurd cc
