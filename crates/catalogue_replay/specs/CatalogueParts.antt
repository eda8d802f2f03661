-- What the journal of a catalogue says of it.
use Rattle.std.specs.Prelude.{◌≡◌, ℕ, Bool, true, false, ◌==◌, Option, Some, None}
use Rattle.chunk_catalogue.specs.Catalogues.{changes_of}
use Rattle.chunk_catalogue.specs.declared.change.ChangeFields.{ChangeFields}
use Rattle.chunk_catalogue.specs.declared.change.ChangeFields.TheVariants as fields
use Rattle.chunk_model.specs.Catalogue as catalogue
use Rattle.record_model.specs.Records.{Record, create_record, split_record, catalogue_ceiling_record}
use Rattle.node_replay.specs.Durable.{DurableCatalogue}
use Rattle.node_replay.specs.Follow.{catalogue_follow}
use Rattle.shard_records.specs.MoveViews.{split_view}
use Rattle.catalogue_replay.specs.declared.kind.Creation.{Creation}
use Rattle.catalogue_replay.specs.declared.kind.CatalogueRecord.{CatalogueRecord}
use Rattle.catalogue_replay.specs.declared.kind.CatalogueRecord.TheVariants as kinds
use Rattle.catalogue_replay.specs.declared.part.CataloguePart.{CataloguePart}

abbrev pub part_of : CataloguePart → DurableCatalogue
part_of p = record { me = p.me.0; top = p.top.0; changes = changes_of p.catalogue }

abbrev pub creation_view : Creation → catalogue.Creation
creation_view c = record { namespace = c.namespace; epoch = c.epoch; at = c.at.0 }

-- the change creates a collection of this epoch
abbrev pub creates_at : ChangeFields → (epoch : ℕ) → Bool
creates_at (fields.Create namespace made at) epoch = made == epoch
creates_at (fields.Split namespace middle at) epoch = false
creates_at (fields.Commit id namespace range from to at) epoch = false

-- whether a record followed, and what it led to
abbrev pub Leads : Option DurableCatalogue → DurableCatalogue → Bool → Type 0
Leads after part true = after ≡ Some part
Leads after part false = after ≡ None

-- what the record is, and that no record of another node may follow
abbrev pub IsKind : Record → CatalogueRecord → Type 0
IsKind r (kinds.Creation c) = r ≡ create_record (creation_view c)
IsKind r (kinds.Split s) = r ≡ split_record (split_view s)
IsKind r (kinds.Ceiling time) = r ≡ catalogue_ceiling_record time.0
IsKind r kinds.Other = (d : DurableCatalogue) → catalogue_follow d r ≡ None
