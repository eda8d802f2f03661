-- What is answered where no change is made.
use Rattle.std.specs.Prelude.{◌≡◌}
use Rattle.chunk_table.specs.Meanings.{version_view}
use Rattle.chunk_model.specs.Requests.{CatalogueAnswer, settled, no_collection, not_a_bound, version_differs, not_owner, same_shard}
use Rattle.chunk_catalogue.specs.declared.fault.CatFault.{CatFault}
use Rattle.chunk_catalogue.specs.declared.fault.CatFault.TheVariants.{Settled, NoCollection, NotABound, VersionDiffers, NotOwner, SameShard, Memory}

-- the fault is this answer; out of memory may come in place of each
abbrev pub IsFault : CatFault → CatalogueAnswer → Type 0
IsFault (Settled committed) answer = answer ≡ settled committed
IsFault NoCollection answer = answer ≡ no_collection
IsFault NotABound answer = answer ≡ not_a_bound
IsFault (VersionDiffers version) answer = answer ≡ version_differs (version_view version)
IsFault NotOwner answer = answer ≡ not_owner
IsFault SameShard answer = answer ≡ same_shard
IsFault Memory answer = Unit {0}
