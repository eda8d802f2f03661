-- The number of a request in the program, by the definitions.
use Rattle.cluster_base.specs.declared.identity.RequestId.{RequestId}
use Rattle.base_model.specs.Identities as identities

abbrev pub id_view : RequestId → identities.RequestId
id_view id = record { router = id.router.0; life = id.life; count = id.count }
