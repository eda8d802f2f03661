-- The name of the collection that records are tried on is a namespace.
use Rattle.std.proofs.Common.{refl, codes}
use Rattle.base_model.specs.Names.{IsNamespace}
use Rattle.base_model.proofs.OpenNames.{makes}

pub sample_namespace : IsNamespace (codes "d.c")
sample_namespace = (codes "d", codes "c", refl, (makes (codes "d") (codes "c") refl).0)
