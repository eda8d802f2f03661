-- Collections to try the definitions on.
use Rattle.std.specs.Prelude.{codes}
use Rattle.base_model.specs.Times.{timestamp}
use Rattle.chunk_model.specs.Catalogue.{Creation}

-- the collection d.c begins at Timestamp(1000, 1), as the first of that name
abbrev pub creation : Creation
creation = record { namespace = codes "d.c"; epoch = 1; at = timestamp 1000 1 }
