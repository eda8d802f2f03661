-- The time for which a table is requested, by the definitions.
use Rattle.node_model.specs.Letters as letters
use Rattle.node_model.specs.Letters.{no_time, at_time}
use Rattle.protocol_model.specs.declared.tables.At.{At}
use Rattle.protocol_model.specs.declared.tables.At.TheVariants.{NoTime, Time}

abbrev pub at_view : At → letters.At
at_view NoTime = no_time
at_view (Time time) = at_time time.0
