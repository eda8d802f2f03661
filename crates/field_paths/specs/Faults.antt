-- What a fault of the program says about a path.
use Rattle.field_paths.specs.declared.path.PathFault.{PathFault}
use Rattle.field_paths.specs.declared.path.PathFault.TheVariants.{Empty, Digits, Dollar, Long}
use Rattle.query_model.specs.Paths as paths
use Rattle.query_model.specs.Paths.{empty_part, digits_part, dollar_part, too_long}

abbrev pub shown_as : paths.PathFault → PathFault
shown_as empty_part = Empty
shown_as digits_part = Digits
shown_as dollar_part = Dollar
shown_as too_long = Long
