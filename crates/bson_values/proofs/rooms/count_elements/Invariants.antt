use Rattle.std.proofs.Common.{length}
use Rattle.bson_values.proofs.rooms.count_elements.Given as goal

abbrev pub decreases-elements : goal.decreases-elements
decreases-elements l = length l.left
