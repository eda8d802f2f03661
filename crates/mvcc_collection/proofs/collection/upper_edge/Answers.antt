use Rattle.std.proofs.Common.{rules}
use Rattle.mvcc_collection.proofs.collection.upper_edge.Goals as goal

-- at a key
pub returns-in-At : goal.returns-in-At
returns-in-At c = search rules
