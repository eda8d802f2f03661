use Rattle.std.proofs.Common.{rules}
use Rattle.chunk_table.proofs.table.Table.longer_than.Goals as goal

-- src/table.rt:205:5
pub returns : goal.returns
returns c = search rules
