use Rattle.std.proofs.Common.{rules}
use Rattle.chunk_table.proofs.verdict.check.Goals as goal

-- src/verdict.rt:54:9
pub returns-then-is_later : goal.returns-then-is_later
returns-then-is_later c = search rules

-- src/verdict.rt:57:9
pub returns-then-agrees : goal.returns-then-agrees
returns-then-agrees c = search rules

-- src/verdict.rt:46:1
pub returns : goal.returns
returns c = search rules
