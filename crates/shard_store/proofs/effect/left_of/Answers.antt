use Rattle.std.proofs.Common.{sym, rules}
use Rattle.shard_store.proofs.effect.left_of.Goals as goal

pub returns-then-count-eq0 : goal.returns-then-count-eq0
returns-then-count-eq0 c = λ before same. sym (same (search rules))
