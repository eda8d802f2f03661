use Rattle.std.proofs.Common.{rules}
use Rattle.router_replies.proofs.batches.number_told.Goals as goal

pub returns-then-last : goal.returns-then-last
returns-then-last c = search rules

pub returns-else-last : goal.returns-else-last
returns-else-last c = search rules
