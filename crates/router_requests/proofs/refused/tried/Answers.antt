use Rattle.std.proofs.Common.{sym}
use Rattle.chunk_table.specs.Meanings.{version_view}
use Rattle.router_requests.proofs.GivenUp.{tried_first}
use Rattle.router_requests.proofs.refused.tried.Goals as goal

pub returns-in-Some : goal.returns-in-Some
returns-in-Some c = sym (tried_first (version_view c.args.met) c.args.targets.now c.in-Some.target.now (sym (rw c.in-Some.is at c.first.ensures.value)))
