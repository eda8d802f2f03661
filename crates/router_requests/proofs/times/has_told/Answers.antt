use Rattle.std.proofs.Common.{◌∙◌}
use Rattle.router_requests.proofs.Told.{is_told}
use Rattle.router_requests.proofs.times.has_told.Goals as goal

pub returns : goal.returns
returns c = c.contains.ensures.value ∙ is_told c.args.shard.0 c.args.told.now
