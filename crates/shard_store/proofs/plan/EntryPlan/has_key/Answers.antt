use Rattle.std.proofs.Common.{◌∙◌}
use Rattle.shard_store.proofs.plan.EntryPlan.has_key.Goals as goal

pub returns : goal.returns
returns c = λ entries last namespace plan. c.contains_key.ensures ∙ plan.taken c.args.key.now
