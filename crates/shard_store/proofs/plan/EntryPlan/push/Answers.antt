use Rattle.std.proofs.Common.{refl}
use Rattle.shard_store.proofs.Planning.{pushed}
use Rattle.shard_store.proofs.plan.EntryPlan.push.Goals as goal

pub returns-clause-plan : goal.returns-clause-plan
returns-clause-plan c = λ entries last namespace plan next own.
    let changed = rw c.in_ok-copy.ensures at c.in_ok-insert.ensures.updates.0 in
    pushed entries last namespace c.args.self.now _ c.args.entry plan next own c.requires.later c.requires.index c.requires.key refl refl refl refl c.in_ok-push.ensures.items changed
