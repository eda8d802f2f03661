use Rattle.std.proofs.Common.{rules}
use Rattle.update_ops.specs.Ops.{effect_shown}
use Rattle.shard_store.proofs.Effects.{done_does, unmet_stays}
use Rattle.shard_store.proofs.effect.Effect.done.Goals as goal

pub returns-clause-does : goal.returns-clause-does
returns-clause-does c = λ write before made.
    let a = c.args.applied in
    done_does write before a c.in_ok-left.left _ made (c.in_ok-left.ensures before (λ zero. unmet_stays write before (effect_shown a) made zero)) (search rules)
