use Rattle.std.proofs.Common.{rules}
use Rattle.update_ops.specs.Ops.{write_of}
use Rattle.shard_store.proofs.Effects.{fault_does}
use Rattle.shard_store.proofs.effect.Effect.of_op.Goals as goal

pub returns-in_ok-of-in-Err-clause-does : goal.returns-in_ok-of-in-Err-clause-does
returns-in_ok-of-in-Err-clause-does c = fault_does (write_of c.args.op.now) _ _ c.in-Err.fault _ _ c.in-Err.ensures.fault (search rules) c.refused-in-Err.ensures.left c.refused-in-Err.ensures.told
