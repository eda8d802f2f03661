use Rattle.std.proofs.Common.{rules}
use Rattle.std.specs.Arc.{arc_value}
use Rattle.shard_store.proofs.Effects.{insert_large, insert_puts, insert_stands}
use Rattle.shard_store.proofs.effect.Effect.of_insert.Goals as goal

pub returns-then-stands-clause-does : goal.returns-then-stands-clause-does
returns-then-stands-clause-does c = λ before is. insert_stands (arc_value c.args.document.now) before _ _ (search rules) c.refused.ensures.left c.refused.ensures.told

pub returns-then-size-gt-MOST_BYTES-clause-does : goal.returns-then-size-gt-MOST_BYTES-clause-does
returns-then-size-gt-MOST_BYTES-clause-does c = λ before is.
    insert_large (arc_value c.args.document.now) before _ _ (search rules) (search rules) c.refused-then-size-gt-MOST_BYTES.ensures.left c.refused-then-size-gt-MOST_BYTES.ensures.told

pub returns-clause-does : goal.returns-clause-does
returns-clause-does c = λ before is.
    insert_puts (arc_value c.args.document.now) before _ _ (search rules) c.requires (search rules) (search rules) c.inserted.ensures
