-- What a statement does to what is stored under its key.
use Rattle.std.specs.Prelude.{◌≡◌, Option, Ok}
use Rattle.bson_values.specs.Tree.{Fields}
use Rattle.query_model.specs.Writes.{Write}
use Rattle.history_model.specs.History.{effect_read}
use Rattle.shard_store.specs.Entries.{left_behind}
use Rattle.shard_store.specs.Outcomes.{outcome_view}
use Rattle.shard_store.specs.declared.entry.Left.{Left}
use Rattle.shard_store.specs.declared.outcome.EntryOutcome.{EntryOutcome}

-- where this is stored, the write results in that, with this outcome
pub record Does (write : Write) (before : Option Fields) (left : Left) (outcome : EntryOutcome) : Type 0 where
  pub leaves : left_behind left before ≡ (effect_read (Ok write) before).0
  pub told : outcome_view outcome ≡ (effect_read (Ok write) before).1
