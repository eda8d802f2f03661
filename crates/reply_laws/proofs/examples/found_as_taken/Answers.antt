-- The find is of the time that its router knew.
use Rattle.std.proofs.Common.{[], ◌∷◌, refl, arith}
use Rattle.std.specs.Prelude.{None}
use Rattle.command_laws.specs.SampleRequests.{five}
use Rattle.base_model.specs.Times.{timestamp}
use Rattle.reply_model.specs.Reads.{own_time}
use Rattle.reply_laws.specs.SampleExchanges.{changed_five, finding_at, is_shown_at, three_writes}
use Rattle.reply_laws.proofs.KeyFinds.{key_find_right}
use Rattle.reply_laws.proofs.examples.found_as_taken.Goals as goal

pub returns-clause-right : goal.returns-clause-right
returns-clause-right c =
    key_find_right three_writes (finding_at 3) (is_shown_at 3 5 (changed_five ∷ []) 3) five None (timestamp 1000 3) (changed_five ∷ []) refl
    (own_time refl tt) refl (omega arith) refl refl
