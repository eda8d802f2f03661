-- By their steps and times.
use Rattle.std.proofs.Common.{◌≤◌, ◌<◌, refl, arith}
use Rattle.base_model.specs.Times.{timestamp}
use Rattle.history_model.proofs.Lists.{all_at}
use Rattle.reply_model.specs.Exchanges.{Asked}
use Rattle.reply_laws.specs.SampleExchanges.{all_asked}
use Rattle.reply_laws.proofs.examples.stale.Goals as goal

pub returns-clause-told : goal.returns-clause-told
returns-clause-told c fresh =
    let most : timestamp 1000 2 ≤ timestamp 1000 1 = fresh.0 (timestamp 1000 2) refl refl (omega arith) refl in
    omega (arith, most)

pub returns-clause-not_later : goal.returns-clause-not_later
returns-clause-not_later c sent =
    all_at (λ (a : Asked). a.time < timestamp 1000 0 → ⊥) sent.request all_asked
    ((λ less. omega (arith, less)), ((λ less. omega (arith, less)), ((λ less. omega (arith, less)), tt)))
    sent.taken sent.later
