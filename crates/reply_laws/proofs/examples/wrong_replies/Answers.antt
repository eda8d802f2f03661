-- No request that was taken is the answer's.
use Rattle.std.proofs.Common.{◌≡◌, ◌≤◌, ap, arith}
use Rattle.std.specs.Prelude.{pos}
use Rattle.history_model.proofs.Lists.{all_at, in_none}
use Rattle.base_model.specs.Identities.{RequestId}
use Rattle.reply_model.specs.Exchanges.{Asked}
use Rattle.reply_laws.specs.SampleExchanges.{all_asked, id_at}
use Rattle.reply_laws.proofs.examples.wrong_replies.Goals as goal

other_router : id_at 3 1 ≡ id_at 2 1 → ⊥
other_router e = let routers = ap (λ (id : RequestId). id.router) e in cc

other_count : id_at 2 2 ≡ id_at 2 1 → ⊥
other_count e = let counts = ap (λ (id : RequestId). id.count) e in cc

pub returns-clause-number : goal.returns-clause-number
returns-clause-number c next is = all_at (λ (a : Asked). a.id ≡ id_at 2 1 → a.number ≡ pos 2 → ⊥) is.request all_asked
    ((λ own n. cc), ((λ own n. other_router own), ((λ own n. other_count own), tt))) is.taken is.own is.number

pub returns-clause-link : goal.returns-clause-link
returns-clause-link c next is = all_at (λ (a : Asked). a.link ≡ 1 → ⊥) is.request all_asked ((λ n. cc), ((λ n. cc), ((λ n. cc), tt))) is.taken is.link

pub returns-clause-early : goal.returns-clause-early
returns-clause-early c next is = all_at (λ (a : Asked). a.came ≤ 1 → ⊥) is.request all_asked
    ((λ n. omega (arith, n)), ((λ n. omega (arith, n)), ((λ n. omega (arith, n)), tt))) is.taken is.came

pub returns-clause-not_taken : goal.returns-clause-not_taken
returns-clause-not_taken c next is = in_none is.request is.taken
