use Rattle.std.proofs.Common.{◌≡◌, List, ℕ, ap}
use Rattle.std.specs.Prelude.{Option, None}
use Rattle.std.proofs.lemmas.Result.{err_from_is_err_and}
use Rattle.record_parts.specs.Readers.{◌>>=◌, eight_at}
use Rattle.record_reader.specs.RecordReaders.{receive_start_at}
use Rattle.record_parts.proofs.Again.{stepped}
use Rattle.record_parts.proofs.Items.{failed}
use Rattle.record_reader.proofs.moves.read_receive_start.Goals as goal

-- a step finds nothing, nor do the next ones
missed : {A B : Type 0} {found : Option A} (f : A → Option B) → found ≡ None → (found >>= f) ≡ None
missed f e = ap (λ o. o >>= f) e

pub returns-in_err-time-clause-found : goal.returns-in_err-time-clause-found
unfolding receive_start_at
returns-in_err-time-clause-found c =
    let p = err_from_is_err_and c.from_residual-in_err-time.result c.from_residual-in_err-time.ensures.1 in
    rw (p.1, p.2) (failed c.in_err-time.field-0.0 (eight_at c.in_ok-table.rest.now) (receive_start_at c.args.bytes.now)
    (λ none. stepped _ c.in_ok-id.ensures (stepped _ c.in_ok-namespace.ensures.found (stepped _ c.in_ok-range.ensures.found
    (stepped _ c.in_ok-from.ensures (stepped _ c.in_ok-table.ensures.found (missed _ none)))))) c.in_err-time.ensures)
