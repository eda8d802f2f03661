-- The greatest time.
use Rattle.std.specs.Prelude.{ℕ, Option, Some}
use Rattle.reply_model.specs.Outcomes.{StatementOutcome, was_done, was_refused, later}

-- the greatest of a time, if there is one, and of the time of the next outcome's entry, if it has one
abbrev pub greatest : Option ℕ → StatementOutcome → Option ℕ
greatest time (was_done next outcome) = Some (later next time)
greatest time (was_refused refusal) = time
