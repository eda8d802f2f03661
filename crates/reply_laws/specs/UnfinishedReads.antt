-- Reads without a result, and statements that were given up.
use Rattle.std.specs.Prelude.{◌≡◌, ◌⊎◌, ℕ, List}
use Rattle.base_model.specs.Refusals.{Refusal}
use Rattle.command_model.specs.Reading.{Reading}
use Rattle.command_model.specs.Answers.{refusal_answer, answer_document}
use Rattle.reply_model.specs.Exchanges.{Asked, Answered}
use Rattle.reply_model.specs.Accounts.{Account}
use Rattle.reply_model.specs.Outcomes.{Try, stale_refusal}
use Rattle.reply_model.specs.Right.{IsGivenUp, WereStale, IsReadRefused}

-- the reply says why: the read is refused, or all its tries met later tables, or it is given up
abbrev pub IsUnfinished : Account → Asked → Answered → Reading → Type 0
IsUnfinished account a t reading =
    IsReadRefused account a t reading
    ⊎ (((tries : List Try) × WereStale account a reading.namespace tries × (t.document ≡ answer_document (refusal_answer (stale_refusal tries))))
    ⊎ ((refusal : Refusal) × IsGivenUp account a t refusal × (t.document ≡ answer_document (refusal_answer refusal))))

-- a statement has this refusal, since all its tries met later tables, or it was given up
abbrev pub WasGivenUp : Account → Asked → Answered → (namespace : List ℕ) → Refusal → Type 0
WasGivenUp account a t namespace refusal =
    ((tries : List Try) × WereStale account a namespace tries × (refusal ≡ stale_refusal tries)) ⊎ IsGivenUp account a t refusal
