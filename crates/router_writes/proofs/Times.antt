-- The greatest time of entries is the greatest of those visited and of those left.
use Rattle.std.proofs.Common.{◌≡◌, refl, ap, ℕ, List, ◌∷◌, max, arith}
use Rattle.std.specs.Prelude.{Option, Some, None}
use Rattle.std.specs.Option.{option_map, unwrap_or}
use Rattle.cluster_base.specs.declared.time.Time.{Time}
use Rattle.reply_model.specs.Outcomes.{Done, StatementOutcome, was_done, was_refused, later, time_of}
use Rattle.router_writes.specs.Counts.{greatest}

-- the greatest of both, where they exist
abbrev pub latest : Option ℕ → Option ℕ → Option ℕ
latest None behind = behind
latest (Some time) behind = Some (later time behind)

pub latest_of_all : (time : Option ℕ) → latest time None ≡ time
latest_of_all None = refl
latest_of_all (Some time) = refl

later_swapped : (a b : ℕ) (behind : Option ℕ) → later a (Some (later b behind)) ≡ later (max b a) behind
later_swapped a b None = omega arith
later_swapped a b (Some c) = omega arith

by_answer : (time behind : Option ℕ) (answer : StatementOutcome)
    → latest time (elim answer as (λ (a : StatementOutcome). Option ℕ) [ was_done next outcome ↦ Some (later next behind) | was_refused refusal ↦ behind ]) ≡ latest (greatest time answer) behind
by_answer None behind (was_done next outcome) = refl
by_answer (Some time) behind (was_done next outcome) = ap (λ (t : ℕ). Some t) (later_swapped time next behind)
by_answer time behind (was_refused refusal) = refl

-- one more outcome
pub latest_goes_on : (time : Option ℕ) (d : Done) (dones : List Done) → latest time (time_of (d ∷ dones)) ≡ latest (greatest time d.answer) (time_of dones)
latest_goes_on time d dones = by_answer time (time_of dones) d.answer

pub time_told : (found : Option Time) (time : Time) → (unwrap_or found time).0 ≡ unwrap_or (option_map (λ (t : Time). t.0) found) time.0
time_told None time = refl
time_told (Some t) time = refl
