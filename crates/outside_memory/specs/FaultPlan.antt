-- The plan of failing calls that a memory form follows.
use Rattle.std.specs.Prelude.{ℕ, ◌==◌, List, Bool}
use Rattle.std.specs.List.{list_any}
use Rattle.outside.specs.Causes.{next_count}

-- the numbers of the calls that fail, and how many calls and faults there were
pub record PlanState : Type 0 where
  pub failing : List ℕ
  pub calls : ℕ
  pub faults : ℕ

-- no call was made yet
abbrev pub fresh_plan : List ℕ → PlanState
fresh_plan numbers = record { failing = numbers; calls = 0; faults = 0 }

-- the plan's next call fails
abbrev pub fails_now : PlanState → Bool
fails_now p = list_any (λ k. k == p.calls) p.failing

-- the plan after one more call
abbrev pub after_call : PlanState → PlanState
after_call p = record { failing = p.failing; calls = next_count p.calls; faults = p.faults }

-- the plan after one more call, which met a fault
abbrev pub after_fault : PlanState → PlanState
after_fault p = record { failing = p.failing; calls = next_count p.calls; faults = next_count p.faults }
