use Rattle.std.proofs.Common.{◌≤◌, inl, inr, refl, arith}
use Rattle.pipeline_laws.proofs.SampleRuns.{at_most}
use Rattle.pipeline_laws.proofs.batches.batches.Goals as goal

not_below : 1 ≤ 0 → ⊥
not_below h = omega arith

not_two : 2 ≤ 1 → ⊥
not_two h = omega arith

pub returns-clause-none : goal.returns-clause-none
returns-clause-none c = record {
  front = refl;
  allowed = record { there = at_most 0 1 refl; few = at_most 0 0 refl; small = inl (at_most 0 1 refl) };
  longest = λ n h. h.few;
}

pub returns-clause-few : goal.returns-clause-few
returns-clause-few c = record {
  front = refl;
  allowed = record { there = at_most 2 3 refl; few = at_most 2 2 refl; small = inr (at_most 42 16777216 refl) };
  longest = λ n h. h.few;
}

pub returns-clause-all : goal.returns-clause-all
returns-clause-all c = record {
  front = refl;
  allowed = record { there = at_most 2 2 refl; few = tt; small = inr (at_most 42 16777216 refl) };
  longest = λ n h. h.there;
}

pub returns-clause-not_empty : goal.returns-clause-not_empty
returns-clause-not_empty c = λ b. not_below (b.longest 1 (record { there = at_most 1 1 refl; few = tt; small = inl (at_most 1 1 refl) }))

pub returns-clause-too_short : goal.returns-clause-too_short
returns-clause-too_short c = λ b. not_two (b.longest 2 (record { there = at_most 2 2 refl; few = at_most 2 2 refl; small = inr (at_most 42 16777216 refl) }))
