-- What the stage of a copy says of the source.
use Rattle.std.proofs.Common.{◌≡◌, refl}
use Rattle.std.specs.Prelude.{ℕ, Bool, true, false, if◌then◌else◌}
use Rattle.std.specs.Ordering.{is_lt}
use Rattle.value_compare.specs.Keys.{order_bounds}
use Rattle.migration_source.specs.Sources.{Source, Stage, at_end_stage, has_some, ready_stage, stage_of, unanswered_stage}
use Rattle.migration_source.specs.Givings.{IsAtEnd}

at_end_by : (s : Source) (left u b : Bool) → is_lt (order_bounds s.cursor s.range.max) ≡ b →
    at_end_stage left ≡ (if u then unanswered_stage s.number else if b then ready_stage else at_end_stage (has_some s.changed)) → IsAtEnd s
at_end_by s left true b e is = absurd (cc is)
at_end_by s left false true e is = absurd (cc is)
at_end_by s left false false e is = e

pub at_end : (s : Source) (left : Bool) → at_end_stage left ≡ stage_of s → IsAtEnd s
at_end s left is = at_end_by s left s.unanswered (is_lt (order_bounds s.cursor s.range.max)) refl is

answered_by : (s : Source) (u : Bool) → s.unanswered ≡ u → (st : Stage) → ((n : ℕ) → st ≡ unanswered_stage n → ⊥) →
    st ≡ (if u then unanswered_stage s.number else if is_lt (order_bounds s.cursor s.range.max) then ready_stage else at_end_stage (has_some s.changed)) → s.unanswered ≡ false
answered_by s true e st none is = absurd (none s.number is)
answered_by s false e st none is = e

pub ready : (s : Source) → ready_stage ≡ stage_of s → s.unanswered ≡ false
ready s is = answered_by s s.unanswered refl ready_stage (λ n e. cc e) is

pub ended : (s : Source) (left : Bool) → at_end_stage left ≡ stage_of s → s.unanswered ≡ false
ended s left is = answered_by s s.unanswered refl (at_end_stage left) (λ n e. cc e) is
