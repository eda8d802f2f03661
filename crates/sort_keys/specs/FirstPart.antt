-- The first part of a list, given the first of the parts before it.
use Rattle.std.specs.Prelude.{List, [], ◌∷◌, Option, Some, None, if◌then◌else◌}
use Rattle.std.specs.declared.cmp.Ordering.{Ordering}
use Rattle.std.specs.Ordering.{is_lt}
use Rattle.pipeline_model.specs.SortKeys.{KeyPart}

abbrev pub best_of : (KeyPart → KeyPart → Ordering) → Option KeyPart → List KeyPart → Option KeyPart
best_of R best [] = best
best_of R None (p ∷ ps) = best_of R (Some p) ps
best_of R (Some best) (p ∷ ps) = best_of R (Some (if is_lt (R p best) then p else best)) ps
