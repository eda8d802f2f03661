use Rattle.std.proofs.Common.{◌∙◌, ap}
use Rattle.field_paths.specs.References.{seen}
use Rattle.pipeline_model.specs.SortKeys.{directed, order_parts}
use Rattle.sort_keys.proofs.Firsts.{first_found}
use Rattle.sort_keys.specs.View.{best_seen, direction_of}
use Rattle.sort_keys.proofs.candidates.key_part.Goals as goal

pub returns : goal.returns
returns c =
    let found =
    first_found (directed (direction_of c.args.field.now.direction) order_parts) (best_seen c.first_among-best.result) (best_seen c.with_gap.result)
    (seen c.deref.result.now) _ _ _ c.first_among-best.ensures (ap seen c.deref.ensures.value ∙ c.in_ok-values.ensures) c.with_gap.ensures
    c.gap_at-has_gap.ensures in
    rw found at c.kept.ensures
