use Rattle.pipeline_model.proofs.SortOrder.{keys_total}
use Rattle.pipeline_laws.proofs.laws.sort_order_is_total.Goals as goal

pub returns : goal.returns
returns c = keys_total
