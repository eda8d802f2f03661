use Rattle.std.proofs.Common.{arith, length}
use Rattle.std.specs.Arc.{arc_value}
use Rattle.std.proofs.lemmas.List.{length-map}
use Rattle.pipeline_eval.proofs.Evaluated.{was_counted}
use Rattle.pipeline_eval.proofs.runs.run_count.Goals as goal

pub returns : goal.returns
returns c = record { does = was_counted _ (length c.args.documents.now) _ _ c.in_ok-one.ensures (omega (arith, length-map c.args.documents.now arc_value)) }
