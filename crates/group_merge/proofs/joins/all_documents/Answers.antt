use Rattle.std.proofs.Common.{map}
use Rattle.std.specs.Arc.{arc_value}
use Rattle.pipeline_eval.specs.Rows.{rows_of}
use Rattle.pipeline_model.specs.Halves.{documents_in_part}
use Rattle.group_merge.proofs.Parts.{next_part}
use Rattle.group_merge.proofs.joins.all_documents.Goals as goal

pub parts-preserved : goal.parts-preserved
parts-preserved c =
    next_part rows_of documents_in_part (map arc_value c.parts.all.items) _ c.parts.rest.items c.pop_front.new.self.items c.in-Some.part _
    c.in_ok-put_documents.ensures c.in-Some.ensures.items c.parts.invariant
