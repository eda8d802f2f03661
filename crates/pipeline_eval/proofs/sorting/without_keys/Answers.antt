use Rattle.std.proofs.Common.{refl}
use Rattle.std.specs.Arc.{arc_value}
use Rattle.pipeline_eval.specs.Keyed.{document_of}
use Rattle.pipeline_eval.proofs.Sorts.{next_put}
use Rattle.pipeline_eval.proofs.sorting.without_keys.Goals as goal

pub rows-preserved : goal.rows-preserved
rows-preserved c =
    next_put arc_value document_of c.rows.documents.items _ c.in-Some.row.document c.rows.rest.items c.pop_front.new.self.items c.in-Some.row _
    c.in_ok-push.ensures.items c.in-Some.ensures.items refl c.rows.invariant
