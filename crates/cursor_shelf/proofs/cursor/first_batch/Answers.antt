use Rattle.std.proofs.Common.{◌≡◌, ap, sym, subst, ◌∙◌, List, map, rules}
use Rattle.std.specs.Arc.{arc_value}
use Rattle.bson_model.specs.Tree.{Fields}
use Rattle.pipeline_model.specs.Batches.{IsBatch}
use Rattle.cursor_shelf.proofs.Longest.{taken_batch, taken_rest}
use Rattle.cursor_shelf.proofs.cursor.first_batch.Goals as goal

pub returns-clause-batch : goal.returns-clause-batch
returns-clause-batch c =
    taken_batch arc_value c.args.size c.from-rest.result.items c.args.documents.items c.in_ok-documents.documents.items c.batch_length-count.result c.from-rest.ensures.0
    c.batch_length-count.ensures c.in_ok-documents.ensures.front

pub returns-clause-rest : goal.returns-clause-rest
returns-clause-rest c =
    taken_rest arc_value c.args.size c.from-rest.result.items c.args.documents.items c.in_ok-documents.documents.items c.take_front.new.remaining.items c.batch_length-count.result c.from-rest.ensures.0
    c.batch_length-count.ensures c.in_ok-documents.ensures.front c.in_ok-documents.ensures.rest
