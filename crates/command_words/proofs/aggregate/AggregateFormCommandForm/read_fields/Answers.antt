use Rattle.std.proofs.Common.{◌∙◌, sym}
use Rattle.command_fields.specs.Words.{pipeline_view}
use Rattle.command_words.proofs.WordRules.{aggregate_behind}
use Rattle.command_words.proofs.aggregate.AggregateFormCommandForm.read_fields.Goals as goal

pub returns-in-Some : goal.returns-in-Some
returns-in-Some c = λ own value others named is. sym (aggregate_behind (pipeline_view c.in_ok-pipeline.pipeline) c.args.document.now own value others c.in_ok-pipeline.ensures is) ∙ sym (c.in-Some.ensures own value others is)

pub returns-in-None : goal.returns-in-None
returns-in-None c = λ own value others named is. (sym (aggregate_behind (pipeline_view c.in_ok-pipeline.pipeline) c.args.document.now own value others c.in_ok-pipeline.ensures is) ∙ sym (c.in-None.ensures own value others is), c.in_ok-pipeline.ensures)
