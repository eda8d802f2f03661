use Rattle.std.proofs.Common.{Ok, map, refl, sym, ap, ◌∙◌}
use Rattle.std.specs.Arc.{arc_value}
use Rattle.pipeline_lang.specs.View.{stage_of}
use Rattle.pipeline_model.specs.Projections.{Projection}
use Rattle.pipeline_model.specs.SortKeys.{SortSpec}
use Rattle.pipeline_model.specs.Stages.{count_stage, group_stage, limit_stage, match_stage, project_stage, skip_stage, sort_stage}
use Rattle.query_model.specs.Queries.{Query}
use Rattle.pipeline_eval.proofs.Evaluated.{before_any, does_as, matched, was_limited, was_skipped}
use Rattle.pipeline_eval.proofs.runs.run_stage.Goals as goal

pub returns-in-Match : goal.returns-in-Match
returns-in-Match c = record {
  does =
      does_as c.args.limit (λ ds. map arc_value ds.items) (stage_of c.args.stage.now) (match_stage c.deref.result.now)
      (map arc_value c.args.documents.items) (map arc_value c.args.documents.items) (Ok c.matching.result)
      (ap (λ (q : Query). match_stage q) c.deref.ensures ∙ sym (ap stage_of c.in-Match.is)) refl
      (λ rest out begins run. matched _ _ _ c.matching.ensures rest out run);
}

pub returns-in-Project : goal.returns-in-Project
returns-in-Project c = record {
  does =
      does_as c.args.limit (λ ds. map arc_value ds.items) (stage_of c.args.stage.now) (project_stage c.deref-in-Project.result.now)
      (map arc_value c.args.documents.items) (map arc_value c.deref-in-Project-2.result.now) c.run_project.result
      (ap (λ (p : Projection). project_stage p) c.deref-in-Project.ensures ∙ sym (ap stage_of c.in-Project.is))
      (ap (λ ds. map arc_value ds) c.deref-in-Project-2.ensures.value)
      (before_any c.args.limit (λ ds. map arc_value ds.items) _ _ c.run_project.result c.run_project.ensures.does);
}

pub returns-in-Group : goal.returns-in-Group
returns-in-Group c = record {
  does =
      does_as c.args.limit (λ ds. map arc_value ds.items) (stage_of c.args.stage.now) (group_stage (arc_value c.in-Group.spec))
      (map arc_value c.args.documents.items) (map arc_value c.deref-in-Group.result.now) c.run_group.result
      (sym (ap stage_of c.in-Group.is)) (ap (λ ds. map arc_value ds) c.deref-in-Group.ensures.value)
      (before_any c.args.limit (λ ds. map arc_value ds.items) _ _ c.run_group.result c.run_group.ensures.does);
}

pub returns-in-Sort : goal.returns-in-Sort
returns-in-Sort c = record {
  does =
      does_as c.args.limit (λ ds. map arc_value ds.items) (stage_of c.args.stage.now) (sort_stage c.deref-in-Sort.result.now)
      (map arc_value c.args.documents.items) (map arc_value c.args.documents.items) c.run_sort.result
      (ap (λ (s : SortSpec). sort_stage s) c.deref-in-Sort.ensures ∙ sym (ap stage_of c.in-Sort.is)) refl c.run_sort.ensures.does;
}

pub returns-in-Skip : goal.returns-in-Skip
returns-in-Skip c = record {
  does =
      does_as c.args.limit (λ ds. map arc_value ds.items) (stage_of c.args.stage.now) (skip_stage c.in-Skip.count)
      (map arc_value c.args.documents.items) (map arc_value c.args.documents.items) (Ok c.skipped.result) (sym (ap stage_of c.in-Skip.is)) refl
      (λ rest out begins run. was_skipped arc_value _ _ _ c.skipped.ensures rest out run);
}

pub returns-in-Limit : goal.returns-in-Limit
returns-in-Limit c = record {
  does =
      does_as c.args.limit (λ ds. map arc_value ds.items) (stage_of c.args.stage.now) (limit_stage c.in-Limit.count)
      (map arc_value c.args.documents.items) (map arc_value c.args.documents.items) (Ok c.limited.result) (sym (ap stage_of c.in-Limit.is)) refl
      (λ rest out begins run. was_limited arc_value _ _ _ c.limited.ensures rest out run);
}

pub returns-in-Count : goal.returns-in-Count
returns-in-Count c = record {
  does =
      does_as c.args.limit (λ ds. map arc_value ds.items) (stage_of c.args.stage.now) (count_stage c.in-Count.name)
      (map arc_value c.args.documents.items) (map arc_value c.deref-in-Count.result.now) c.run_count.result
      (sym (ap stage_of c.in-Count.is)) (ap (λ ds. map arc_value ds) c.deref-in-Count.ensures.value)
      (before_any c.args.limit (λ ds. map arc_value ds.items) _ _ c.run_count.result c.run_count.ensures.does);
}
