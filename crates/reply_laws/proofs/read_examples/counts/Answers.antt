-- The three documents are counted.
use Rattle.std.proofs.Common.{pos, [], ◌∷◌, take, drop, refl, arith, codes}
use Rattle.std.specs.Prelude.{Some, None}
use Rattle.std.proofs.lemmas.List.Sorted.{IsPermutation-refl}
use Rattle.bson_model.specs.Tree.{no_fields}
use Rattle.base_model.specs.Times.{timestamp}
use Rattle.pipeline_model.specs.Stages.{skip_stage, limit_stage, count_stage}
use Rattle.pipeline_model.specs.Runs.{no_stage_run, skip_run, limit_run, count_run, listed, count_documents}
use Rattle.reply_model.specs.Reads.{named_time, own_time}
use Rattle.reply_model.specs.Right.{right_count}
use Rattle.reply_laws.specs.SampleReads.{all_three, batch, kept}
use Rattle.reply_laws.specs.SampleTimes.{counting, reading_of, told_count}
use Rattle.reply_laws.proofs.TimedReads.{no_batch, three_told}
use Rattle.reply_laws.proofs.read_examples.counts.Goals as goal

pub returns-clause-all : goal.returns-clause-all
returns-clause-all c =
    right_count (reading_of (count_stage (codes "n") ∷ []) None None) (timestamp 1000 4) 3 refl (own_time refl tt)
    (record {
      ordered = all_three;
      permutes = IsPermutation-refl all_three;
      runs = count_run (codes "n") [] all_three
          (listed (count_documents (codes "n") 3)) (no_stage_run (count_documents (codes "n") 3));
    }) refl

pub returns-clause-passed_over : goal.returns-clause-passed_over
returns-clause-passed_over c =
    right_count (reading_of (skip_stage 1 ∷ limit_stage 5 ∷ count_stage (codes "n") ∷ []) None None) (timestamp 1000 4) 2 refl (own_time refl tt)
    (record {
      ordered = all_three;
      permutes = IsPermutation-refl all_three;
      runs = skip_run 1 (limit_stage 5 ∷ count_stage (codes "n") ∷ []) all_three
          (listed (count_documents (codes "n") 2)) (limit_run 5 (count_stage (codes "n") ∷ []) (drop 1 all_three) (listed (count_documents (codes "n") 2))
          (count_run (codes "n") [] (drop 1 all_three) (listed (count_documents (codes "n") 2)) (no_stage_run (count_documents (codes "n") 2))));
    }) refl

pub returns-clause-without_limit : goal.returns-clause-without_limit
returns-clause-without_limit c =
    right_count (reading_of (count_stage (codes "n") ∷ []) None None) (timestamp 1000 4) 3 refl (own_time refl tt)
    (record {
      ordered = all_three;
      permutes = IsPermutation-refl all_three;
      runs = count_run (codes "n") [] all_three
          (listed (count_documents (codes "n") 3)) (no_stage_run (count_documents (codes "n") 3));
    }) refl

pub returns-clause-before_all : goal.returns-clause-before_all
returns-clause-before_all c =
    right_count (reading_of (count_stage (codes "n") ∷ []) (Some (timestamp 1000 0)) None) (timestamp 1000 0) 0 refl
    (named_time (timestamp 1000 0) refl (omega arith))
    (record {
      ordered = [];
      permutes = IsPermutation-refl [];
      runs = count_run (codes "n") [] [] (listed (count_documents (codes "n") 0))
          (no_stage_run (count_documents (codes "n") 0));
    }) refl

pub returns-clause-before_some : goal.returns-clause-before_some
returns-clause-before_some c =
    right_count (reading_of (count_stage (codes "n") ∷ []) (Some (timestamp 1000 3)) None) (timestamp 1000 3) 2 refl
    (named_time (timestamp 1000 3) refl (omega arith))
    (record {
      ordered = (take 2 all_three);
      permutes = IsPermutation-refl (take 2 all_three);
      runs = count_run (codes "n") [] (take 2 all_three) (listed (count_documents (codes "n") 2)) (no_stage_run (count_documents (codes "n") 2));
    }) refl

pub returns-clause-too_few : goal.returns-clause-too_few
returns-clause-too_few c next right =
    let e = three_told (counting no_fields) (told_count (counting no_fields) 2 4) 2 (timestamp 1000 4) next refl refl right refl in cc

pub returns-clause-too_many : goal.returns-clause-too_many
returns-clause-too_many c next right =
    let e = three_told (counting no_fields) (told_count (counting no_fields) 4 4) 4 (timestamp 1000 4) next refl refl right refl in cc

pub returns-clause-as_batch : goal.returns-clause-as_batch
returns-clause-as_batch c next right =
    no_batch kept (counting no_fields) _ (reading_of (count_stage (codes "n") ∷ []) None None) refl (batch (pos 0) all_three) next right refl
