-- Orders of three documents.
use Rattle.std.proofs.Common.{◌≡◌, suc, inl, inr, List, [], ◌∷◌, length, take, refl, ap, subst, ◌∙◌, arith}
use Rattle.std.specs.Prelude.{Bool, ◌&&◌, None, filter, IsPermutation}
use Rattle.std.proofs.lemmas.List.Sorted.{IsPermutation-refl, length_permutation}
use Rattle.bson_model.specs.Tree.{Fields}
use Rattle.base_model.specs.Times.{timestamp}
use Rattle.command_laws.specs.SampleRequests.{with_id}
use Rattle.bson_model.specs.Limits.{most_bytes_kept}
use Rattle.pipeline_model.specs.SortKeys.{comes_before}
use Rattle.pipeline_model.specs.Stages.{sort_stage, limit_stage}
use Rattle.pipeline_model.specs.Runs.{no_stage_run, sort_run, limit_run, listed}
use Rattle.pipeline_model.specs.Lengths.{documents_length}
use Rattle.pipeline_model.proofs.Fronts.{opened}
use Rattle.pipeline_model.proofs.OrderedLists.{sorted_from_up}
use Rattle.pipeline_laws.proofs.PartRows.{chain_of, one_way_of}
use Rattle.pipeline_laws.proofs.SampleRuns.{at_most}
use Rattle.reply_model.specs.Reads.{own_time}
use Rattle.reply_laws.specs.SampleReads.{all_three, by_id, kept, one, two, three}
use Rattle.reply_laws.specs.SampleTimes.{at_most_two, by_x, least_one, reads_all, told_at}
use Rattle.reply_laws.proofs.FilteredOrders.{filter_permutes}
use Rattle.reply_laws.proofs.KeyFinds.{told_of}
use Rattle.reply_laws.proofs.TimedReads.{find_right, told_first}
use Rattle.reply_laws.proofs.read_examples.limits.Goals as goal

one_last : IsPermutation all_three (with_id three ∷ with_id one ∷ with_id two ∷ [])
one_last = record { moves = (1, 2) ∷ (0, 2) ∷ []; below = (omega arith, omega arith, (omega arith, omega arith, tt)); is = refl }

three_first : IsPermutation all_three (with_id three ∷ with_id two ∷ with_id one ∷ [])
three_first = record { moves = (0, 2) ∷ []; below = (omega arith, omega arith, tt); is = refl }

pub returns-clause-first_two : goal.returns-clause-first_two
returns-clause-first_two c =
    find_right kept (reads_all at_most_two) (told_at (reads_all at_most_two) 4 (with_id one ∷ with_id two ∷ [])) (limit_stage 2 ∷ []) None None refl
    (timestamp 1000 4) (with_id one ∷ with_id two ∷ []) (own_time refl tt)
    (record {
      ordered = all_three;
      permutes = IsPermutation-refl all_three;
      runs = limit_run 2 [] all_three (listed (with_id one ∷ with_id two ∷ []))
          (no_stage_run (with_id one ∷ with_id two ∷ []));
    }) (omega arith)
    (inr (at_most (documents_length (with_id one ∷ with_id two ∷ [])) most_bytes_kept refl)) refl refl

pub returns-clause-other_two : goal.returns-clause-other_two
returns-clause-other_two c =
    find_right kept (reads_all at_most_two) (told_at (reads_all at_most_two) 4 (with_id three ∷ with_id one ∷ [])) (limit_stage 2 ∷ []) None None refl
    (timestamp 1000 4) (with_id three ∷ with_id one ∷ []) (own_time refl tt)
    (record {
      ordered = (with_id three ∷ with_id one ∷ with_id two ∷ []);
      permutes = one_last;
      runs = limit_run 2 [] (with_id three ∷ with_id one ∷ with_id two ∷ []) (listed (with_id three ∷ with_id one ∷ []))
          (no_stage_run (with_id three ∷ with_id one ∷ []));
    }) (omega arith)
    (inr (at_most (documents_length (with_id three ∷ with_id one ∷ [])) most_bytes_kept refl)) refl refl

same_list : (documents others : List Fields) → listed documents ≡ listed others → documents ≡ others
same_list documents others e = cc

-- what is shown of the first two
never_three : (ordered : List Fields) → all_three ≡ take 3 (take 2 ordered) → ⊥
never_three [] e = cc
never_three (a ∷ []) e = cc
never_three (a ∷ b ∷ others) e = cc

abbrev between : Fields → Bool
between d = comes_before by_id (with_id one) d && comes_before by_id d (with_id three)

never_twice : (ordered : List Fields) → IsPermutation all_three ordered → with_id two ∷ with_id two ∷ [] ≡ take 2 (take 2 ordered) → ⊥
never_twice [] permutes e = cc
never_twice (a ∷ []) permutes e = cc
never_twice (a ∷ b ∷ others) permutes e =
    let first : a ≡ with_id two = cc in
    let second : b ≡ with_id two = cc in
    let these : a ∷ b ∷ others ≡ with_id two ∷ with_id two ∷ others = cc in
    let moved = subst (λ (l : List Fields). IsPermutation all_three l) these permutes in
    let long : suc (suc (length (filter between others))) ≡ 1 =
    length_permutation (filter between all_three) (filter between (with_id two ∷ with_id two ∷ others))
    (filter_permutes between all_three (with_id two ∷ with_id two ∷ others) moved) in
    omega (arith, long)

pub returns-clause-three : goal.returns-clause-three
returns-clause-three c next right =
    let told = told_first kept (reads_all at_most_two) (told_at (reads_all at_most_two) 4 all_three) (limit_stage 2 ∷ []) None None refl
    (told_of all_three (timestamp 1000 4)) next right refl in
    let whole : told.documents ≡ take 2 told.gives.ordered = same_list told.documents (take 2 told.gives.ordered) (opened (opened told.gives.runs)) in
    let front = told.shows.batch_of.front in
    never_three told.gives.ordered (front ∙ ap (λ (l : List Fields). take 3 l) whole)

pub returns-clause-twice : goal.returns-clause-twice
returns-clause-twice c next right =
    let told = told_first kept (reads_all at_most_two) (told_at (reads_all at_most_two) 4 (with_id two ∷ with_id two ∷ []))
    (limit_stage 2 ∷ []) None None refl (told_of (with_id two ∷ with_id two ∷ []) (timestamp 1000 4)) next right refl in
    let whole : told.documents ≡ take 2 told.gives.ordered = same_list told.documents (take 2 told.gives.ordered) (opened (opened told.gives.runs)) in
    let front = told.shows.batch_of.front in
    never_twice told.gives.ordered told.gives.permutes (front ∙ ap (λ (l : List Fields). take 2 l) whole)

pub returns-clause-least : goal.returns-clause-least
returns-clause-least c =
    find_right kept (reads_all least_one) (told_at (reads_all least_one) 4 (with_id one ∷ [])) (sort_stage by_x ∷ limit_stage 1 ∷ []) None None refl
    (timestamp 1000 4) (with_id one ∷ []) (own_time refl tt)
    (record {
      ordered = all_three;
      permutes = IsPermutation-refl all_three;
      runs = sort_run by_x (limit_stage 1 ∷ []) all_three all_three (listed (with_id one ∷ [])) (IsPermutation-refl all_three)
          (sorted_from_up (comes_before by_x) (chain_of by_x) (one_way_of by_x) all_three ((refl, (refl, tt)), ((refl, tt), (tt, tt))))
          (limit_run 1 [] all_three (listed (with_id one ∷ [])) (no_stage_run (with_id one ∷ [])));
    }) (omega arith)
    (inl (omega arith)) refl refl

pub returns-clause-least_too : goal.returns-clause-least_too
returns-clause-least_too c =
    find_right kept (reads_all least_one) (told_at (reads_all least_one) 4 (with_id three ∷ [])) (sort_stage by_x ∷ limit_stage 1 ∷ []) None None refl
    (timestamp 1000 4) (with_id three ∷ []) (own_time refl tt)
    (record {
      ordered = all_three;
      permutes = IsPermutation-refl all_three;
      runs = sort_run by_x (limit_stage 1 ∷ []) all_three (with_id three ∷ with_id two ∷ with_id one ∷ []) (listed (with_id three ∷ [])) three_first
          (sorted_from_up (comes_before by_x) (chain_of by_x) (one_way_of by_x) (with_id three ∷ with_id two ∷ with_id one ∷ [])
          ((refl, (refl, tt)), ((refl, tt), (tt, tt)))) (limit_run 1 [] (with_id three ∷ with_id two ∷ with_id one ∷ []) (listed (with_id three ∷ []))
          (no_stage_run (with_id three ∷ [])));
    }) (omega arith)
    (inl (omega arith)) refl refl
