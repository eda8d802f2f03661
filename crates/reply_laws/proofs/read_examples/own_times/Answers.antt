-- The router had reached Timestamp(1000, 4) as it took the request.
use Rattle.std.proofs.Common.{◌≡◌, ℕ, inr, List, [], ◌∷◌, refl, sym, subst, arith, codes}
use Rattle.std.specs.Prelude.{Option, None, IsPermutation}
use Rattle.std.proofs.lemmas.List.Sorted.{IsPermutation-refl}
use Rattle.bson_model.specs.Tree.{Fields, no_fields}
use Rattle.base_model.specs.Times.{timestamp}
use Rattle.command_laws.specs.SampleRequests.{with_id}
use Rattle.bson_model.specs.Limits.{most_bytes_kept}
use Rattle.pipeline_model.specs.Runs.{no_stage_run, listed}
use Rattle.pipeline_model.specs.Batches.{IsSmall}
use Rattle.pipeline_model.specs.Lengths.{documents_length}
use Rattle.pipeline_laws.proofs.SampleRuns.{at_most}
use Rattle.history_model.specs.Documents.{documents_at}
use Rattle.reply_model.specs.Reads.{own_time, MayGive}
use Rattle.reply_laws.specs.SampleReads.{all_three, one, two}
use Rattle.reply_laws.specs.SampleTimes.{all_four, grown, reading_of, reads_all, told_at}
use Rattle.reply_laws.proofs.TimedReads.{own_is, find_right, find_time}
use Rattle.reply_laws.proofs.read_examples.own_times.Goals as goal

gives_at : (at after : Option ℕ) (time : ℕ) (documents : List Fields) → documents_at grown (codes "d.c") time ≡ documents
    → MayGive grown (reading_of [] at after) time (listed documents)
gives_at at after time documents there = record {
  ordered = documents;
  permutes = subst (λ (l : List Fields). IsPermutation l documents) (sym there) (IsPermutation-refl documents);
  runs = no_stage_run documents;
}

small_three : IsSmall all_three
small_three = inr (at_most (documents_length all_three) most_bytes_kept refl)

pub returns-clause-own : goal.returns-clause-own
returns-clause-own c =
    find_right grown (reads_all no_fields) (told_at (reads_all no_fields) 4 all_three) [] None None refl (timestamp 1000 4) all_three (own_time refl tt)
    (gives_at None None (timestamp 1000 4) all_three refl) (omega arith) small_three refl refl

pub returns-clause-later : goal.returns-clause-later
returns-clause-later c next right =
    let read = find_time grown (reads_all no_fields) (told_at (reads_all no_fields) 5 all_four) [] None None refl next (timestamp 1000 5) right refl in
    let e : timestamp 1000 5 ≡ timestamp 1000 4 = own_is (reads_all no_fields) (told_at (reads_all no_fields) 5 all_four) [] (timestamp 1000 5) read in
    omega (arith, e)

pub returns-clause-last : goal.returns-clause-last
returns-clause-last c next right =
    let read = find_time grown (reads_all no_fields) (told_at (reads_all no_fields) 6 all_four) [] None None refl next (timestamp 1000 6) right refl in
    let e : timestamp 1000 6 ≡ timestamp 1000 4 = own_is (reads_all no_fields) (told_at (reads_all no_fields) 6 all_four) [] (timestamp 1000 6) read in
    omega (arith, e)

pub returns-clause-earlier : goal.returns-clause-earlier
returns-clause-earlier c next right =
    let read = find_time grown (reads_all no_fields) (told_at (reads_all no_fields) 3 (with_id one ∷ with_id two ∷ [])) [] None None refl next
    (timestamp 1000 3) right refl in
    let e : timestamp 1000 3 ≡ timestamp 1000 4 = own_is (reads_all no_fields) (told_at (reads_all no_fields) 3 (with_id one ∷ with_id two ∷ [])) []
    (timestamp 1000 3) read in omega (arith, e)
