-- A time that is named is before the router's, or it is ahead.
use Rattle.std.proofs.Common.{◌≡◌, ℕ, ◌<◌, ◌≤◌, inr, List, [], ◌∷◌, refl, sym, subst, arith, codes}
use Rattle.std.specs.Prelude.{Option, Some, None, IsPermutation}
use Rattle.std.proofs.lemmas.List.Sorted.{IsPermutation-refl}
use Rattle.bson_model.specs.Tree.{Fields}
use Rattle.base_model.specs.Times.{timestamp}
use Rattle.command_laws.specs.SampleRequests.{with_id}
use Rattle.bson_model.specs.Limits.{most_bytes_kept}
use Rattle.pipeline_model.specs.Runs.{no_stage_run, listed}
use Rattle.pipeline_model.specs.Batches.{IsSmall}
use Rattle.pipeline_model.specs.Lengths.{documents_length}
use Rattle.pipeline_laws.proofs.SampleRuns.{at_most}
use Rattle.history_model.specs.Documents.{documents_at}
use Rattle.reply_model.specs.Reads.{named_time, MayGive}
use Rattle.reply_laws.specs.SampleReads.{all_three, one, two}
use Rattle.reply_laws.specs.SampleTimes.{all_four, concern_at, grown, reading_of, reads_all, told_ahead, told_at}
use Rattle.reply_laws.proofs.TimedReads.{at_is, find_right, find_time, ahead_right, ahead_of}
use Rattle.reply_laws.proofs.read_examples.times_named.Goals as goal

gives_at : (at after : Option ℕ) (time : ℕ) (documents : List Fields) → documents_at grown (codes "d.c") time ≡ documents
    → MayGive grown (reading_of [] at after) time (listed documents)
gives_at at after time documents there = record {
  ordered = documents;
  permutes = subst (λ (l : List Fields). IsPermutation l documents) (sym there) (IsPermutation-refl documents);
  runs = no_stage_run documents;
}

small_two : IsSmall (with_id one ∷ with_id two ∷ [])
small_two = inr (at_most (documents_length (with_id one ∷ with_id two ∷ [])) most_bytes_kept refl)

pub returns-clause-named : goal.returns-clause-named
returns-clause-named c =
    find_right grown (reads_all (concern_at 3)) (told_at (reads_all (concern_at 3)) 3 (with_id one ∷ with_id two ∷ [])) []
    (Some (timestamp 1000 3)) None refl (timestamp 1000 3) (with_id one ∷ with_id two ∷ []) (named_time (timestamp 1000 3) refl (omega arith))
    (gives_at (Some (timestamp 1000 3)) None (timestamp 1000 3) (with_id one ∷ with_id two ∷ []) refl) (omega arith) small_two refl refl

pub returns-clause-another : goal.returns-clause-another
returns-clause-another c next right =
    let read = find_time grown (reads_all (concern_at 3)) (told_at (reads_all (concern_at 3)) 4 all_three) [] (Some (timestamp 1000 3)) None refl next
    (timestamp 1000 4) right refl in
    let e : timestamp 1000 4 ≡ timestamp 1000 3 = (at_is (reads_all (concern_at 3)) (told_at (reads_all (concern_at 3)) 4 all_three) [] (timestamp 1000 3)
    (timestamp 1000 4) read).0 in omega (arith, e)

pub returns-clause-not_ahead : goal.returns-clause-not_ahead
returns-clause-not_ahead c next right =
    let ahead = ahead_of grown (reads_all (concern_at 3)) (told_ahead (reads_all (concern_at 3)) 6) [] (Some (timestamp 1000 3)) None refl next
    (timestamp 1000 3) (timestamp 1000 6) refl right refl in
    let e : timestamp 1000 6 < timestamp 1000 3 = ahead.1 in omega (arith, e)

pub returns-clause-ahead : goal.returns-clause-ahead
returns-clause-ahead c =
    ahead_right grown (reads_all (concern_at 7)) (told_ahead (reads_all (concern_at 7)) 6) [] (Some (timestamp 1000 7)) None refl (timestamp 1000 7) refl
    (omega arith) refl

pub returns-clause-ahead_of_less : goal.returns-clause-ahead_of_less
returns-clause-ahead_of_less c next right =
    let ahead = ahead_of grown (reads_all (concern_at 7)) (told_ahead (reads_all (concern_at 7)) 4) [] (Some (timestamp 1000 7)) None refl next
    (timestamp 1000 7) (timestamp 1000 4) refl right refl in
    let e : timestamp 1000 4 ≡ timestamp 1000 6 = ahead.0 in omega (arith, e)

pub returns-clause-ahead_of_none : goal.returns-clause-ahead_of_none
returns-clause-ahead_of_none c next right =
    let ahead = ahead_of grown (reads_all (concern_at 7)) (told_ahead (reads_all (concern_at 7)) 7) [] (Some (timestamp 1000 7)) None refl next
    (timestamp 1000 7) (timestamp 1000 7) refl right refl in
    let e : timestamp 1000 7 ≡ timestamp 1000 6 = ahead.0 in omega (arith, e)

pub returns-clause-read_ahead : goal.returns-clause-read_ahead
returns-clause-read_ahead c next right =
    let read = find_time grown (reads_all (concern_at 7)) (told_at (reads_all (concern_at 7)) 7 all_four) [] (Some (timestamp 1000 7)) None refl next
    (timestamp 1000 7) right refl in
    let e : timestamp 1000 7 ≤ timestamp 1000 6 = (at_is (reads_all (concern_at 7)) (told_at (reads_all (concern_at 7)) 7 all_four) [] (timestamp 1000 7)
    (timestamp 1000 7) read).1 in omega (arith, e)
