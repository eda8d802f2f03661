-- The router had reached Timestamp(1000, 4) as it took the request, and (1000, 6) as it answered.
use Rattle.std.proofs.Common.{◌≡◌, ℕ, ◌<◌, ◌≤◌, ◌⊎◌, inl, inr, List, [], ◌∷◌, refl, sym, subst, arith, codes}
use Rattle.std.specs.Prelude.{Option, Some, None, IsPermutation}
use Rattle.std.proofs.lemmas.List.Sorted.{IsPermutation-refl}
use Rattle.bson_model.specs.Tree.{Fields}
use Rattle.base_model.specs.Times.{timestamp}
use Rattle.command_laws.specs.SampleRequests.{with_id}
use Rattle.bson_model.specs.Limits.{most_bytes_kept}
use Rattle.pipeline_model.specs.Runs.{no_stage_run, listed}
use Rattle.pipeline_model.specs.Batches.{IsSmall}
use Rattle.pipeline_model.specs.Lengths.{documents_length}
use Rattle.pipeline_laws.proofs.SampleRuns.{at_most}
use Rattle.history_model.specs.Documents.{documents_at}
use Rattle.reply_model.specs.Reads.{own_time, later_time, MayGive}
use Rattle.reply_laws.specs.SampleReads.{all_three, one, two}
use Rattle.reply_laws.specs.SampleTimes.{all_four, concern_after, grown, reading_of, reads_all, told_ahead, told_at}
use Rattle.reply_laws.proofs.TimedReads.{after_is, find_right, find_time, ahead_right, ahead_of}
use Rattle.reply_laws.proofs.read_examples.times_reached.Goals as goal

gives_at : (at after : Option ℕ) (time : ℕ) (documents : List Fields) → documents_at grown (codes "d.c") time ≡ documents
    → MayGive grown (reading_of [] at after) time (listed documents)
gives_at at after time documents there = record {
  ordered = documents;
  permutes = subst (λ (l : List Fields). IsPermutation l documents) (sym there) (IsPermutation-refl documents);
  runs = no_stage_run documents;
}

small_all : IsSmall all_four
small_all = inr (at_most (documents_length all_four) most_bytes_kept refl)

small_three : IsSmall all_three
small_three = inr (at_most (documents_length all_three) most_bytes_kept refl)

wrong_after : (w time last : ℕ) → ((time ≡ timestamp 1000 4) × (w ≤ timestamp 1000 4)) ⊎ ((timestamp 1000 4 < w) × (w ≤ time) × (time ≤ last))
    → (time ≡ timestamp 1000 4 → w ≤ timestamp 1000 4 → ⊥)
    → (timestamp 1000 4 < w → w ≤ time → time ≤ last → ⊥) → ⊥
wrong_after w time last (inl own) not_own not_later = not_own own.0 own.1
wrong_after w time last (inr later) not_own not_later = not_later later.0 later.1 later.2

pub returns-clause-same : goal.returns-clause-same
returns-clause-same c =
    find_right grown (reads_all (concern_after 4)) (told_at (reads_all (concern_after 4)) 4 all_three) [] None (Some (timestamp 1000 4)) refl
    (timestamp 1000 4) all_three (own_time refl (omega arith))
    (gives_at None (Some (timestamp 1000 4)) (timestamp 1000 4) all_three refl) (omega arith) small_three refl refl

pub returns-clause-passed : goal.returns-clause-passed
returns-clause-passed c =
    find_right grown (reads_all (concern_after 3)) (told_at (reads_all (concern_after 3)) 4 all_three) [] None (Some (timestamp 1000 3)) refl
    (timestamp 1000 4) all_three (own_time refl (omega arith))
    (gives_at None (Some (timestamp 1000 3)) (timestamp 1000 4) all_three refl) (omega arith) small_three refl refl

pub returns-clause-later : goal.returns-clause-later
returns-clause-later c =
    find_right grown (reads_all (concern_after 5)) (told_at (reads_all (concern_after 5)) 5 all_four) [] None (Some (timestamp 1000 5)) refl
    (timestamp 1000 5) all_four (later_time (timestamp 1000 5) (timestamp 1000 5) refl refl (omega arith) (omega arith) (omega arith))
    (gives_at None (Some (timestamp 1000 5)) (timestamp 1000 5) all_four refl) (omega arith) small_all refl refl

pub returns-clause-last : goal.returns-clause-last
returns-clause-last c =
    find_right grown (reads_all (concern_after 5)) (told_at (reads_all (concern_after 5)) 6 all_four) [] None (Some (timestamp 1000 5)) refl
    (timestamp 1000 6) all_four (later_time (timestamp 1000 6) (timestamp 1000 5) refl refl (omega arith) (omega arith) (omega arith))
    (gives_at None (Some (timestamp 1000 5)) (timestamp 1000 6) all_four refl) (omega arith) small_all refl refl

pub returns-clause-same_later : goal.returns-clause-same_later
returns-clause-same_later c next right =
    let read = find_time grown (reads_all (concern_after 4)) (told_at (reads_all (concern_after 4)) 5 all_four) [] None (Some (timestamp 1000 4)) refl next
    (timestamp 1000 5) right refl in
    wrong_after (timestamp 1000 4) (timestamp 1000 5) (timestamp 1000 6) (after_is (reads_all (concern_after 4))
    (told_at (reads_all (concern_after 4)) 5 all_four) [] (timestamp 1000 4) (timestamp 1000 5) read)
    (λ same reached. omega (arith, same, reached)) (λ less reached risen. omega (arith, less, reached, risen))

pub returns-clause-passed_earlier : goal.returns-clause-passed_earlier
returns-clause-passed_earlier c next right =
    let read = find_time grown (reads_all (concern_after 3)) (told_at (reads_all (concern_after 3)) 3 (with_id one ∷ with_id two ∷ [])) [] None
    (Some (timestamp 1000 3)) refl next (timestamp 1000 3) right refl in
    wrong_after (timestamp 1000 3) (timestamp 1000 3) (timestamp 1000 6) (after_is (reads_all (concern_after 3))
    (told_at (reads_all (concern_after 3)) 3 (with_id one ∷ with_id two ∷ [])) [] (timestamp 1000 3) (timestamp 1000 3) read)
    (λ same reached. omega (arith, same, reached)) (λ less reached risen. omega (arith, less, reached, risen))

pub returns-clause-earlier : goal.returns-clause-earlier
returns-clause-earlier c next right =
    let read = find_time grown (reads_all (concern_after 5)) (told_at (reads_all (concern_after 5)) 4 all_three) [] None (Some (timestamp 1000 5)) refl next
    (timestamp 1000 4) right refl in
    wrong_after (timestamp 1000 5) (timestamp 1000 4) (timestamp 1000 6) (after_is (reads_all (concern_after 5))
    (told_at (reads_all (concern_after 5)) 4 all_three) [] (timestamp 1000 5) (timestamp 1000 4) read)
    (λ same reached. omega (arith, same, reached)) (λ less reached risen. omega (arith, less, reached, risen))

pub returns-clause-unreached : goal.returns-clause-unreached
returns-clause-unreached c next right =
    let read = find_time grown (reads_all (concern_after 5)) (told_at (reads_all (concern_after 5)) 7 all_four) [] None (Some (timestamp 1000 5)) refl next
    (timestamp 1000 7) right refl in
    wrong_after (timestamp 1000 5) (timestamp 1000 7) (timestamp 1000 6) (after_is (reads_all (concern_after 5))
    (told_at (reads_all (concern_after 5)) 7 all_four) [] (timestamp 1000 5) (timestamp 1000 7) read)
    (λ same reached. omega (arith, same, reached)) (λ less reached risen. omega (arith, less, reached, risen))

pub returns-clause-read_ahead : goal.returns-clause-read_ahead
returns-clause-read_ahead c next right =
    let read = find_time grown (reads_all (concern_after 7)) (told_at (reads_all (concern_after 7)) 6 all_four) [] None (Some (timestamp 1000 7)) refl next
    (timestamp 1000 6) right refl in
    wrong_after (timestamp 1000 7) (timestamp 1000 6) (timestamp 1000 6) (after_is (reads_all (concern_after 7))
    (told_at (reads_all (concern_after 7)) 6 all_four) [] (timestamp 1000 7) (timestamp 1000 6) read)
    (λ same reached. omega (arith, same, reached)) (λ less reached risen. omega (arith, less, reached, risen))

pub returns-clause-ahead : goal.returns-clause-ahead
returns-clause-ahead c =
    ahead_right grown (reads_all (concern_after 7)) (told_ahead (reads_all (concern_after 7)) 6) [] None (Some (timestamp 1000 7)) refl
    (timestamp 1000 7) refl (omega arith) refl

pub returns-clause-ahead_of_less : goal.returns-clause-ahead_of_less
returns-clause-ahead_of_less c next right =
    let ahead = ahead_of grown (reads_all (concern_after 7)) (told_ahead (reads_all (concern_after 7)) 4) [] None (Some (timestamp 1000 7)) refl next
    (timestamp 1000 7) (timestamp 1000 4) refl right refl in
    let e : timestamp 1000 4 ≡ timestamp 1000 6 = ahead.0 in omega (arith, e)

pub returns-clause-ahead_of_none : goal.returns-clause-ahead_of_none
returns-clause-ahead_of_none c next right =
    let ahead = ahead_of grown (reads_all (concern_after 7)) (told_ahead (reads_all (concern_after 7)) 7) [] None (Some (timestamp 1000 7)) refl next
    (timestamp 1000 7) (timestamp 1000 7) refl right refl in
    let e : timestamp 1000 7 ≡ timestamp 1000 6 = ahead.0 in omega (arith, e)

pub returns-clause-not_ahead : goal.returns-clause-not_ahead
returns-clause-not_ahead c next right =
    let ahead = ahead_of grown (reads_all (concern_after 5)) (told_ahead (reads_all (concern_after 5)) 6) [] None (Some (timestamp 1000 5)) refl next
    (timestamp 1000 5) (timestamp 1000 6) refl right refl in
    let e : timestamp 1000 6 < timestamp 1000 5 = ahead.1 in omega (arith, e)
