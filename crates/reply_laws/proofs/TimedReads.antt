-- Reads of a time and counts, to try the definitions on: what is right, and what a right answer says.
use Rattle.std.proofs.Common.{◌≡◌, ℕ, zero, suc, pos, ◌<◌, ◌≤◌, ◌⊎◌, inl, inr, List, [], ◌∷◌, length, drop, refl, sym, ap, subst, ◌∙◌, arith, codes}
use Rattle.std.specs.Prelude.{Bool, true, false, cond, Option, Some, None, Ok}
use Rattle.std.proofs.lemmas.List.Sorted.{length_permutation}
use Rattle.bson_model.specs.Tree.{Fields, int32_value, int64_value}
use Rattle.base_model.specs.Times.{timestamp}
use Rattle.base_model.specs.Refusals.{time_ahead}
use Rattle.base_model.specs.ReplyParts.{operation_time}
use Rattle.command_model.specs.Reading.{Reading}
use Rattle.command_model.specs.Cursors.{Batch}
use Rattle.command_model.specs.Command.{find_command, count_command, command_of}
use Rattle.command_model.specs.Answers.{first_answer, count_answer, refusal_answer, answer_document}
use Rattle.pipeline_model.specs.Groups.{fits_in, count_value}
use Rattle.pipeline_model.specs.Stages.{Stage, count_stage}
use Rattle.pipeline_model.specs.Runs.{listed, count_documents}
use Rattle.pipeline_model.specs.Batches.{IsSmall}
use Rattle.pipeline_model.specs.Lengths.{excess_of_answer}
use Rattle.pipeline_model.proofs.Fronts.{opened}
use Rattle.history_model.specs.History.{Entry}
use Rattle.history_model.proofs.Lists.{in_none}
use Rattle.reply_model.specs.Exchanges.{Asked, Answered}
use Rattle.reply_model.specs.Cursors.{Cursor, ShowsFirst, opens_none}
use Rattle.reply_model.specs.Reads.{IsTimeRead, named_time, own_time, later_time, MayGive, time_wanted}
use Rattle.reply_model.specs.Right.{Reads, find_reads, usual_size, refused_ahead, IsRight, right_find, right_refused_read}
use Rattle.reply_laws.specs.SampleExchanges.{IsToldRightly, account_of}
use Rattle.reply_laws.specs.SampleReads.{kept, all_three}
use Rattle.reply_laws.specs.SampleTimes.{reading_of, find_in}
use Rattle.reply_laws.proofs.Quiet.{never_batch, never_count}
use Rattle.reply_facts.proofs.RightAnswers.{RightBy, right_of, same_first, TellsCount}
use Rattle.reply_facts.proofs.ReadTimes.{shown_time, ahead_time, is_ahead}
use Rattle.reply_laws.proofs.KeyFinds.{whole_batch, told_of, none_behind}

-- TIMES

pub own_is : (a : Asked) (t : Answered) (stages : List Stage) (time : ℕ) → IsTimeRead a t (reading_of stages None None) time → time ≡ a.time
own_is a t stages time (named_time named at risen) = absurd (let e : None ≡ Some named = at in cc)
own_is a t stages time (own_time none reached) = refl
own_is a t stages time (later_time later after none wants less reached risen) = absurd (let e : None ≡ Some after = wants in cc)

pub after_is : (a : Asked) (t : Answered) (stages : List Stage) (wanted time : ℕ) → IsTimeRead a t (reading_of stages None (Some wanted)) time
    → ((time ≡ a.time) × (wanted ≤ a.time)) ⊎ ((a.time < wanted) × (wanted ≤ time) × (time ≤ t.time))
after_is a t stages wanted time (named_time named at risen) = absurd (let e : None ≡ Some named = at in cc)
after_is a t stages wanted time (own_time none reached) = inl (refl, reached)
after_is a t stages wanted time (later_time later after none wants less reached risen) =
    let both : Some wanted ≡ Some after = wants in
    let same : wanted ≡ after = cc in
    inr (omega (arith, same), omega (arith, same), risen)

pub at_is : (a : Asked) (t : Answered) (stages : List Stage) (named time : ℕ) → IsTimeRead a t (reading_of stages (Some named) None) time → (time ≡ named)
    × (time ≤ t.time)
at_is a t stages named time (named_time other at risen) = (let both : Some named ≡ Some other = at in cc, risen)
at_is a t stages named time (own_time none reached) = absurd (let e : Some named ≡ None = none in cc)
at_is a t stages named time (later_time later after none wants less reached risen) = absurd (let e : Some named ≡ None = none in cc)

-- FINDS

module _ (history : List Entry) (a : Asked) (t : Answered) (stages : List Stage) (at after : Option ℕ)
    (asks : command_of a.request ≡ Ok (find_command (find_in (reading_of stages at after)))) where
  pub find_right : (time : ℕ) (documents : List Fields) → IsTimeRead a t (reading_of stages at after) time
      → MayGive history (reading_of stages at after) time (listed documents)
      → length documents ≤ 101 → IsSmall documents → excess_of_answer documents ≡ None → t.document ≡ answer_document (first_answer (told_of documents time))
      → IsToldRightly history a t
  find_right time documents read gives few small short says =
      right_find (find_in (reading_of stages at after)) time documents (told_of documents time) [] asks read gives short refl refl
      (record { batch_of = whole_batch 101 documents few small; opens = opens_none (drop (length documents) documents) (inl (none_behind documents)) }) says

  pub asks_read : Reads (command_of a.request) (reading_of stages at after)
  asks_read = subst (λ r. Reads r (reading_of stages at after)) (sym asks) (find_reads (find_in (reading_of stages at after)))

  pub find_time : (next : List Cursor) (time : ℕ) → IsRight (account_of history [] []) [] a t next → operation_time (Some t.document) ≡ Some time
      → IsTimeRead a t (reading_of stages at after) time
  find_time next time right shown = shown_time (account_of history [] []) [] a t next (reading_of stages at after) time asks_read right shown

  pub ahead_right : (wanted : ℕ) → time_wanted (reading_of stages at after) ≡ Some wanted → t.time < wanted → t.document
      ≡ answer_document (refusal_answer (time_ahead t.time))
      → IsToldRightly history a t
  ahead_right wanted wants ahead says =
      right_refused_read (reading_of stages at after) asks_read
      (refused_ahead (record { wanted = wanted; wants = wants; ahead = ahead; of_all = λ s write index e i late asks j numbered shows nothing. absurd (in_none s i) })
      says)

  pub ahead_of : (next : List Cursor) (wanted s : ℕ) → time_wanted (reading_of stages at after) ≡ Some wanted
      → IsRight (account_of history [] []) [] a t next
      → t.document ≡ answer_document (refusal_answer (time_ahead s)) → (s ≡ t.time) × (t.time < wanted)
  ahead_of next wanted s wants right told =
      let ahead = is_ahead (account_of history [] []) [] a t next (reading_of stages at after) s asks_read right told in
      let both : Some ahead.wanted ≡ Some wanted = sym ahead.wants ∙ wants in
      let same : ahead.wanted ≡ wanted = cc in
      (ahead_time (account_of history [] []) [] a t next s right told, omega (arith, same, ahead.ahead))

  pub record Told (b : Batch) (next : List Cursor) : Type 0 where
    pub documents : List Fields
    pub gives : MayGive history (reading_of stages at after) b.time (listed documents)
    pub shows : ShowsFirst a.id usual_size a.request.more [] documents b next

  by_told : (b : Batch) (next : List Cursor) → t.document ≡ answer_document (first_answer b)
      → RightBy (account_of history [] []) [] a t (Ok (find_command (find_in (reading_of stages at after)))) next → Told b next
  by_told b next says (inr refused) =
      absurd (never_batch (account_of history [] []) [] a t (reading_of stages at after) b says refused.0)
  by_told b next says (inl told) =
      let same : told.batch ≡ b = same_first told.batch b (sym told.says ∙ says) in
      record {
        documents = told.documents;
        gives = subst (λ (x : Batch). MayGive history (reading_of stages at after) x.time (listed told.documents)) same told.gives;
        shows = subst (λ (x : Batch). ShowsFirst a.id usual_size a.request.more [] told.documents x next) same told.shows;
      }

  -- a batch that is right is a front of what the read may give
  pub told_first : (b : Batch) (next : List Cursor) → IsRight (account_of history [] []) [] a t next → t.document ≡ answer_document (first_answer b)
      → Told b next
  told_first b next right says =
      by_told b next says (right_of (account_of history [] []) [] a t (Ok (find_command (find_in (reading_of stages at after)))) next asks right)

-- COUNTS

module _ (history : List Entry) (a : Asked) (t : Answered) (reading : Reading) (asks : command_of a.request ≡ Ok (count_command reading)) where
  by_count : (n time : ℕ) (next : List Cursor) → t.document ≡ answer_document (count_answer n time)
      → RightBy (account_of history [] []) [] a t (Ok (count_command reading)) next → TellsCount (account_of history [] []) [] a t reading
  by_count n time next says (inl told, same) = told
  by_count n time next says (inr refused, same) = absurd (never_count (account_of history [] []) [] a t reading n time says refused)

  pub told_count : (n time : ℕ) (next : List Cursor) → IsRight (account_of history [] []) [] a t next → t.document ≡ answer_document (count_answer n time)
      → TellsCount (account_of history [] []) [] a t reading
  told_count n time next right says = by_count n time next says (right_of (account_of history [] []) [] a t (Ok (count_command reading)) next asks right)

  never_first : (b : Batch) (next : List Cursor) → t.document ≡ answer_document (first_answer b)
      → RightBy (account_of history [] []) [] a t (Ok (count_command reading)) next → ⊥
  never_first b next says (inl told, same) = let e = sym told.says ∙ says in cc
  never_first b next says (inr refused, same) = never_batch (account_of history [] []) [] a t reading b says refused

  -- it is never returned as a batch
  pub no_batch : (b : Batch) (next : List Cursor) → IsRight (account_of history [] []) [] a t next → t.document ≡ answer_document (first_answer b) → ⊥
  no_batch b next right says = never_first b next says (right_of (account_of history [] []) [] a t (Ok (count_command reading)) next asks right)

-- THREE DOCUMENTS

three_by : (n : ℕ) (b : Bool) → int32_value (pos 3) ≡ cond b (int32_value (pos (suc n))) (int64_value (pos (suc n))) → suc n ≡ 3
three_by n true same = cc
three_by n false same = absurd (cc)

is_three : (n : ℕ) → listed (count_documents (codes "n") n) ≡ listed (count_documents (codes "n") 3) → n ≡ 3
is_three zero same = absurd (cc)
is_three (suc n) same = three_by n (fits_in 31 (pos (suc n))) (let e : int32_value (pos 3) ≡ count_value (suc n) = cc in e)

-- they are counted
pub three_told : (a : Asked) (t : Answered) (n time : ℕ) (next : List Cursor)
    → command_of a.request ≡ Ok (count_command (reading_of (count_stage (codes "n") ∷ []) None None))
    → a.time ≡ timestamp 1000 4 → IsRight (account_of kept [] []) [] a t next → t.document ≡ answer_document (count_answer n time)
    → answer_document (count_answer n time) ≡ answer_document (count_answer 3 (timestamp 1000 4))
three_told a t n time next asks at right says =
    let told = told_count kept a t (reading_of (count_stage (codes "n") ∷ []) None None) asks n time next right says in
    let when : told.time ≡ timestamp 1000 4 = own_is a t (count_stage (codes "n") ∷ []) told.time told.read ∙ at in
    let gives = subst (λ n. MayGive kept (reading_of (count_stage (codes "n") ∷ []) None None) n
    (listed (count_documents (codes "n") told.number))) when told.gives in
    let long : length gives.ordered ≡ 3 = length_permutation all_three gives.ordered gives.permutes in
    let number : told.number ≡ 3 = is_three told.number (opened (opened gives.runs) ∙ ap (λ k. listed (count_documents (codes "n") k)) long) in
    sym says ∙ told.says ∙ ap (λ k. answer_document (count_answer k told.time)) number ∙ ap (λ k. answer_document (count_answer 3 k)) when
