-- Finds of three documents in order, and the replies about their cursors, to try the definitions on.
use Rattle.std.proofs.Common.{◌≡◌, ◌≢◌, ℕ, ℤ, pos, inl, inr, List, [], ◌∷◌, length, take, drop, refl, sym, ap, subst, ◌∙◌, arith, codes}
use Rattle.std.specs.Prelude.{Bool, true, false, ◌||◌, Option, Some, None, Ok, IsPermutation, IsSortedBy}
use Rattle.std.proofs.lemmas.List.Sorted.{IsPermutation-refl, IsPermutation-trans}
use Rattle.bson_model.specs.Tree.{Fields}
use Rattle.base_model.specs.Errors.{cursor_not_found}
use Rattle.base_model.specs.Refusals.{cursor_evidence}
use Rattle.base_model.specs.Times.{timestamp}
use Rattle.command_model.specs.Cursors.{Batch}
use Rattle.command_model.specs.GetMore.{GetMore}
use Rattle.command_model.specs.KillCursors.{KillCursors, number_items}
use Rattle.command_model.specs.Command.{find_command, more_command, kill_command, command_of}
use Rattle.command_model.specs.Answers.{first_answer, next_answer, killed_answer, refusal_answer, answer_document}
use Rattle.pipeline_model.specs.SortKeys.{comes_before}
use Rattle.pipeline_model.specs.Runs.{no_stage_run, sort_run, listed}
use Rattle.pipeline_model.specs.Batches.{IsSmall, IsBatch}
use Rattle.pipeline_model.specs.Lengths.{documents_length}
use Rattle.bson_model.specs.Limits.{most_bytes_kept}
use Rattle.pipeline_model.proofs.Fronts.{opened}
use Rattle.pipeline_laws.proofs.OneBatch.{one_batch}
use Rattle.pipeline_model.proofs.OrderedLists.{up_from_sorted, sorted_from_up}
use Rattle.pipeline_laws.proofs.PartRows.{chain_of, one_way_of}
use Rattle.pipeline_laws.proofs.SampleRuns.{at_most}
use Rattle.history_model.specs.History.{Entry}
use Rattle.base_model.specs.Identities.{RequestId}
use Rattle.reply_model.specs.Exchanges.{Asked, Answered}
use Rattle.reply_laws.specs.SampleExchanges.{account_of}
use Rattle.reply_model.specs.Cursors.{Cursor, open_cursor, with_remaining, IsNewNumber, Opens, opens_none, opens_one, ShowsFirst, ShowsNext, Kills, kills_none, kills, misses}
use Rattle.reply_model.specs.Reads.{IsTimeRead, named_time, own_time, later_time, MayGive}
use Rattle.reply_model.specs.Right.{IsRight, right_find}
use Rattle.reply_laws.specs.SampleReads.{kept, all_three, by_id, reading_all, finds_sorted}
use Rattle.reply_laws.proofs.Quiet.{never_batch}
use Rattle.reply_facts.proofs.RightAnswers.{RightBy, right_of, same_first, same_next}
use Rattle.reply_laws.proofs.SortedOrders.{one_rising}

-- THE DOCUMENTS

sorted_three : IsSortedBy (comes_before by_id) all_three
sorted_three = sorted_from_up (comes_before by_id) (chain_of by_id) (one_way_of by_id) all_three ((refl, (refl, tt)), ((refl, tt), (tt, tt)))

pub gives_three : MayGive kept reading_all (timestamp 1000 4) (listed all_three)
gives_three = record {
  ordered = all_three;
  permutes = IsPermutation-refl all_three;
  runs = sort_run by_id [] all_three all_three (listed all_three) (IsPermutation-refl all_three) sorted_three (no_stage_run all_three);
}

same_list : (documents others : List Fields) → listed documents ≡ listed others → documents ≡ others
same_list documents others e = cc

-- the read gives these alone
pub only_three : (documents : List Fields) → MayGive kept reading_all (timestamp 1000 4) (listed documents) → documents ≡ all_three
only_three documents gives =
    let run = opened gives.runs in
    let moved : IsPermutation all_three run.0 = IsPermutation-trans all_three gives.ordered run.0 gives.permutes run.1 in
    same_list documents run.0 (opened run.3)
    ∙ one_rising (comes_before by_id) (chain_of by_id) (one_way_of by_id) all_three run.0 ((refl, (refl, tt)), ((refl, tt), (tt, tt))) moved
    (up_from_sorted (comes_before by_id) (chain_of by_id) (one_way_of by_id) run.0 run.2)

own_only : (a : Asked) (t : Answered) (time : ℕ) → IsTimeRead a t reading_all time → time ≡ a.time
own_only a t time (named_time named at risen) = absurd (let e : None ≡ Some named = at in cc)
own_only a t time (own_time none reached) = refl
own_only a t time (later_time later after none wants less reached risen) = absurd (let e : None ≡ Some after = wants in cc)

-- BATCHES

pub one_is : IsBatch (Some 1) all_three (take 1 all_three)
one_is = record { front = refl; allowed = record { there = omega arith; few = omega arith; small = inl (omega arith) }; longest = λ n m. m.few }

pub two_is : IsBatch (Some 2) all_three (take 2 all_three)
two_is = record {
  front = refl;
  allowed = record { there = omega arith; few = omega arith; small = inr (at_most (documents_length (take 2 all_three)) most_bytes_kept refl) };
  longest = λ n m. m.few;
}

pub none_is : IsBatch (Some 0) all_three []
none_is = record { front = refl; allowed = record { there = omega arith; few = omega arith; small = inl (omega arith) }; longest = λ n m. m.few }

-- the rest, where no size is given
pub rest_is : (documents : List Fields) → documents ≡ take (length documents) documents → IsSmall documents → IsBatch None documents documents
rest_is documents front small = record {
  front = front;
  allowed = record { there = omega arith; few = tt; small = subst (λ (l : List Fields). IsSmall l) front small };
  longest = λ n m. m.there;
}

pub three_small : IsSmall all_three
three_small = inr (at_most (documents_length all_three) most_bytes_kept refl)

pub left_small : IsSmall (drop 1 all_three)
left_small = inr (at_most (documents_length (drop 1 all_three)) most_bytes_kept refl)

-- FIRST BATCHES

module _ (asked : List Asked) (answered : List Answered) (cursors : List Cursor) (a : Asked) (t : Answered) (size : ℕ) (single : Bool) (b : Batch)
    (asks : command_of a.request ≡ Ok (find_command (finds_sorted size single))) (time : a.time ≡ timestamp 1000 4)
    (says : t.document ≡ answer_document (first_answer b)) where
  pub first_right : (next : List Cursor) → b.time ≡ timestamp 1000 4 → b.namespace ≡ codes "d.c"
      → ShowsFirst a.id size (single || a.request.more) cursors all_three b next
      → IsRight (account_of kept asked answered) cursors a t next
  first_right next when name shows =
      right_find (finds_sorted size single) (timestamp 1000 4) all_three b next asks
      (subst (λ n. IsTimeRead a t reading_all n) time (own_time refl tt)) gives_three refl name when shows says

  by_told : (next : List Cursor) → RightBy (account_of kept asked answered) cursors a t (Ok (find_command (finds_sorted size single))) next
      → ShowsFirst a.id size (single || a.request.more) cursors all_three b next
  by_told next (inr refused) = absurd (never_batch (account_of kept asked answered) cursors a t reading_all b says refused.0)
  by_told next (inl told) =
      let same : told.batch ≡ b = same_first told.batch b (sym told.says ∙ says) in
      let when : told.batch.time ≡ timestamp 1000 4 = own_only a t told.batch.time told.time ∙ time in
      let all : told.documents ≡ all_three = only_three told.documents (subst (λ n. MayGive kept reading_all n (listed told.documents)) when told.gives) in
      subst (λ (x : Batch). ShowsFirst a.id size (single || a.request.more) cursors all_three x next) same
      (subst (λ (l : List Fields). ShowsFirst a.id size (single || a.request.more) cursors l told.batch next) all told.shows)

  -- a first batch that is right shows a front of the three
  pub first_shows : (next : List Cursor) → IsRight (account_of kept asked answered) cursors a t next
      → ShowsFirst a.id size (single || a.request.more) cursors all_three b next
  first_shows next right = by_told next
      (right_of (account_of kept asked answered) cursors a t (Ok (find_command (finds_sorted size single))) next asks right)

  pub first_documents : (next : List Cursor) (documents : List Fields) → IsBatch (Some size) all_three documents
      → IsRight (account_of kept asked answered) cursors a t next → b.documents ≡ documents
  first_documents next documents is right = one_batch (Some size) all_three b.documents documents (first_shows next right).batch_of is

-- where documents remain and more is requested, a new cursor is returned
pub opens_new : (id : RequestId) (single : Bool) (namespace : List ℕ) (time : ℕ) (cursors : List Cursor) (rest : List Fields) (number : ℤ) (next : List Cursor)
    → single ≡ false → rest ≢ [] → Opens id single namespace time cursors rest number next → IsNewNumber id number cursors
opens_new id single namespace time cursors rest number next many some (opens_none r (inl e)) = absurd (some e)
opens_new id single namespace time cursors rest number next many some (opens_none r (inr e)) = absurd (let f : true ≡ false = sym e ∙ many in cc)
opens_new id single namespace time cursors rest number next many some (opens_one r n more other new) = new

-- where no other is requested, 0 is returned
pub opens_zero : (id : RequestId) (single : Bool) (namespace : List ℕ) (time : ℕ) (cursors : List Cursor) (rest : List Fields) (number : ℤ)
    (next : List Cursor)
    → single ≡ true → Opens id single namespace time cursors rest number next → number ≡ pos 0
opens_zero id single namespace time cursors rest number next one (opens_none r why) = refl
opens_zero id single namespace time cursors rest number next one (opens_one r n some more new) = absurd (let e : true ≡ false = sym one ∙ more in cc)

-- NEXT BATCHES

-- a cursor is not found
abbrev pub gone_of : ℤ → Fields
gone_of number = answer_document (refusal_answer (record { error = cursor_not_found; evidence = cursor_evidence number }))

module _ (history : List Entry) (asked : List Asked) (answered : List Answered) (cursors : List Cursor) (a : Asked) (t : Answered) (more : GetMore)
    (asks : command_of a.request ≡ Ok (more_command more)) where
  not_next : (b : Batch) → answer_document (next_answer b) ≡ gone_of more.cursor → ⊥
  not_next b e = cc

  shown_by : (next : List Cursor) (c : Cursor) (b : Batch) → open_cursor a.id more.cursor more.namespace cursors ≡ Some c
      → t.document ≡ answer_document (next_answer b)
      → RightBy (account_of history asked answered) cursors a t (Ok (more_command more)) next → (shown : List Cursor)
      × ShowsNext a.id more.size cursors c b shown
  shown_by next c b found says (inr none) = absurd (let e : None ≡ Some c = sym none.0.closed ∙ found in cc)
  shown_by next c b found says (inl told) =
      let same : told.cursor ≡ c = (let e : Some told.cursor ≡ Some c = sym told.found ∙ found in cc) in
      let batches : told.batch ≡ b = same_next told.batch b (sym told.says ∙ says) in (
        told.shown,
        subst (λ (x : Batch). ShowsNext a.id more.size cursors c x told.shown) batches
            (subst (λ (x : Cursor). ShowsNext a.id more.size cursors x told.batch told.shown) same told.shows),
      )

  -- a next batch that is right is one of the cursor that is found
  pub next_shows : (next : List Cursor) (c : Cursor) (b : Batch) → open_cursor a.id more.cursor more.namespace cursors ≡ Some c
      → t.document ≡ answer_document (next_answer b)
      → IsRight (account_of history asked answered) cursors a t next → (shown : List Cursor) × ShowsNext a.id more.size cursors c b shown
  next_shows next c b found says right =
      shown_by next c b found says (right_of (account_of history asked answered) cursors a t (Ok (more_command more)) next asks right)

  none_by : (next : List Cursor) (b : Batch) → open_cursor a.id more.cursor more.namespace cursors ≡ None → t.document ≡ answer_document (next_answer b)
      → RightBy (account_of history asked answered) cursors a t (Ok (more_command more)) next → ⊥
  none_by next b closed says (inr none) = not_next b (sym says ∙ none.0.says)
  none_by next b closed says (inl told) = let e : None ≡ Some told.cursor = sym closed ∙ told.found in cc

  -- and where none is found none is shown
  pub never_shows : (next : List Cursor) (b : Batch) → open_cursor a.id more.cursor more.namespace cursors ≡ None → t.document ≡ answer_document (next_answer b)
      → IsRight (account_of history asked answered) cursors a t next → ⊥
  never_shows next b closed says right =
      none_by next b closed says (right_of (account_of history asked answered) cursors a t (Ok (more_command more)) next asks right)

  gone_by : (next : List Cursor) (c : Cursor) → open_cursor a.id more.cursor more.namespace cursors ≡ Some c → t.document ≡ gone_of more.cursor
      → RightBy (account_of history asked answered) cursors a t (Ok (more_command more)) next → ⊥
  gone_by next c found says (inr none) = let e : None ≡ Some c = sym none.0.closed ∙ found in cc
  gone_by next c found says (inl told) = not_next told.batch (sym told.says ∙ says)

  -- nor is the reply that one is gone that is found
  pub never_gone : (next : List Cursor) (c : Cursor) → open_cursor a.id more.cursor more.namespace cursors ≡ Some c → t.document ≡ gone_of more.cursor
      → IsRight (account_of history asked answered) cursors a t next → ⊥
  never_gone next c found says right =
      gone_by next c found says (right_of (account_of history asked answered) cursors a t (Ok (more_command more)) next asks right)

-- CURSORS THAT ARE CLOSED

-- the numbers of those that are found
abbrev pub killed_by : RequestId → (namespace : List ℕ) → List Cursor → List ℤ → List ℤ
killed_by id namespace cursors [] = []
killed_by id namespace cursors (n ∷ ns) = elim (open_cursor id n namespace cursors) [
  | None ↦ killed_by id namespace cursors ns
  | Some c ↦ n
      ∷ killed_by id namespace (with_remaining id n [] cursors) ns
]

killed_is : (id : RequestId) (namespace : List ℕ) (cursors : List Cursor) (numbers killed missing : List ℤ) (next : List Cursor)
    → Kills id namespace cursors numbers killed missing next → killed ≡ killed_by id namespace cursors numbers
killed_is id namespace cursors numbers killed missing next (kills_none cs) = refl
killed_is id namespace cursors numbers killed missing next (kills cs after n ns ks ms c found rest) =
    ap (λ l. n ∷ l) (killed_is id namespace (with_remaining id n [] cs) ns ks ms after rest)
    ∙ sym (ap (λ (o : Option Cursor). elim o as (λ (x : Option Cursor). List ℤ) [
      | None ↦ killed_by id namespace cs ns
      | Some d ↦ n
          ∷ killed_by id namespace (with_remaining id n [] cs) ns
    ]) found)
killed_is id namespace cursors numbers killed missing next (misses cs after n ns ks ms none rest) =
    killed_is id namespace cs ns ks ms after rest
    ∙ sym (ap (λ (o : Option Cursor). elim o as (λ (x : Option Cursor). List ℤ) [
      | None ↦ killed_by id namespace cs ns
      | Some d ↦ n
          ∷ killed_by id namespace (with_remaining id n [] cs) ns
    ]) none)

same_numbers : (xs ys : List ℤ) → number_items xs ≡ number_items ys → xs ≡ ys
same_numbers [] [] same = refl
same_numbers [] (y ∷ ys) same = absurd (cc)
same_numbers (x ∷ xs) [] same = absurd (cc)
same_numbers (x ∷ xs) (y ∷ ys) same =
    let first : x ≡ y = cc in
    let rest : number_items xs ≡ number_items ys = cc in
    let more : xs ≡ ys = same_numbers xs ys rest in
    cc

-- a reply that is right returns these closed
pub killed_right : (asked : List Asked) (answered : List Answered) (cursors next : List Cursor) (a : Asked) (t : Answered) (kill : KillCursors)
    (killed missing : List ℤ)
    → command_of a.request ≡ Ok (kill_command kill) → t.document ≡ answer_document (killed_answer killed missing)
    → IsRight (account_of kept asked answered) cursors a t next → killed ≡ killed_by a.id kill.namespace cursors kill.cursors
killed_right asked answered cursors next a t kill killed missing asks says right =
    let told = right_of (account_of kept asked answered) cursors a t (Ok (kill_command kill)) next asks right in
    let e : answer_document (killed_answer killed missing) ≡ answer_document (killed_answer told.killed told.missing) = sym says ∙ told.says in
    let items : number_items killed ≡ number_items told.killed = cc in
    same_numbers killed told.killed items ∙ killed_is a.id kill.namespace cursors kill.cursors told.killed told.missing next told.kills
