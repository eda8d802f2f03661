-- Replies to reads are right, and stay so.
use Rattle.std.proofs.Common.{◌≡◌, inl, inr, ℕ, ◌<◌, ◌≤◌, List, [], ◌∷◌, zero, suc, refl, sym, ap, subst, ◌∙◌, arith, append-nil, Bool}
use Rattle.std.specs.Prelude.{pos, Some, None, true, false, filter, flat_map, length, drop, take, codes, ◌^◌, nat_lt, ◌-◌, IsPermutation, IsSortedBy, if◌then◌else◌}
use Rattle.std.specs.List.{list_all}
use Rattle.std.specs.Option.{unwrap_or}
use Rattle.std.proofs.lemmas.Bool.{ltb-true}
use Rattle.std.proofs.lemmas.List.Sorted.{IsPermutation-refl}
use Rattle.pipeline_model.specs.Batches.{IsBatch}
use Rattle.pipeline_model.specs.Lengths.{excess_of_answer, excess_of_half}
use Rattle.pipeline_model.specs.Runs.{Outcome, listed, overflowed, Runs, count_documents, no_stage_run, match_run, project_run, sort_run, skip_run, limit_run, count_run, group_run}
use Rattle.pipeline_model.specs.SortKeys.{SortSpec, comes_before}
use Rattle.pipeline_laws.proofs.PartRows.{chain_of, one_way_of}
use Rattle.pipeline_model.proofs.OrderedLists.{sorted_from_up}
use Rattle.pipeline_model.specs.Halves.{Half, Rows, IsHalf, may_stand_in, MergesInTurn}
use Rattle.pipeline_model.specs.Split.{split}
use Rattle.pipeline_laws.proofs.KeptAtHead.{half_of_kept}
use Rattle.pipeline_laws.proofs.MergedHalves.{halves_merge}
use Rattle.pipeline_laws.proofs.OutsideSpan.{split_half_outside, split_run_outside}
use Rattle.command_model.specs.Cursors.{Batch}
use Rattle.bson_model.specs.Tree.{Fields}
use Rattle.base_model.specs.Errors.{overflow}
use Rattle.base_model.specs.Refusals.{without_evidence}
use Rattle.command_model.specs.Reading.{Reading}
use Rattle.command_model.specs.Answers.{first_answer, count_answer, refusal_answer, answer_document}
use Rattle.pipeline_model.specs.Stages.{Stage, has_int64, match_stage, project_stage, group_stage, sort_stage, skip_stage, limit_stage, count_stage}
use Rattle.reply_model.specs.Cursors.{Cursor, Opens, opens_none}
use Rattle.history_model.specs.Documents.{documents_at}
use Rattle.chunk_model.specs.Tables.{first_shard}
use Rattle.history_model.specs.History.{IsIn}
use Rattle.base_model.specs.Identities.{RequestId}
use Rattle.reply_model.specs.Exchanges.{Asked, Answered}
use Rattle.reply_model.specs.Reads.{IsTimeRead, MayGive, IsExcess, excess_half}
use Rattle.reply_model.specs.Right.{asks_for_one, usual_size, refused_overflow, refused_excess, right_find, right_count, right_refused_read}
use Rattle.reply_model.specs.OneHistory.{ids_asked, AreDifferent}
use Rattle.node_model.specs.States.{Telling, in_batches, as_number, Open}
use Rattle.node_model.specs.RouterNext.{empty_answer}
use Rattle.node_model.specs.RouterRows.{too_much}
use Rattle.node_model.specs.ShardRows.{IsTold}
use Rattle.reply_facts.proofs.Requests.{one_asked}
use Rattle.node_laws.proofs.Views.{View, entries_in, changes_in, chosen_time, history_in, HavePassed, account_in}
use Rattle.node_laws.proofs.ReadFacts.{NoneBegan, IsTelling, tells_find, tells_count, IsReading, IsMade}
use Rattle.node_laws.proofs.Facts.{IsFixed, NeighboursFit}
use Rattle.node_laws.proofs.KeptDocuments.{owned_by_first}
use Rattle.node_laws.proofs.Histories.{shard_documents, passed_by}
use Rattle.node_laws.proofs.Growth.{nothing_stands}
use Rattle.node_laws.proofs.Answers.{StaysRight}
use Rattle.node_laws.proofs.ReadTimes.{reads_of, reads_same, read_time}

-- WHAT A SHARD MADE FOR A READ

-- the rows are those of the read's half, of a time that the shards have passed
pub record MadeFor (v : View) (read : Reading) (at time : ℕ) (rows : Rows) : Type 0 where
  pub makes : IsHalf (split read.stages).0 (filter (may_stand_in (split read.stages).0.span) (documents_at (history_in v) read.namespace at)) rows
  pub settled : HavePassed v at
  pub past : at ≤ time

same_time : (id : RequestId) (v : View) (a b : ℕ) → chosen_time id v.chosen ≡ Some a → chosen_time id v.chosen ≡ Some b → a ≡ b
same_time id v a b e f = let both : Some a ≡ Some b = sym e ∙ f in cc

pub made_for : (v : View) (asked : List Asked) (a : Asked) (sender time : ℕ) (id : RequestId) (namespace : List ℕ) (named : Bool) (at : ℕ)
    (stages : List Stage) (telling : Telling)
    (rows : Rows) → AreDifferent (ids_asked asked) → IsIn a asked → a.id ≡ id → (w : IsReading a namespace named at stages telling)
    → chosen_time id v.chosen ≡ Some at
    → IsMade v asked sender time id rows → MadeFor v w.read at time rows
made_for v asked a sender time id namespace named at stages telling rows different taken own w decided m =
    let s = m.shown in
    let r = s.read in
    let request : r.request ≡ a = one_asked r.request a asked different r.taken taken (r.own ∙ sym own) in
    let read : r.read ≡ w.read = reads_same r.request a r.read w.read request r.reads (reads_of a w.read telling w.tells) in
    let times : m.at ≡ at = same_time id v m.at at r.decided decided in
    let half : m.half ≡ (split w.read.stages).0 = r.shows ∙ ap (λ (x : Reading). (split x.stages).0) read in
    let name : m.namespace ≡ w.read.namespace = r.name ∙ ap (λ (x : Reading). x.namespace) read in
    let stored : IsHalf m.half (filter (may_stand_in m.half.span) (documents_at (entries_in v sender) m.namespace m.at)) rows =
    (half_of_kept m.half (filter (may_stand_in m.half.span) (documents_at (entries_in v sender) m.namespace m.at)) rows).0
    (subst (λ l. IsHalf m.half l rows) s.documents_are m.makes) in
    let here : IsHalf m.half (filter (may_stand_in m.half.span) (documents_at (history_in v) m.namespace m.at)) rows =
    subst (λ l. IsHalf m.half (filter (may_stand_in m.half.span) l) rows) (shard_documents v sender m.namespace m.at s.owner) stored in
    record {
      makes = subst (λ n. IsHalf (split w.read.stages).0
          (filter (may_stand_in (split w.read.stages).0.span) (documents_at (history_in v) w.read.namespace n)) rows) times
          (subst (λ n. IsHalf (split w.read.stages).0
          (filter (may_stand_in (split w.read.stages).0.span) (documents_at (history_in v) n m.at)) rows) name
          (subst (λ (h : Half). IsHalf h (filter (may_stand_in h.span) (documents_at (history_in v) m.namespace m.at)) rows) half here));
      settled = subst (λ n. HavePassed v n) times (passed_by v sender m.at s.owner s.settled);
      past = subst (λ n. n ≤ time) times s.past;
    }

one_part : (docs : List Fields) → flat_map (λ (p : List Fields). p) (docs ∷ []) ≡ docs
one_part docs = append-nil docs

-- what the rows are merged to is what the read may give
pub rows_give : (v : View) (read : Reading) (at time : ℕ) (rows : Rows) (out : Outcome) → list_all has_int64 read.stages ≡ true → MadeFor v read at time rows
    → MergesInTurn (split read.stages).1 (rows ∷ []) out → MayGive (history_in v) read at out
rows_give v read at time rows out small m merged =
    let docs : List Fields = documents_at (history_in v) read.namespace at in
    let shown : List Fields = filter (may_stand_in (split read.stages).0.span) docs in
    let whole : Runs read.stages (flat_map (λ (p : List Fields). p) (shown ∷ [])) out =
    halves_merge read.stages (split read.stages).0 (split read.stages).1 (shown ∷ []) (rows ∷ []) out (inr small) refl (m.makes, tt) merged.merges in
    record {
      ordered = docs;
      permutes = IsPermutation-refl docs;
      runs = (split_run_outside read.stages (split read.stages).0 (split read.stages).1 docs out refl).0
          (subst (λ l. Runs read.stages l out) (one_part shown) whole);
    }

-- rows that are too much are too much of what the shard owned
pub rows_exceed : (v : View) (asked : List Asked) (answered : List Answered) (read : Reading) (at time n : ℕ) (rows : Rows) → NeighboursFit v asked
    → MadeFor v read at time rows
    → excess_of_half rows ≡ Some n → IsExcess (account_in v asked answered) read at n
rows_exceed v asked answered read at time n rows around m much =
    let docs : List Fields = documents_at (history_in v) read.namespace at in
    excess_half first_shard docs rows
    (subst (λ l. IsPermutation l docs) (sym (owned_by_first (changes_in v) (history_in v) read.namespace at around.begun.still around.placed))
    (IsPermutation-refl docs))
    ((split_half_outside read.stages (split read.stages).0 (split read.stages).1 docs rows refl).0 m.makes) much

-- lengths that are returned alike show alike
shown_alike : (length n : ℕ) → 2 ^ 63 ≤ length → 2 ^ 63 ≤ n
    → (if nat_lt n (2 ^ 63) then n else 2 ^ 63 - 1) ≡ (if nat_lt length (2 ^ 63) then length else 2 ^ 63 - 1)
shown_alike length n a b = by_tests (nat_lt n (2 ^ 63)) (nat_lt length (2 ^ 63)) refl refl
  where
    by_tests : (s t : Bool) → nat_lt n (2 ^ 63) ≡ s → nat_lt length (2 ^ 63) ≡ t → (if s then n else 2 ^ 63 - 1) ≡ (if t then length else 2 ^ 63 - 1)
    by_tests true t e f = let less : n < 2 ^ 63 = ltb-true n (2 ^ 63) e in absurd (omega arith)
    by_tests false true e f = let less : length < 2 ^ 63 = ltb-true length (2 ^ 63) f in absurd (omega arith)
    by_tests false false e f = refl

pub told_alike : (length n : ℕ) → IsTold length n → answer_document (refusal_answer (too_much n)) ≡ answer_document (refusal_answer (too_much length))
told_alike length n (inl same) = ap (λ m. answer_document (refusal_answer (too_much m))) same
told_alike length n (inr (a, b)) = rw (shown_alike length n a b) refl

-- WHAT IS RETURNED

module _ (v : View) (asked : List Asked) (told : List Answered) (cursors : List Cursor) (a : Asked) (t : Answered) where
  pub overflow_right : (namespace : List ℕ) (named : Bool) (at : ℕ) (stages : List Stage) (telling : Telling)
      (w : IsReading a namespace named at stages telling)
      → MayGive (history_in v) w.read at overflowed → IsFixed v w.read at → at ≤ t.time
      → t.document ≡ answer_document (refusal_answer (without_evidence overflow)) → StaysRight v asked told cursors a t cursors
  overflow_right namespace named at stages telling w may fixed past document = record {
    right = right_refused_read w.read (reads_of a w.read telling w.tells) (refused_overflow at (read_time a t w.read at named w.time past) may document);
    settled = fixed;
  }

  pub excess_right : (namespace : List ℕ) (named : Bool) (at n : ℕ) (stages : List Stage) (telling : Telling)
      (w : IsReading a namespace named at stages telling)
      → IsExcess (account_in v asked told) w.read at n → IsFixed v w.read at → at ≤ t.time
      → t.document ≡ answer_document (refusal_answer (too_much n)) → StaysRight v asked told cursors a t cursors
  excess_right namespace named at n stages telling w much fixed past document = record {
    right = right_refused_read w.read (reads_of a w.read telling w.tells) (refused_excess at n (read_time a t w.read at named w.time past) much document);
    settled = fixed;
  }

  number_told : (read : Reading) (telling : Telling) (at n : ℕ) → IsTelling a read telling → telling ≡ as_number → IsTimeRead a t read at
      → MayGive (history_in v) read at (listed (count_documents (codes "n") n)) → IsFixed v read at
      → t.document ≡ answer_document (count_answer n at) → StaysRight v asked told cursors a t cursors
  number_told _ _ at n (tells_find find asks) same of may fixed document = absurd (cc)
  number_told _ _ at n (tells_count read asks) same of may fixed document = record { right = right_count read at n asks of may document; settled = fixed }

  pub number_right : (namespace : List ℕ) (named : Bool) (at n : ℕ) (stages : List Stage) (w : IsReading a namespace named at stages as_number)
      → MayGive (history_in v) w.read at (listed (count_documents (codes "n") n)) → IsFixed v w.read at → at ≤ t.time
      → t.document ≡ answer_document (count_answer n at) → StaysRight v asked told cursors a t cursors
  number_right namespace named at n stages w may fixed past document =
      number_told w.read as_number at n w.tells refl (read_time a t w.read at named w.time past) may fixed document

  batch_told : (read : Reading) (telling : Telling) (size : ℕ) (single : Bool) (at : ℕ) (documents : List Fields) (batch : Batch) (next : List Cursor)
      → IsTelling a read telling
      → telling ≡ in_batches size single → IsTimeRead a t read at → MayGive (history_in v) read at (listed documents)
      → excess_of_answer documents ≡ None → IsBatch (Some size) documents batch.documents → batch.namespace ≡ read.namespace → batch.time ≡ at
      → Opens a.id single batch.namespace batch.time cursors (drop (length batch.documents) documents) batch.cursor next → IsFixed v read at
      → t.document ≡ answer_document (first_answer batch) → StaysRight v asked told cursors a t next
  batch_told _ _ size single at documents batch next (tells_count read asks) same of may small is_batch name when opens fixed document = absurd (cc)
  batch_told _ _ size single at documents batch next (tells_find find asks) same of may small is_batch name when opens fixed document =
      let sizes : size ≡ unwrap_or find.batches.size usual_size = cc in
      let singles : single ≡ asks_for_one find.batches a.request = cc in
      record {
        right = right_find find at documents batch next asks of may small name when (record {
          batch_of = subst (λ n. IsBatch (Some n) documents batch.documents) sizes is_batch;
          opens = subst (λ b. Opens a.id b batch.namespace batch.time cursors (drop (length batch.documents) documents) batch.cursor next) singles opens;
        }) document;
        settled = fixed;
      }

  pub batch_right : (namespace : List ℕ) (named : Bool) (at : ℕ) (stages : List Stage) (size : ℕ) (single : Bool) (documents : List Fields) (batch : Batch)
      (next : List Cursor)
      → (w : IsReading a namespace named at stages (in_batches size single)) → MayGive (history_in v) w.read at (listed documents)
      → excess_of_answer documents ≡ None → IsBatch (Some size) documents batch.documents → batch.namespace ≡ namespace → batch.time ≡ at
      → Opens a.id single batch.namespace batch.time cursors (drop (length batch.documents) documents) batch.cursor next → IsFixed v w.read at → at ≤ t.time
      → t.document ≡ answer_document (first_answer batch) → StaysRight v asked told cursors a t next
  batch_right namespace named at stages size single documents batch next w may small is_batch name when opens fixed past document =
      batch_told w.read (in_batches size single) size single at documents batch next w.tells refl (read_time a t w.read at named w.time past) may small
      is_batch (name ∙ w.name) when
      opens fixed document

-- NOTHING IS THERE

none_sorted : (spec : SortSpec) → IsSortedBy (comes_before spec) []
none_sorted spec = sorted_from_up (comes_before spec) (chain_of spec) (one_way_of spec) [] tt

none_dropped : (n : ℕ) (xs : List Fields) → xs ≡ [] → drop n xs ≡ []
none_dropped zero xs e = e
none_dropped (suc n) [] e = refl
none_dropped (suc n) (x ∷ xs) e = absurd (cc)

none_taken : (n : ℕ) (xs : List Fields) → xs ≡ [] → take n xs ≡ []
none_taken zero xs e = refl
none_taken (suc n) [] e = refl
none_taken (suc n) (x ∷ xs) e = absurd (cc)

-- stages make nothing of nothing
runs_on_nothing : (stages : List Stage) → Runs stages [] (listed [])
runs_on_nothing [] = no_stage_run []
runs_on_nothing (match_stage asked ∷ rest) = match_run asked rest [] (listed []) (runs_on_nothing rest)
runs_on_nothing (project_stage rules ∷ rest) = project_run rules rest [] (listed []) (runs_on_nothing rest)
runs_on_nothing (sort_stage spec ∷ rest) = sort_run spec rest [] [] (listed []) (IsPermutation-refl []) (none_sorted spec) (runs_on_nothing rest)
runs_on_nothing (skip_stage n ∷ rest) = skip_run n rest [] (listed [])
    (subst (λ l. Runs rest l (listed [])) (sym (none_dropped n [] refl)) (runs_on_nothing rest))
runs_on_nothing (limit_stage n ∷ rest) = limit_run n rest [] (listed [])
    (subst (λ l. Runs rest l (listed [])) (sym (none_taken n [] refl)) (runs_on_nothing rest))
runs_on_nothing (count_stage name ∷ rest) = count_run name rest [] (listed []) (runs_on_nothing rest)
runs_on_nothing (group_stage spec ∷ rest) = group_run spec rest [] [] [] (listed []) (record { each = tt; apart = tt; every = tt }) refl (runs_on_nothing rest)

empty_batch : (size : ℕ) → IsBatch (Some size) [] []
empty_batch size = record {
  front = refl;
  allowed = record { there = omega arith; few = omega arith; small = inl (omega arith) };
  longest = λ n m. m.there;
}

-- so the reply to a read is that nothing is there
pub empty_right : (v : View) (asked : List Asked) (told : List Answered) (cursors : List Cursor) (a : Asked) (t : Answered) (q : Open) (named : Bool) (at : ℕ)
    (stages : List Stage) (telling : Telling)
    → NeighboursFit v asked → NoneBegan v q.namespace at → IsReading a q.namespace named at stages telling → at ≤ t.time
    → t.document ≡ answer_document (empty_answer q at telling) → StaysRight v asked told cursors a t cursors
empty_right v asked told cursors a t q named at stages telling around none w past document = by_telling telling w document
  where
    may : (read : Reading) → q.namespace ≡ read.namespace → MayGive (history_in v) read at (listed [])
    may read name =
        let empty : documents_at (history_in v) read.namespace at ≡ [] =
        nothing_stands v read.namespace at (subst (λ n. NoneBegan v n at) name none) around.placed in
        record {
          ordered = [];
          permutes = subst (λ l. IsPermutation l []) (sym empty) (IsPermutation-refl []);
          runs = runs_on_nothing read.stages;
        }

    by_telling : (how : Telling) → IsReading a q.namespace named at stages how → t.document ≡ answer_document (empty_answer q at how)
        → StaysRight v asked told cursors a t cursors
    by_telling (in_batches size single) x document =
        batch_right v asked told cursors a t q.namespace named at stages size single []
        (record { cursor = pos 0; namespace = q.namespace; documents = []; time = at }) cursors x (may x.read x.name)
        refl (empty_batch size) refl refl (opens_none [] (inl refl)) (inr (subst (λ n. NoneBegan v n at) x.name none)) past document
    by_telling as_number x document =
        number_right v asked told cursors a t q.namespace named at 0 stages x (may x.read x.name) (inr (subst (λ n. NoneBegan v n at) x.name none)) past
        document
