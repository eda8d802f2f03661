-- Finds of one key, to try the definitions on: what is right, and what a right answer says.
use Rattle.std.proofs.Common.{◌≡◌, ℕ, ℤ, pos, ◌≤◌, inl, inr, List, [], ◌∷◌, length, take, drop, map, refl, sym, ap, subst, ◌∙◌, arith, codes}
use Rattle.std.specs.Prelude.{Bool, true, false, cond, Option, Some, None, Ok, filter, if◌then◌else◌}
use Rattle.std.specs.Option.{unwrap_or}
use Rattle.std.proofs.lemmas.List.Sorted.{IsPermutation-refl}
use Rattle.bson_model.specs.Tree.{Datum, Fields}
use Rattle.command_model.specs.Cursors.{Batch}
use Rattle.command_model.specs.Command.{find_command, command_of}
use Rattle.command_model.specs.Answers.{first_answer, answer_document}
use Rattle.value_model.specs.Keys.{is_key, min_bound, max_bound, point_span}
use Rattle.query_model.specs.Holds.{holds}
use Rattle.query_model.specs.KeySpans.{is_within, key_equal}
use Rattle.query_model.proofs.KeysAsked.{asked_is_key}
use Rattle.query_model.proofs.SpanKeys.{any_fits}
use Rattle.pipeline_model.specs.Stages.{match_stage}
use Rattle.pipeline_model.specs.Runs.{Runs, no_stage_run, match_run, listed}
use Rattle.pipeline_model.specs.Batches.{IsSmall, IsBatch}
use Rattle.pipeline_model.specs.Lengths.{excess_of_answer}
use Rattle.pipeline_model.proofs.Fronts.{opened}
use Rattle.history_model.specs.History.{Entry, document_at}
use Rattle.history_model.specs.Documents.{documents_at}
use Rattle.base_model.specs.Identities.{RequestId}
use Rattle.reply_model.specs.Exchanges.{Asked, Answered}
use Rattle.reply_model.specs.Cursors.{Cursor, IsNewNumber, Opens, opens_none, opens_one, ShowsFirst}
use Rattle.reply_model.specs.Reads.{IsTimeRead, MayGive}
use Rattle.reply_model.specs.Right.{asks_for_one, usual_size, IsRight, right_find}
use Rattle.reply_facts.specs.Earlier.{found}
use Rattle.reply_laws.specs.SampleExchanges.{IsToldRightly, id_is, find_of, account_of}
use Rattle.reply_laws.proofs.Quiet.{never_batch}
use Rattle.reply_facts.proofs.RightAnswers.{RightBy, right_of, same_first}
use Rattle.reply_laws.proofs.SpanReads.{runs_of_key}

-- BATCHES

pub all_in_front : (documents : List Fields) → documents ≡ take (length documents) documents
all_in_front [] = refl
all_in_front (document ∷ documents) = ap (λ (l : List Fields). document ∷ l) (all_in_front documents)

pub none_behind : (documents : List Fields) → drop (length documents) documents ≡ []
none_behind [] = refl
none_behind (document ∷ documents) = none_behind documents

-- all documents are a batch, where they are few and small
pub whole_batch : (size : ℕ) (documents : List Fields) → length documents ≤ size → IsSmall documents → IsBatch (Some size) documents documents
whole_batch size documents few small = record {
  front = all_in_front documents;
  allowed = record { there = omega arith; few = few; small = subst (λ (l : List Fields). IsSmall l) (all_in_front documents) small };
  longest = λ n m. m.there;
}

-- WHAT IS RIGHT

pub key_gives : (history : List Entry) (key : Datum) (at : Option ℕ) (time : ℕ) → MayGive history (find_of key at).reading time
    (listed (filter (holds (id_is key)) (documents_at history (codes "d.c") time)))
key_gives history key at time = record {
  ordered = documents_at history (codes "d.c") time;
  permutes = IsPermutation-refl (documents_at history (codes "d.c") time);
  runs = match_run (id_is key) [] (documents_at history (codes "d.c") time) (listed (filter (holds (id_is key)) (documents_at history (codes "d.c") time)))
      (no_stage_run (filter (holds (id_is key)) (documents_at history (codes "d.c") time)));
}

abbrev pub told_of : List Fields → ℕ → Batch
told_of documents time = record { cursor = pos 0; namespace = codes "d.c"; documents = documents; time = time }

-- with these answers beside it
pub key_find_right_among : (history : List Entry) (asked : List Asked) (answered : List Answered) (a : Asked) (t : Answered) (key : Datum) (at : Option ℕ)
    (time : ℕ) (documents : List Fields)
    → command_of a.request ≡ Ok (find_command (find_of key at)) → IsTimeRead a t (find_of key at).reading time
    → filter (holds (id_is key)) (documents_at history (codes "d.c") time) ≡ documents → length documents ≤ 1 → excess_of_answer documents ≡ None
    → t.document ≡ answer_document (first_answer (told_of documents time)) → IsRight (account_of history asked answered) [] a t []
key_find_right_among history asked answered a t key at time documents asks read same one small says =
    right_find (find_of key at) time documents (told_of documents time) [] asks read
    (subst (λ (l : List Fields). MayGive history (find_of key at).reading time (listed l)) same (key_gives history key at time)) small refl refl
    (record {
      batch_of = whole_batch 101 documents (omega arith) (inl one);
      opens = opens_none (drop (length documents) documents)
          (inl (none_behind documents));
    })
    says

pub key_find_right : (history : List Entry) (a : Asked) (t : Answered) (key : Datum) (at : Option ℕ) (time : ℕ) (documents : List Fields)
    → command_of a.request ≡ Ok (find_command (find_of key at)) → IsTimeRead a t (find_of key at).reading time
    → filter (holds (id_is key)) (documents_at history (codes "d.c") time) ≡ documents → length documents ≤ 1 → excess_of_answer documents ≡ None
    → t.document ≡ answer_document (first_answer (told_of documents time)) → IsToldRightly history a t
key_find_right history a t key at time documents asks read same one small says =
    key_find_right_among history [] [] a t key at time documents asks read same one small says

-- WHAT A RIGHT ANSWER SAYS

same_list : (documents others : List Fields) → listed documents ≡ listed others → documents ≡ others
same_list documents others e = cc

runs_match : (key : Datum) (docs documents : List Fields) → Runs (match_stage (id_is key) ∷ []) docs (listed documents) → filter (holds (id_is key)) docs
    ≡ documents
runs_match key docs documents runs = sym (same_list documents (filter (holds (id_is key)) docs) (opened (opened runs)))

pub never_new : (id : RequestId) (cursors : List Cursor) → IsNewNumber id (pos 0) cursors → ⊥
never_new id cursors new = let less = new.0.1 in let same : pos 0 ≡ pos new.0.0 = new.0.2 in let e : 0 ≡ new.0.0 = cc in omega arith

pub opens_nothing : (id : RequestId) (single : Bool) (namespace : List ℕ) (time : ℕ) (cursors : List Cursor) (rest : List Fields) (number : ℤ)
    (next : List Cursor)
    → single ≡ false → number ≡ pos 0 → Opens id single namespace time cursors rest number next → rest ≡ []
opens_nothing id single namespace time cursors rest number next many none (opens_none r (inl e)) = e
opens_nothing id single namespace time cursors rest number next many none (opens_none r (inr e)) = absurd (let f : true ≡ false = sym e ∙ many in cc)
opens_nothing id single namespace time cursors rest number next many none (opens_one r n some more new) =
    absurd (never_new id cursors (subst (λ (k : ℤ). IsNewNumber id k cursors) none new))

pub record TellsKey (history : List Entry) (a : Asked) (t : Answered) (key : Datum) (at : Option ℕ) (documents : List Fields) (time : ℕ) : Type 0 where
  pub read : IsTimeRead a t (find_of key at).reading time
  pub documents_are : filter (holds (id_is key)) (found (document_at history (codes "d.c") (Some key) time)) ≡ documents

-- a find of a key that returns these documents found them at their time
pub tells_key : (history : List Entry) (a : Asked) (t : Answered) (next : List Cursor) (key : Datum) (at : Option ℕ) (documents : List Fields) (time : ℕ)
    → IsRight (account_of history [] []) [] a t next → command_of a.request ≡ Ok (find_command (find_of key at)) → key_equal (id_is key) ≡ Some key
    → a.request.more ≡ false
    → t.document ≡ answer_document (first_answer (told_of documents time)) → TellsKey history a t key at documents time
tells_key history a t next key at documents time right asks own loud says =
    by_told (right_of (account_of history [] []) [] a t (Ok (find_command (find_of key at))) next asks right)
  where
    of_whole : (shown whole : List Fields) → shown ≡ take (length shown) whole → drop (length shown) whole ≡ [] → whole ≡ shown
    of_whole [] whole front none = none
    of_whole (d ∷ shown) [] front none = absurd (cc)
    of_whole (d ∷ shown) (e ∷ whole) front none =
        let first : d ≡ e = cc in
        let rest : shown ≡ take (length shown) whole = cc in
        let more : whole ≡ shown = of_whole shown whole rest none in
        cc

    by_told : RightBy (account_of history [] []) [] a t (Ok (find_command (find_of key at))) next → TellsKey history a t key at documents time
    by_told (inr refused) =
        absurd (never_batch (account_of history [] []) [] a t (find_of key at).reading (told_of documents time) says refused.0)
    by_told (inl told) =
        let same : told.batch ≡ told_of documents time = same_first told.batch (told_of documents time) (sym told.says ∙ says) in
        let shows = subst (λ (b : Batch). ShowsFirst a.id (unwrap_or (find_of key at).batches.size usual_size)
        (asks_for_one (find_of key at).batches a.request) [] told.documents b next) same told.shows in
        let none = opens_nothing a.id (asks_for_one (find_of key at).batches a.request) (codes "d.c") time [] (drop (length documents) told.documents)
        (pos 0) next loud refl shows.opens in
        let whole = of_whole documents told.documents shows.batch_of.front none in
        let gives = subst (λ (b : Batch). MayGive history (find_of key at).reading b.time (listed told.documents)) same told.gives in
        let is : is_key key ≡ true = asked_is_key (Some key) key own in
        let span = ap (λ (b : Bool). map point_span (filter (is_within min_bound max_bound false) (if b then key ∷ [] else []))) is
        ∙ ap (λ (b : Bool). map point_span (cond b (key ∷ []) [])) (any_fits key is).within in
        record {
          read = subst (λ (b : Batch). IsTimeRead a t (find_of key at).reading b.time) same told.time;
          documents_are = runs_match key (found (document_at history (codes "d.c") (Some key) time)) told.documents
              (runs_of_key history (find_of key at).reading key time (listed told.documents) span gives) ∙ whole;
        }
