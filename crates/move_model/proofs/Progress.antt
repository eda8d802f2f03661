-- Each batch leaves fewer keys to hand out, where any is left.
use Rattle.std.proofs.Common.{◌≡◌, ◌+◌, ◌≤◌, ◌<◌, List, [], ◌∷◌, ◌++◌, length, length-append, refl, sym, ap, ◌∙◌, arith}
use Rattle.std.specs.Prelude.{Bool, true, false, cond, not, ◌&&◌, ◌||◌, Some, map, filter}
use Rattle.std.proofs.lemmas.Bool.{not-true}
use Rattle.bson_model.specs.Tree.{Datum, Fields}
use Rattle.bson_model.proofs.Booleans.{both}
use Rattle.value_model.specs.Keys.{range_span, inside}
use Rattle.value_model.proofs.Spans.{same_value_equivalence}
use Rattle.history_model.specs.Documents.{Rows, AreInOrder, document_under}
use Rattle.move_model.specs.Sources.{Source, has_key, is_up_to}
use Rattle.record_model.specs.Moves.{MovedDocument}
use Rattle.move_model.specs.Batches.{batch_of, source_after, documents_after, members_left, members_next, cursor_after, document_bytes, keys_of_members, fitting, moved}
use Rattle.move_model.proofs.Cursors.{differ}
use Rattle.move_model.proofs.Keys.{members_of}
use Rattle.move_model.proofs.Batches.{IsNext, next_facts, length_members, is_after}

-- fewer pass a narrower test
fewer_pass : (wide narrow : Datum → Bool) → ((k : Datum) → narrow k ≡ true → wide k ≡ true) → (rows : Rows) →
    length (filter (λ row. narrow row.0) rows) ≤ length (filter (λ row. wide row.0) rows)
fewer_pass wide narrow within [] = omega arith
fewer_pass wide narrow within (row ∷ rows) = by (narrow row.0) refl (wide row.0) refl (fewer_pass wide narrow within rows)
  where
    by : (n : Bool) → narrow row.0 ≡ n → (w : Bool) → wide row.0 ≡ w → length (filter (λ row. narrow row.0) rows) ≤ length (filter (λ row. wide row.0) rows) →
        length (cond n (row ∷ filter (λ row. narrow row.0) rows) (filter (λ row. narrow row.0) rows))
        ≤ length (cond w (row ∷ filter (λ row. wide row.0) rows) (filter (λ row. wide row.0) rows))
    by true is true e less = omega (arith, less)
    by true is false e less = absurd (differ (sym (within row.0 is) ∙ e))
    by false is true e less = omega (arith, less)
    by false is false e less = less

-- strictly fewer, where the first that passes the wider one does not pass it
pub strictly_fewer : (wide narrow : Datum → Bool) → ((k : Datum) → narrow k ≡ true → wide k ≡ true) → (rows : Rows) (r : Datum × Fields) (rest : Rows) →
    filter (λ row. wide row.0) rows ≡ r ∷ rest → narrow r.0 ≡ false →
    length (filter (λ row. narrow row.0) rows) < length (filter (λ row. wide row.0) rows)
strictly_fewer wide narrow within [] r rest first out = absurd cc
strictly_fewer wide narrow within (row ∷ rows) r rest first out =
    by (wide row.0) refl (narrow row.0) refl first (fewer_pass wide narrow within rows) (λ e. strictly_fewer wide narrow within rows r rest e out)
  where
    by : (w : Bool) → wide row.0 ≡ w → (n : Bool) → narrow row.0 ≡ n →
        cond w (row ∷ filter (λ row. wide row.0) rows) (filter (λ row. wide row.0) rows) ≡ r ∷ rest →
        length (filter (λ row. narrow row.0) rows) ≤ length (filter (λ row. wide row.0) rows) →
        (filter (λ row. wide row.0) rows ≡ r ∷ rest → length (filter (λ row. narrow row.0) rows) < length (filter (λ row. wide row.0) rows)) →
        length (cond n (row ∷ filter (λ row. narrow row.0) rows) (filter (λ row. narrow row.0) rows))
        < length (cond w (row ∷ filter (λ row. wide row.0) rows) (filter (λ row. wide row.0) rows))
    by true e true is head less more =
        let same : row ≡ r = cc in absurd (differ (sym is ∙ ap (λ (x : Datum × Fields). narrow x.0) same ∙ out))
    by true e false is head less more = omega (arith, less)
    by false e true is head less more = absurd (differ (sym (within row.0 is) ∙ e))
    by false e false is head less more = more head

-- fewer keys stay
stay_fewer : (p : Datum → Bool) (keys : List Datum) → length (filter p keys) ≤ length keys
stay_fewer p [] = omega arith
stay_fewer p (k ∷ keys) = by (p k) (stay_fewer p keys)
  where
    by : (b : Bool) → length (filter p keys) ≤ length keys → length (cond b (k ∷ filter p keys) (filter p keys)) ≤ length (k ∷ keys)
    by true less = omega (arith, less)
    by false less = omega (arith, less)

pub length_left : (s : Source) (rows : Rows) → length (members_left s rows) ≡ length (documents_after s rows) + length s.changed
length_left s rows =
    length-append (members_of (documents_after s rows)) (map (λ key. moved key (document_under key rows)) s.changed)
    ∙ omega (arith, length_members (documents_after s rows), length_changed s.changed)
  where
    length_changed : (keys : List Datum) → length {A = MovedDocument} (map (λ (key : Datum). moved key (document_under key rows)) keys) ≡ length keys
    length_changed [] = refl
    length_changed (k ∷ keys) = omega (arith, length_changed keys)

module _ (s : Source) (rows : Rows) (ordered : AreInOrder rows) where
  abbrev ms : List MovedDocument
  ms = members_next s rows

  abbrev next : Source
  next = source_after s (batch_of s rows)

  facts : IsNext s rows ms (cursor_after s rows ms)
  facts = next_facts s rows ordered

  -- what is after the new cursor was after the old one
  within : (k : Datum) → is_after next k ≡ true → is_after s k ≡ true
  within k after = by (both (inside (range_span s.range) k) (not (is_up_to next.cursor k)) after) (is_up_to s.cursor k) refl
    where
      by : (inside (range_span s.range) k ≡ true) × (not (is_up_to next.cursor k) ≡ true) → (up : Bool) → is_up_to s.cursor k ≡ up → is_after s k ≡ true
      by (near, past) true up = absurd (differ (sym (facts.further k near up) ∙ not-true (is_up_to next.cursor k) past))
      by (near, past) false up = rw (near, up) refl

  -- the first key is among the members
  has_first : (m : MovedDocument) (more : List MovedDocument) → members_left s rows ≡ m ∷ more → has_key m.key (keys_of_members ms) ≡ true
  has_first m more is =
      ap (λ (l : List MovedDocument). has_key m.key (keys_of_members (fitting 0 0 l))) is
      ∙ ap (λ (t : Bool). t || has_key m.key (keys_of_members (fitting (0 + 1) (0 + document_bytes m.document) more))) (same_value_equivalence.refl m.key)

  -- a document that is handed out is no longer after the cursor
  not_after : (k : Datum) → has_key k (keys_of_members ms) ≡ true → is_after next k ≡ false
  not_after k has = by (inside (range_span s.range) k) refl
    where
      by : (near : Bool) → inside (range_span s.range) k ≡ near → (near && not (is_up_to next.cursor k)) ≡ false
      by true near = ap not (facts.handed k near has)
      by false near = refl

  by_documents : (docs : Rows) → documents_after s rows ≡ docs → (keys : List Datum) → s.changed ≡ keys → 0 < length (members_left s rows) →
      length (documents_after next rows) + length next.changed < length (documents_after s rows) + length s.changed
  by_documents (r ∷ docs) is keys e some =
      let has = has_first (moved r.0 (Some r.1)) (members_of docs ++ map (λ key. moved key (document_under key rows)) s.changed)
      (ap (λ (l : Rows). members_of l ++ map (λ key. moved key (document_under key rows)) s.changed) is) in
      let less : length (documents_after next rows) < length (documents_after s rows) =
      strictly_fewer (is_after s) (is_after next) within rows r docs is (not_after r.0 has) in
      let stay : length next.changed ≤ length s.changed = stay_fewer (λ key. not (has_key key (keys_of_members ms))) s.changed in
      omega (arith, less, stay)
  by_documents [] is [] e some =
      absurd (let n = length_left s rows in let d : length (documents_after s rows) ≡ 0 = ap length is in let c : length s.changed
      ≡ 0 = ap length e in omega (arith, some, n, d, c))
  by_documents [] is (k ∷ keys) e some =
      let has = has_first (moved k (document_under k rows)) (map (λ key. moved key (document_under key rows)) keys)
      (ap (λ (l : Rows). members_of l ++ map (λ key. moved key (document_under key rows)) s.changed) is
      ∙ ap (λ (l : List Datum). map (λ key. moved key (document_under key rows)) l) e) in
      let less : length (documents_after next rows) ≤ length (documents_after s rows) = fewer_pass (is_after s) (is_after next) within rows in
      let gone : length next.changed ≡ length (filter (λ key. not (has_key key (keys_of_members ms))) keys) =
      ap (λ (l : List Datum). length (filter (λ key. not (has_key key (keys_of_members ms))) l)) e
      ∙ ap (λ (t : Bool). length (cond (not t) (k ∷ filter (λ key. not (has_key key (keys_of_members ms))) keys) (filter (λ key. not (has_key key (keys_of_members ms))) keys))) has in
      let stay : length (filter (λ key. not (has_key key (keys_of_members ms))) keys) ≤ length keys = stay_fewer (λ key. not (has_key key (keys_of_members ms))) keys in
      let all : length s.changed ≡ length (k ∷ keys) = ap length e in
      omega (arith, less, gone, stay, all)

  pub fewer : 0 < length (members_left s rows) → length (members_left next rows) < length (members_left s rows)
  fewer some =
      let before = length_left s rows in
      let after = length_left next rows in
      let less = by_documents (documents_after s rows) refl s.changed refl some in
      omega (arith, before, after, less)
