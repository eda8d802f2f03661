-- What the next batch has, and where the cursor is after it.
use Rattle.std.proofs.Common.{◌≡◌, ◌⊎◌, inl, inr, ℕ, ◌+◌, ◌≤◌, ◌<◌, List, [], ◌∷◌, ◌++◌, length, length-append, refl, sym, ap, ◌∙◌, subst, arith}
use Rattle.std.specs.Prelude.{Bool, true, false, not, ◌&&◌, ◌||◌, Some, None, map, if◌then◌else◌}
use Rattle.std.specs.List.{AllByRecursion}
use Rattle.std.proofs.lemmas.Bool.{not-true, lt-leb, le-leb}
use Rattle.bson_model.specs.Tree.{Datum, Fields}
use Rattle.bson_model.proofs.Booleans.{both, neither}
use Rattle.value_model.specs.Keys.{Bound, range_span, inside}
use Rattle.value_model.specs.Order.{same_value}
use Rattle.value_model.proofs.Spans.{same_inside}
use Rattle.history_model.specs.Documents.{Rows, AreInOrder, document_under}
use Rattle.history_model.proofs.Lists.{all_append, all_filter}
use Rattle.move_model.specs.Sources.{Source, has_key, is_up_to}
use Rattle.record_model.specs.Moves.{MovedDocument}
use Rattle.move_model.specs.Batches.{document_bytes, has_room, fitting, keys_of_members, documents_after, members_left, members_next, last_bound, cursor_after, moved}
use Rattle.move_model.proofs.Cursors.{AreAfter, after_all, after_first, after_last, inside_up_to_end, members_up_to_last, up_to_alike, up_to_last}
use Rattle.move_model.proofs.Keys.{IsPresent, all_first, all_map, at_member, filtered_after, found_after, has_append, members_of, not_among, not_found, rows_present}

pub all_any : {X : Type 0} (P : X → Type 0) (xs : List X) → ((x : X) → P x) → AllByRecursion P xs
all_any P [] f = tt
all_any P (x ∷ xs) f = (f x, all_any P xs f)

pub length_members : (rows : Rows) → length (members_of rows) ≡ length rows
length_members [] = refl
length_members (row ∷ rows) = omega (arith, length_members rows)

-- what finds room is a prefix
pub fitting_prefix : (keys bytes : ℕ) (ms : List MovedDocument) → (rest : List MovedDocument) × (fitting keys bytes ms ++ rest ≡ ms)
fitting_prefix keys bytes [] = ([], refl)
fitting_prefix keys bytes (m ∷ ms) = by (has_room keys bytes (document_bytes m.document)) (fitting_prefix (keys + 1) (bytes + document_bytes m.document) ms)
  where
    by : (b : Bool) → (rest : List MovedDocument) × (fitting (keys + 1) (bytes + document_bytes m.document) ms ++ rest ≡ ms) →
        (rest : List MovedDocument) × ((if b then m ∷ fitting (keys + 1) (bytes + document_bytes m.document) ms else []) ++ rest ≡ m ∷ ms)
    by true (rest, e) = (rest, ap (λ (l : List MovedDocument). m ∷ l) e)
    by false more = (m ∷ ms, refl)

-- a prefix of two lists has all of the first, or ends within it
pub prefix_cases : (p r a c : List MovedDocument) → p ++ r ≡ a ++ c →
    ((cs : List MovedDocument) × (p ≡ a ++ cs) × (cs ++ r ≡ c)) ⊎ ((y : MovedDocument) × (ys : List MovedDocument) × (a ≡ p ++ y ∷ ys))
prefix_cases p r [] c e = inl (p, refl, e)
prefix_cases [] r (y ∷ a) c e = inr (y, a, refl)
prefix_cases (x ∷ p) r (y ∷ a) c e = by (prefix_cases p r a c cc)
  where
    same : x ≡ y
    same = cc

    by : ((cs : List MovedDocument) × (p ≡ a ++ cs) × (cs ++ r ≡ c)) ⊎ ((z : MovedDocument) × (zs : List MovedDocument) × (a ≡ p ++ z ∷ zs)) →
        ((cs : List MovedDocument) × (x ∷ p ≡ (y ∷ a) ++ cs) × (cs ++ r ≡ c)) ⊎ ((z : MovedDocument) × (zs : List MovedDocument)
        × (y ∷ a ≡ (x ∷ p) ++ z ∷ zs))
    by (inl (cs, is, rest)) = inl (cs, cc, rest)
    by (inr (z, zs, is)) = inr (z, zs, cc)

-- the test of what is after the cursor
abbrev pub is_after : Source → Datum → Bool
is_after s key = inside (range_span s.range) key && not (is_up_to s.cursor key)

pub after_alike : (s : Source) (a b : Datum) → same_value a b ≡ true → is_after s a ≡ is_after s b
after_alike s a b same =
    ap (λ (t : Bool). t && not (is_up_to s.cursor a)) (same_inside (range_span s.range) a b same)
    ∙ ap (λ (t : Bool). inside (range_span s.range) b && not t) (up_to_alike s.cursor a b same)

pub ahead_after : (s : Source) (rows : Rows) → AreInOrder rows → AreAfter s.cursor (members_of (documents_after s rows))
ahead_after s rows ordered =
    filtered_after s.cursor (is_after s) rows ordered
    (all_any (λ r. is_after s r.0 ≡ true → is_up_to s.cursor r.0 ≡ false) rows
    (λ r pass. not-true (is_up_to s.cursor r.0) (both (inside (range_span s.range) r.0) (not (is_up_to s.cursor r.0)) pass).1))

-- all that is left to hand out has its present document
pub left_present : (s : Source) (rows : Rows) → AreInOrder rows → AllByRecursion (IsPresent rows) (members_left s rows)
left_present s rows ordered =
    all_append (IsPresent rows) (members_of (documents_after s rows)) (map (λ key. moved key (document_under key rows)) s.changed)
    (all_map (IsPresent rows) (λ (row : Datum × Fields). moved row.0 (Some row.1)) (documents_after s rows)
    (all_filter (λ row. Some row.1 ≡ document_under row.0 rows) (λ row. is_after s row.0) rows (rows_present rows ordered)))
    (all_map (IsPresent rows) (λ (key : Datum). moved key (document_under key rows)) s.changed
    (all_any (λ key. document_under key rows ≡ document_under key rows) s.changed (λ key. refl)))

-- members that may be handed out next, up to a cursor
pub record IsNext (s : Source) (rows : Rows) (ms : List MovedDocument) (upto : Bound) : Type 0 where
  pub present : AllByRecursion (IsPresent rows) ms
  pub handed : (key : Datum) → inside (range_span s.range) key ≡ true → has_key key (keys_of_members ms) ≡ true → is_up_to upto key ≡ true
  pub further : (key : Datum) → inside (range_span s.range) key ≡ true → is_up_to s.cursor key ≡ true → is_up_to upto key ≡ true
  pub none : (key : Datum) → inside (range_span s.range) key ≡ true → is_up_to s.cursor key ≡ false → is_up_to upto key ≡ true →
      has_key key (keys_of_members ms) ≡ false → document_under key rows ≡ None

module _ (s : Source) (rows : Rows) (ordered : AreInOrder rows) (ms : List MovedDocument) (present : AllByRecursion (IsPresent rows) ms) where
  -- a key after the cursor without a member among these has no document
  no_document : (key : Datum) → inside (range_span s.range) key ≡ true → is_up_to s.cursor key ≡ false →
      has_key key (keys_of_members (members_of (documents_after s rows))) ≡ false → document_under key rows ≡ None
  no_document key in_range past none =
      let pass : is_after s key ≡ true = rw (in_range, past) refl in
      sym (found_after (is_after s) rows key (after_alike s) pass) ∙ not_found (documents_after s rows) key none

  next_ends : (cs : List MovedDocument) → ms ≡ members_of (documents_after s rows) ++ cs → IsNext s rows ms s.range.max
  next_ends cs is = record {
    present = present;
    handed = λ key in_range has. inside_up_to_end s.range key in_range;
    further = λ key in_range here. inside_up_to_end s.range key in_range;
    none = λ key in_range past here absent. no_document key in_range past
        (neither (has_key key (keys_of_members (members_of (documents_after s rows)))) (has_key key (keys_of_members cs))
        (sym (has_append key (members_of (documents_after s rows)) cs) ∙ ap (λ (l : List MovedDocument). has_key key (keys_of_members l)) (sym is) ∙ absent));
  }

  next_goes_on : (y : MovedDocument) (ys : List MovedDocument) → members_of (documents_after s rows) ≡ ms ++ y ∷ ys →
      IsNext s rows ms (last_bound s.cursor ms)
  next_goes_on y ys is =
      let after : AreAfter s.cursor (ms ++ y ∷ ys) = subst (AreAfter s.cursor) is (ahead_after s rows ordered) in
      let own : AreAfter s.cursor ms = after_first s.cursor ms (y ∷ ys) after in
      record {
        present = present;
        handed = λ key in_range has. at_member (λ k. is_up_to (last_bound s.cursor ms) k ≡ true) ms key
            (λ a same there. sym (up_to_alike (last_bound s.cursor ms) a key same) ∙ there) (members_up_to_last s.cursor ms own) has;
        further = λ key in_range here. up_to_last s.cursor ms key own here;
        none = λ key in_range past here absent. no_document key in_range past
            (ap (λ (l : List MovedDocument). has_key key (keys_of_members l)) is ∙ has_append key ms (y ∷ ys)
            ∙ ap (λ (t : Bool). t || has_key key (keys_of_members (y ∷ ys))) absent
            ∙ not_among (λ k. is_up_to (last_bound s.cursor ms) k) (y ∷ ys) key (up_to_alike (last_bound s.cursor ms))
            (after_all (last_bound s.cursor ms) (y ∷ ys) (after_last s.cursor ms (y ∷ ys) after)) here);
      }

-- the cursor by whether all documents are among the members
pub cursor_ends : (s : Source) (rows : Rows) (ms cs : List MovedDocument) → ms ≡ members_of (documents_after s rows) ++ cs →
    cursor_after s rows ms ≡ s.range.max
cursor_ends s rows ms cs is =
    let n : length ms ≡ length (members_of (documents_after s rows)) + length cs = ap length is ∙ length-append (members_of (documents_after s rows)) cs in
    let more : length (documents_after s rows) ≤ length ms = omega (arith, n, length_members (documents_after s rows)) in
    ap (λ (t : Bool). if t then s.range.max else last_bound s.cursor ms) (le-leb (length (documents_after s rows)) (length ms) more)

pub cursor_goes_on : (s : Source) (rows : Rows) (ms : List MovedDocument) (y : MovedDocument) (ys : List MovedDocument) →
    members_of (documents_after s rows) ≡ ms ++ y ∷ ys →
    cursor_after s rows ms ≡ last_bound s.cursor ms
cursor_goes_on s rows ms y ys is =
    let n : length (documents_after s rows) ≡ length ms + length (y ∷ ys) =
    sym (length_members (documents_after s rows)) ∙ ap length is ∙ length-append ms (y ∷ ys) in
    let less : length ms < length (documents_after s rows) = omega arith in
    ap (λ (t : Bool). if t then s.range.max else last_bound s.cursor ms) (lt-leb (length (documents_after s rows)) (length ms) less)

-- what the next batch has
pub next_facts : (s : Source) (rows : Rows) → AreInOrder rows → IsNext s rows (members_next s rows) (cursor_after s rows (members_next s rows))
next_facts s rows ordered = by (fitting_prefix 0 0 (members_left s rows))
  where
    by : (rest : List MovedDocument) × (members_next s rows ++ rest ≡ members_left s rows) →
        IsNext s rows (members_next s rows) (cursor_after s rows (members_next s rows))
    by (rest, e) = of_case (prefix_cases (members_next s rows) rest (members_of (documents_after s rows)) (map (λ key. moved key (document_under key rows)) s.changed) e)
      where
        present : AllByRecursion (IsPresent rows) (members_next s rows)
        present = all_first (IsPresent rows) (members_next s rows) rest (subst (AllByRecursion (IsPresent rows)) (sym e) (left_present s rows ordered))

        of_case : ((cs : List MovedDocument) × (members_next s rows ≡ members_of (documents_after s rows) ++ cs)
            × (cs ++ rest ≡ map (λ key. moved key (document_under key rows)) s.changed))
            ⊎ ((y : MovedDocument) × (ys : List MovedDocument) × (members_of (documents_after s rows) ≡ members_next s rows ++ y ∷ ys)) →
            IsNext s rows (members_next s rows) (cursor_after s rows (members_next s rows))
        of_case (inl (cs, is, more)) =
            subst (λ (b : Bound). IsNext s rows (members_next s rows) b) (sym (cursor_ends s rows (members_next s rows) cs is))
            (next_ends s rows ordered (members_next s rows) present cs is)
        of_case (inr (y, ys, is)) =
            subst (λ (b : Bound). IsNext s rows (members_next s rows) b) (sym (cursor_goes_on s rows (members_next s rows) y ys is))
            (next_goes_on s rows ordered (members_next s rows) present y ys is)
