-- The cursors of the definitions, as a shelf has them.
use Rattle.std.proofs.Common.{◌≡◌, ◌≢◌, refl, ap, sym, subst, ◌∙◌, ℕ, zero, suc, ℤ, List, [], ◌∷◌, ◌++◌, map, Bool, true, false, ◌&&◌, ◌≤◌, ◌<◌, ◌⊎◌, inl, inr, ⊎_elim, arith, if◌then◌else◌}
use Rattle.std.specs.Prelude.{Option, Some, None, is_some, pos, negsuc, nat_lt, int_le, drop, ◌+◌}
use Rattle.std.specs.Ordering.{int_eq}
use Rattle.std.specs.Str.{bytes_eq}
use Rattle.std.proofs.lemmas.Bool.{eq-eqb, ltb-true, le-leb, leb-true}
use Rattle.std.proofs.lemmas.List.{drop_all, map-append}
use Rattle.bson_model.proofs.Booleans.{both}
use Rattle.cursor_shelf.specs.Cursors.{OpenCursor, under, left_with}
use Rattle.bson_model.specs.Tree.{Fields}
use Rattle.reply_model.specs.Cursors.{Cursor, has_number, is_open, open_cursor, with_remaining}
use Rattle.base_model.specs.Identities.{RequestId}
use Rattle.router_cursors.specs.CursorLists.{advanced}
use Rattle.router_cursors.specs.Marks.{Marked, mark_of, rises, is_left, left_in, AreKept, cursor_by}
use Rattle.router_cursors.proofs.Opened.{NoneHas, above_all, apart, mark_before, mark_last, itself, none_behind, not_given, rises_low, same_number}

left_is : (documents : List Fields) → (elim documents as (λ _. Bool) [ [] ↦ false | d ∷ ds ↦ true ]) ≡ is_left documents
left_is [] = refl
left_is (d ∷ ds) = refl

and : (a b c : Bool) → a ≡ true → b ≡ true → c ≡ true → (a && (b && c)) ≡ true
and a b c e f g = rw (e, f, g) refl

first_not : (a b c : Bool) → a ≡ false → (a && (b && c)) ≡ false
first_not a b c e = rw e refl

name_not : (a b c : Bool) → b ≡ false → (a && (b && c)) ≡ false
name_not true b c e = rw e refl
name_not false b c e = refl

last_not : (a b c : Bool) → c ≡ false → (a && (b && c)) ≡ false
last_not true true c e = e
last_not true false c e = refl
last_not false b c e = refl

some_pair : (p q : List ℕ × ℕ) → ◌≡◌ {A = Option (List ℕ × ℕ)} (Some p) (Some q) → p ≡ q
some_pair p q e = cc

marks_same : (a c : List ℕ) (b d : ℕ) → ◌≡◌ {A = Option (List ℕ × ℕ)} (Some (a, b)) (Some (c, d)) → (a ≡ c) × (b ≡ d)
marks_same a c b d e =
    let same = some_pair (a, b) (c, d) e in (ap (λ (p : List ℕ × ℕ). p.0) same, ap (λ (p : List ℕ × ℕ). p.1) same)

some_same : (d c : OpenCursor) → ◌≡◌ {A = Option OpenCursor} (Some d) (Some c) → d ≡ c
some_same d c e = cc

same_pos : (a b : ℕ) → pos a ≡ pos b → a ≡ b
same_pos a b e = cc

module _ (router life count : ℕ) where
  abbrev id : RequestId
  id = record { router = router; life = life; count = count }

  abbrev made : (number : ℤ) → (namespace : List ℕ) → (time : ℕ) → List Fields → Cursor
  made number namespace time remaining = record { router = router; life = life; number = number; namespace = namespace; time = time; remaining = remaining }

  made_same : (a b : ℤ) (c d : List ℕ) (e f : ℕ) (g h : List Fields) → a ≡ b → c ≡ d → e ≡ f → g ≡ h → made a c e g ≡ made b d f h
  made_same a b c d e f g h i j k l = rw (i, j, k, l) refl

  -- which cursor it is depends on its number
  by_number : (number other : ℤ) (namespace : List ℕ) (time : ℕ) (remaining : List Fields) → has_number id number (made other namespace time remaining) ≡ int_eq other number
  by_number number other namespace time remaining = rw (eq-eqb router router refl, eq-eqb life life refl) refl

  module _ (look : ℤ → Option OpenCursor) where
    abbrev cursor : Marked → Cursor
    cursor m = cursor_by router life look m

    abbrev is_it : (number : ℤ) → (namespace : List ℕ) → Marked → Bool
    is_it number namespace m = has_number id number (cursor m) && (bytes_eq m.0 namespace && is_open (cursor m))

    passes : (number : ℤ) (namespace : List ℕ) (m : Marked) (marks : List Marked) → is_it number namespace m ≡ false
        → open_cursor id number namespace (map (λ k. cursor k) (m ∷ marks)) ≡ open_cursor id number namespace (map (λ k. cursor k) marks)
    passes number namespace m marks e = ap (λ (b : Bool). if b then Some (cursor m) else open_cursor id number namespace (map (λ k. cursor k) marks)) e

    numbered : (number : ℤ) (m : Marked) → has_number id number (cursor m) ≡ int_eq (pos m.1.number) number
    numbered number m = by_number number (pos m.1.number) m.0 m.1.time.0 (left_in (look (pos m.1.number)))

    -- a number that no cursor has
    open_none_has : (number : ℤ) (namespace : List ℕ) (marks : List Marked) → NoneHas number marks → open_cursor id number namespace (map (λ m. cursor m) marks) ≡ None
    open_none_has number namespace [] none = refl
    open_none_has number namespace (m ∷ marks) none =
        passes number namespace m marks (first_not (has_number id number (cursor m)) (bytes_eq m.0 namespace) (is_open (cursor m)) (numbered number m ∙ none.0))
        ∙ open_none_has number namespace marks none.1

    -- the cursor that the shelf has under a number
    pub open_some : (number : ℤ) (namespace : List ℕ) (c : OpenCursor) (marks : List Marked) → look number ≡ Some c → bytes_eq c.namespace namespace ≡ true
        → mark_of number marks ≡ Some (c.namespace, c.time) → is_left c.remaining ≡ true
        → open_cursor id number namespace (map (λ m. cursor m) marks) ≡ Some (made number c.namespace c.time c.remaining)
    open_some number namespace c [] has named marked left = absurd (cc marked)
    open_some number namespace c (m ∷ marks) has named marked left =
        by (int_eq (pos m.1.number) number) refl (λ rest. open_some number namespace c marks has named rest left) where
          by : (b : Bool) → int_eq (pos m.1.number) number ≡ b
              → (mark_of number marks ≡ Some (c.namespace, c.time) → open_cursor id number namespace (map (λ k. cursor k) marks) ≡ Some (made number c.namespace c.time c.remaining))
              → open_cursor id number namespace (map (λ k. cursor k) (m ∷ marks)) ≡ Some (made number c.namespace c.time c.remaining)
          by false e rest =
              passes number namespace m marks (first_not (has_number id number (cursor m)) (bytes_eq m.0 namespace) (is_open (cursor m)) (numbered number m ∙ e))
              ∙ rest (sym (ap (λ (b : Bool). if b then Some (m.0, m.1.time.0) else mark_of number marks) e) ∙ marked)
          by true e rest =
              let same : pos m.1.number ≡ number = same_number (pos m.1.number) number e in
              let is : (m.0 ≡ c.namespace) × (m.1.time.0 ≡ c.time) =
              marks_same m.0 c.namespace m.1.time.0 c.time (sym (ap (λ (b : Bool). if b then Some (m.0, m.1.time.0) else mark_of number marks) e) ∙ marked) in
              let has_left : left_in (look (pos m.1.number)) ≡ c.remaining = ap (λ (i : ℤ). left_in (look i)) same ∙ ap (λ (o : Option OpenCursor). left_in o) has in
              ap (λ (b : Bool). if b then Some (cursor m) else open_cursor id number namespace (map (λ k. cursor k) marks))
              (and (has_number id number (cursor m)) (bytes_eq m.0 namespace) (is_open (cursor m)) (numbered number m ∙ e)
              (ap (λ (n : List ℕ). bytes_eq n namespace) is.0 ∙ named)
              (left_is (left_in (look (pos m.1.number))) ∙ ap (λ (l : List Fields). is_left l) has_left ∙ left))
              ∙ ap (λ (x : Cursor). Some x) (made_same _ _ _ _ _ _ _ _ same is.0 is.1 has_left)

    -- each belongs to the namespace under which the shelf has it
    abbrev AreNamed : List Marked → Type 0
    AreNamed [] = Unit {0}
    AreNamed (m ∷ marks) = ((c : OpenCursor) → look (pos m.1.number) ≡ Some c → m.0 ≡ c.namespace) × AreNamed marks

    are_named : (gave least greatest : ℕ) (all marks : List Marked) → rises least greatest marks ≡ true → greatest ≤ gave
        → ((n : ℕ) → least < n → mark_of (pos n) all ≡ mark_of (pos n) marks) → AreKept look gave all → AreNamed marks
    are_named gave least greatest all [] e low same kept = tt
    are_named gave least greatest all (m ∷ marks) e low same kept =
        let h = both (nat_lt least m.1.number) (rises m.1.number greatest marks) e in
        let above : least < m.1.number = ltb-true least m.1.number h.0 in
        let below : m.1.number ≤ gave = omega (arith, rises_low m.1.number greatest marks h.1, low) in (
          λ c has. (marks_same m.0 c.namespace m.1.time.0 c.time
              (sym (ap (λ (b : Bool). if b then Some (m.0, m.1.time.0) else mark_of (pos m.1.number) marks) (itself (pos m.1.number)))
              ∙ sym (same m.1.number above) ∙ (kept (pos m.1.number) c has (le-leb m.1.number gave below)).0)).0,
          are_named gave m.1.number greatest all marks h.1 low
              (λ n more. same n (omega (arith, above, more))
              ∙ ap (λ (b : Bool). if b then Some (m.0, m.1.time.0) else mark_of (pos n) marks)
              (apart (pos m.1.number) (pos n) (λ e. absurd (omega (arith, more, same_pos m.1.number n e))))) kept,
        )

    not_under : (namespace : List ℕ) (o : Option OpenCursor) (m : Marked) → under namespace o ≡ None → ((c : OpenCursor) → o ≡ Some c → m.0 ≡ c.namespace)
        → (bytes_eq m.0 namespace ≡ false) ⊎ (is_left (left_in o) ≡ false)
    not_under namespace None m none named = inr refl
    not_under namespace (Some c) m none named = inl (ap (λ (n : List ℕ). bytes_eq n namespace) (named c refl) ∙ by (bytes_eq c.namespace namespace) none) where
      by : (b : Bool) → (if b then Some c else None) ≡ None → b ≡ false
      by true e = absurd (cc e)
      by false e = refl

    open_none_by : (number : ℤ) (namespace : List ℕ) (marks : List Marked) → under namespace (look number) ≡ None → AreNamed marks
        → open_cursor id number namespace (map (λ m. cursor m) marks) ≡ None
    open_none_by number namespace [] none named = refl
    open_none_by number namespace (m ∷ marks) none named = passes number namespace m marks (by (int_eq (pos m.1.number) number) refl) ∙ open_none_by number namespace marks none named.1 where
      by : (b : Bool) → int_eq (pos m.1.number) number ≡ b → is_it number namespace m ≡ false
      by false e = first_not (has_number id number (cursor m)) (bytes_eq m.0 namespace) (is_open (cursor m)) (numbered number m ∙ e)
      by true e =
          let same : pos m.1.number ≡ number = same_number (pos m.1.number) number e in
          ⊎_elim (λ other. name_not (has_number id number (cursor m)) (bytes_eq m.0 namespace) (is_open (cursor m)) other)
          (λ empty. last_not (has_number id number (cursor m)) (bytes_eq m.0 namespace) (is_open (cursor m)) (left_is (left_in (look (pos m.1.number))) ∙ empty))
          (not_under namespace (look (pos m.1.number)) m (ap (λ (i : ℤ). under namespace (look i)) same ∙ none) named.0)

    pub open_none : (number : ℤ) (namespace : List ℕ) (gave : ℕ) (marks : List Marked) → rises 0 gave marks ≡ true → AreKept look gave marks → under namespace (look number) ≡ None
        → open_cursor id number namespace (map (λ m. cursor m) marks) ≡ None
    open_none number namespace gave marks rising kept none =
        open_none_by number namespace marks none (are_named gave 0 gave marks marks rising (omega arith) (λ n more. refl) kept)

    -- a number greater than those that were used
    pub open_not_given : (number : ℤ) (namespace : List ℕ) (gave : ℕ) (marks : List Marked) → rises 0 gave marks ≡ true → int_le number (pos gave) ≡ false
        → open_cursor id number namespace (map (λ m. cursor m) marks) ≡ None
    open_not_given number namespace gave marks rising behind = open_none_has number namespace marks (not_given 0 gave number marks rising behind)

    pub under_is : (namespace : List ℕ) (o : Option OpenCursor) (c : OpenCursor) → under namespace o ≡ Some c → (o ≡ Some c) × (bytes_eq c.namespace namespace ≡ true)
    under_is namespace None c e = absurd (cc e)
    under_is namespace (Some d) c e = by (bytes_eq d.namespace namespace) refl e where
      by : (b : Bool) → bytes_eq d.namespace namespace ≡ b → (if b then Some d else None) ≡ Some c → (Some d ≡ Some c) × (bytes_eq c.namespace namespace ≡ true)
      by true is e = (e, subst (λ (x : OpenCursor). bytes_eq x.namespace namespace ≡ true) (some_same d c e) is)
      by false is e = absurd (cc e)

    -- the cursor that is open on a namespace
    pub open_under : (number : ℤ) (namespace : List ℕ) (gave : ℕ) (c : OpenCursor) (marks : List Marked) → AreKept look gave marks → int_le number (pos gave) ≡ true
        → under namespace (look number) ≡ Some c
        → open_cursor id number namespace (map (λ m. cursor m) marks) ≡ Some (made number c.namespace c.time c.remaining)
    open_under number namespace gave c marks kept given found =
        let is = under_is namespace (look number) c found in
        let fits = kept number c is.0 given in
        open_some number namespace c marks is.0 is.1 fits.0 fits.1

    -- whether a cursor is open on a namespace
    pub has_is : (number : ℤ) (namespace : List ℕ) (gave : ℕ) (marks : List Marked) → rises 0 gave marks ≡ true → AreKept look gave marks
        → is_some (open_cursor id number namespace (map (λ m. cursor m) marks)) ≡ (int_le number (pos gave) && is_some (under namespace (look number)))
    has_is number namespace gave marks rising kept = by (int_le number (pos gave)) (under namespace (look number)) refl refl where
      by : (b : Bool) (o : Option OpenCursor) → int_le number (pos gave) ≡ b → under namespace (look number) ≡ o
          → is_some (open_cursor id number namespace (map (λ m. cursor m) marks)) ≡ (b && is_some o)
      by false o behind found = ap (λ (x : Option Cursor). is_some x) (open_not_given number namespace gave marks rising behind)
      by true None given found = ap (λ (x : Option Cursor). is_some x) (open_none number namespace gave marks rising kept found)
      by true (Some c) given found = ap (λ (x : Option Cursor). is_some x) (open_under number namespace gave c marks kept given found)

  module _ (look next : ℤ → Option OpenCursor) (number : ℤ) (others : (i : ℤ) → i ≢ number → next i ≡ look i) where
    other_cursor : (m : Marked) → int_eq (pos m.1.number) number ≡ false → cursor_by router life next m ≡ cursor_by router life look m
    other_cursor m e = ap (λ (o : Option OpenCursor). made (pos m.1.number) m.0 m.1.time.0 (left_in o)) (others (pos m.1.number) (λ same. absurd (cc (e, subst (λ (i : ℤ). int_eq i number ≡ true) (sym same) (itself number)))))

    -- where no cursor has the number nothing changes
    pub none_changed : (marks : List Marked) → NoneHas number marks → map (λ m. cursor_by router life next m) marks ≡ map (λ m. cursor_by router life look m) marks
    none_changed [] none = refl
    none_changed (m ∷ marks) none = rw (other_cursor m none.0, none_changed marks none.1) refl

    -- the cursor with the number has these documents left
    pub changed : (rest : List Fields) (least greatest : ℕ) (marks : List Marked) → rises least greatest marks ≡ true → left_in (next number) ≡ rest
        → map (λ m. cursor_by router life next m) marks ≡ with_remaining id number rest (map (λ m. cursor_by router life look m) marks)
    changed rest least greatest [] e left = refl
    changed rest least greatest (m ∷ marks) e left =
        let h = both (nat_lt least m.1.number) (rises m.1.number greatest marks) e in by (int_eq (pos m.1.number) number) refl h.1 (changed rest m.1.number greatest marks h.1 left) where
          by : (b : Bool) → int_eq (pos m.1.number) number ≡ b → rises m.1.number greatest marks ≡ true
              → map (λ k. cursor_by router life next k) marks ≡ with_remaining id number rest (map (λ k. cursor_by router life look k) marks)
              → map (λ k. cursor_by router life next k) (m ∷ marks) ≡ with_remaining id number rest (map (λ k. cursor_by router life look k) (m ∷ marks))
          by false is rising more =
              rw (other_cursor m is) (rw more
              (sym (ap (λ (b : Bool). if b then made (pos m.1.number) m.0 m.1.time.0 rest ∷ map (λ k. cursor_by router life look k) marks
              else cursor_by router life look m ∷ with_remaining id number rest (map (λ k. cursor_by router life look k) marks))
              (by_number number (pos m.1.number) m.0 m.1.time.0 (left_in (look (pos m.1.number))) ∙ is))))
          by true is rising more =
              let same : pos m.1.number ≡ number = same_number (pos m.1.number) number is in
              rw (none_changed marks (subst (λ (i : ℤ). NoneHas i marks) same (none_behind m.1.number greatest marks rising)))
              (ap (λ (c : Cursor). c ∷ map (λ k. cursor_by router life look k) marks)
              (ap (λ (l : List Fields). made (pos m.1.number) m.0 m.1.time.0 l) (ap (λ (i : ℤ). left_in (next i)) same ∙ left))
              ∙ sym (ap (λ (b : Bool). if b then made (pos m.1.number) m.0 m.1.time.0 rest ∷ map (λ k. cursor_by router life look k) marks
              else cursor_by router life look m ∷ with_remaining id number rest (map (λ k. cursor_by router life look k) marks))
              (by_number number (pos m.1.number) m.0 m.1.time.0 (left_in (look (pos m.1.number))) ∙ is)))

  module _ (look : ℤ → Option OpenCursor) (number : ℤ) (shown : ℕ) where
    -- the first documents of a cursor were shown
    pub advanced_is : (marks : List Marked)
        → advanced id number shown (map (λ m. cursor_by router life look m) marks) ≡ with_remaining id number (drop shown (left_in (look number))) (map (λ m. cursor_by router life look m) marks)
    advanced_is [] = refl
    advanced_is (m ∷ marks) = by (int_eq (pos m.1.number) number) refl (advanced_is marks) where
      by : (b : Bool) → int_eq (pos m.1.number) number ≡ b → advanced id number shown (map (λ k. cursor_by router life look k) marks) ≡ with_remaining id number (drop shown (left_in (look number))) (map (λ k. cursor_by router life look k) marks)
          → advanced id number shown (map (λ k. cursor_by router life look k) (m ∷ marks)) ≡ with_remaining id number (drop shown (left_in (look number))) (map (λ k. cursor_by router life look k) (m ∷ marks))
      by false is more =
          let test = by_number number (pos m.1.number) m.0 m.1.time.0 (left_in (look (pos m.1.number))) ∙ is in
          ap (λ (b : Bool). if b then made (pos m.1.number) m.0 m.1.time.0 (drop shown (left_in (look (pos m.1.number)))) ∷ map (λ k. cursor_by router life look k) marks else cursor_by router life look m ∷ advanced id number shown (map (λ k. cursor_by router life look k) marks)) test
          ∙ ap (λ (l : List Cursor). cursor_by router life look m ∷ l) more
          ∙ sym (ap (λ (b : Bool). if b then made (pos m.1.number) m.0 m.1.time.0 (drop shown (left_in (look number))) ∷ map (λ k. cursor_by router life look k) marks
          else cursor_by router life look m ∷ with_remaining id number (drop shown (left_in (look number))) (map (λ k. cursor_by router life look k) marks)) test)
      by true is more =
          let same : pos m.1.number ≡ number = same_number (pos m.1.number) number is in
          let test = by_number number (pos m.1.number) m.0 m.1.time.0 (left_in (look (pos m.1.number))) ∙ is in
          ap (λ (b : Bool). if b then made (pos m.1.number) m.0 m.1.time.0 (drop shown (left_in (look (pos m.1.number)))) ∷ map (λ k. cursor_by router life look k) marks else cursor_by router life look m ∷ advanced id number shown (map (λ k. cursor_by router life look k) marks)) test
          ∙ ap (λ (i : ℤ). made (pos m.1.number) m.0 m.1.time.0 (drop shown (left_in (look i))) ∷ (map (λ k. cursor_by router life look k) marks)) same
          ∙ sym (ap (λ (b : Bool). if b then made (pos m.1.number) m.0 m.1.time.0 (drop shown (left_in (look number))) ∷ map (λ k. cursor_by router life look k) marks
          else cursor_by router life look m ∷ with_remaining id number (drop shown (left_in (look number))) (map (λ k. cursor_by router life look k) marks)) test)

  -- one more is opened after the others
  pub opened_last : (look next : ℤ → Option OpenCursor) (gave n : ℕ) (marks : List Marked) (m : Marked) (c : OpenCursor) → rises 0 gave marks ≡ true → n ≡ gave + 1 → m.1.number ≡ n
      → ((i : ℤ) → i ≢ pos n → next i ≡ look i) → next (pos n) ≡ Some c
      → map (λ k. cursor_by router life next k) (marks ++ m ∷ []) ≡ map (λ k. cursor_by router life look k) marks ++ made (pos n) m.0 m.1.time.0 c.remaining ∷ []
  opened_last look next gave n marks m c rising behind is others there =
      map-append (λ k. cursor_by router life next k) marks (m ∷ [])
      ∙ ap (λ (l : List Cursor). l ++ cursor_by router life next m ∷ []) (none_changed look next (pos n) others marks (above_all 0 gave n marks rising (omega (arith, behind))))
      ∙ ap (λ (x : Cursor). map (λ k. cursor_by router life look k) marks ++ x ∷ [])
      (made_same _ _ _ _ _ _ _ _ (ap (λ (k : ℕ). pos k) is) refl refl (ap (λ (k : ℕ). left_in (next (pos k))) is ∙ ap (λ (o : Option OpenCursor). left_in o) there))

-- WHAT A SHELF KEEPS

abbrev no_documents : List Fields
no_documents = []

drop_none : (n : ℕ) → drop n no_documents ≡ no_documents
drop_none n = drop_all n no_documents (omega arith)

left_kept : (c : OpenCursor) (rest : List Fields) → left_in (left_with c rest) ≡ rest
left_kept c [] = refl
left_kept c (d ∷ rest) = refl

-- what is left after the first documents were shown
pub left_then : (before after : Option OpenCursor) (shown : ℕ) → ((c : OpenCursor) → before ≡ Some c → after ≡ left_with c (drop shown c.remaining)) → (before ≡ None → after ≡ None)
    → left_in after ≡ drop shown (left_in before)
left_then None after shown some none = ap (λ (o : Option OpenCursor). left_in o) (none refl) ∙ sym (drop_none shown)
left_then (Some c) after shown some none = ap (λ (o : Option OpenCursor). left_in o) (some c refl) ∙ left_kept c (drop shown c.remaining)

kept_with : (c d : OpenCursor) (rest : List Fields) → left_with c rest ≡ Some d → (c.namespace ≡ d.namespace) × (c.time ≡ d.time) × (is_left d.remaining ≡ true)
kept_with c d [] e = absurd (cc e)
kept_with c d (x ∷ rest) e =
    let same : record { namespace = c.namespace; time = c.time; remaining = x ∷ rest } ≡ d = some_same _ d e in
    (ap (λ (k : OpenCursor). k.namespace) same, ap (λ (k : OpenCursor). k.time) same, ap (λ (k : OpenCursor). is_left k.remaining) (sym same))

module _ (look next : ℤ → Option OpenCursor) (gave : ℕ) (marks : List Marked) (kept : AreKept look gave marks) where
  -- other cursors are unchanged
  kept_others : (number : ℤ) → ((i : ℤ) → i ≢ number → next i ≡ look i) → (i : ℤ) (c : OpenCursor) → int_eq i number ≡ false → next i ≡ Some c → int_le i (pos gave) ≡ true
      → (mark_of i marks ≡ Some (c.namespace, c.time)) × (is_left c.remaining ≡ true)
  kept_others number others i c other has given = kept i c (sym (others i (λ same. absurd (cc (other, subst (λ (j : ℤ). int_eq j number ≡ true) (sym same) (itself number))))) ∙ has) given

  -- the first documents of one were shown
  pub kept_advanced : (number : ℤ) (shown : ℕ) → ((c : OpenCursor) → look number ≡ Some c → next number ≡ left_with c (drop shown c.remaining)) → (look number ≡ None → next number ≡ None)
      → ((i : ℤ) → i ≢ number → next i ≡ look i) → AreKept next gave marks
  kept_advanced number shown some none others i c has given = by (int_eq i number) refl where
    by : (b : Bool) → int_eq i number ≡ b → (mark_of i marks ≡ Some (c.namespace, c.time)) × (is_left c.remaining ≡ true)
    by false other = kept_others number others i c other has given
    by true is = at (look number) refl where
      same : i ≡ number
      same = same_number i number is

      at : (o : Option OpenCursor) → look number ≡ o → (mark_of i marks ≡ Some (c.namespace, c.time)) × (is_left c.remaining ≡ true)
      at None found = absurd (cc (sym (ap next same ∙ none found) ∙ has))
      at (Some d) found =
          let k = kept_with d c (drop shown d.remaining) (sym (ap next same ∙ some d found) ∙ has) in
          ((kept i d (ap look same ∙ found) given).0 ∙ rw (k.0, k.1) refl, k.2)

  -- one was closed
  pub kept_closed : (number : ℤ) → next number ≡ None → ((i : ℤ) → i ≢ number → next i ≡ look i) → AreKept next gave marks
  kept_closed number none others i c has given = by (int_eq i number) refl where
    by : (b : Bool) → int_eq i number ≡ b → (mark_of i marks ≡ Some (c.namespace, c.time)) × (is_left c.remaining ≡ true)
    by false other = kept_others number others i c other has given
    by true is = absurd (cc (sym (ap next (same_number i number is) ∙ none) ∙ has))

  above_given : (n : ℕ) → gave < n → int_le (pos n) (pos gave) ≡ true → ⊥
  above_given n above given = omega (arith, above, leb-true n gave given)

  -- one is stored under a number that was not used yet
  pub kept_put : (n : ℕ) → gave < n → ((i : ℤ) → i ≢ pos n → next i ≡ look i) → AreKept next gave marks
  kept_put n above others i c has given = by (int_eq i (pos n)) refl where
    by : (b : Bool) → int_eq i (pos n) ≡ b → (mark_of i marks ≡ Some (c.namespace, c.time)) × (is_left c.remaining ≡ true)
    by false other = kept_others (pos n) others i c other has given
    by true is = absurd (above_given n above (subst (λ (j : ℤ). int_le j (pos gave) ≡ true) (same_number i (pos n) is) given))

  given_before : (i : ℤ) (n : ℕ) → n ≡ gave + 1 → int_eq i (pos n) ≡ false → int_le i (pos n) ≡ true → int_le i (pos gave) ≡ true
  given_before (pos k) n behind other given =
      le-leb k gave (not_same k n gave behind (leb-true k n given) (λ same. absurd (cc (other, subst (λ (j : ℕ). int_eq (pos k) (pos j) ≡ true) same (itself (pos k))))))
    where
      not_same : (k n gave : ℕ) → n ≡ gave + 1 → k ≤ n → (k ≡ n → ⊥) → k ≤ gave
      not_same k n gave behind low other = omega (arith, behind, low, other)
  given_before (negsuc k) n behind other given = refl

  -- one is opened under the number after
  pub kept_opened : (n : ℕ) (m : Marked) (c : OpenCursor) → rises 0 gave marks ≡ true → n ≡ gave + 1 → m.1.number ≡ n → m.0 ≡ c.namespace → m.1.time.0 ≡ c.time → is_left c.remaining ≡ true
      → ((i : ℤ) → i ≢ pos n → next i ≡ look i) → next (pos n) ≡ Some c → AreKept next n (marks ++ m ∷ [])
  kept_opened n m c rising behind is name time left others there i d has given = by (int_eq i (pos n)) refl where
    by : (b : Bool) → int_eq i (pos n) ≡ b → (mark_of i (marks ++ m ∷ []) ≡ Some (d.namespace, d.time)) × (is_left d.remaining ≡ true)
    by false other =
        let k = kept_others (pos n) others i d other has (given_before i n behind other given) in
        (mark_before i marks m (λ same. absurd (cc (other, subst (λ (j : ℤ). int_eq j (pos n) ≡ true) (sym (ap (λ (x : ℕ). pos x) is) ∙ same) (itself (pos n))))) ∙ k.0, k.1)
    by true same =
        let at : i ≡ pos n = same_number i (pos n) same in
        let it : c ≡ d = some_same c d (sym there ∙ (sym (ap next at) ∙ has)) in (
          mark_last i marks m (subst (λ (j : ℤ). NoneHas j marks) (sym at) (above_all 0 gave n marks rising (omega (arith, behind)))) (ap (λ (x : ℕ). pos x) is ∙ sym at)
              ∙ rw (name, time) (ap (λ (k : OpenCursor). Some (k.namespace, k.time)) it),
          ap (λ (k : OpenCursor). is_left k.remaining) (sym it) ∙ left,
        )
