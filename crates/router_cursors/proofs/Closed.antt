-- Cursors that are closed, one after another.
use Rattle.std.proofs.Common.{◌≡◌, ◌≢◌, refl, ap, sym, subst, ◌∙◌, ℕ, suc, ℤ, ◌+◌, ◌<◌, List, [], ◌∷◌, ◌++◌, map, drop, get_or, length, add-one, drop-cons, Bool, true, false, ◌&&◌, ◌||◌, not, append_assoc, append-nil, if◌then◌else◌}
use Rattle.std.specs.Prelude.{Option, Some, None, is_some, pos, int_le}
use Rattle.std.specs.List.{list_any}
use Rattle.std.specs.BTreeSet.{BTreeSet, contains}
use Rattle.std.specs.Ordering.{int_cmp, int_eq}
use Rattle.cursor_shelf.specs.Cursors.{OpenCursor, under}
use Rattle.reply_model.specs.Cursors.{Cursor, Kills, kills, kills_none, misses, open_cursor, with_remaining}
use Rattle.base_model.specs.Identities.{RequestId}
use Rattle.router_cursors.specs.Closing.{CloseSoFar, Has, closed_look}
use Rattle.router_cursors.specs.CursorLists.{closed_all}
use Rattle.router_cursors.specs.Marks.{Marked, rises, left_in, AreKept, cursor_by}
use Rattle.router_cursors.proofs.Looks.{changed, has_is}
use Rattle.router_cursors.proofs.Opened.{apart, itself}

-- one more is closed after the others
pub closed_last : (id : RequestId) (numbers : List ℤ) (number : ℤ) (cursors : List Cursor) → closed_all id (numbers ++ number ∷ []) cursors ≡ with_remaining id number [] (closed_all id numbers cursors)
closed_last id [] number cursors = refl
closed_last id (n ∷ numbers) number cursors = closed_last id numbers number (with_remaining id n [] cursors)

closed_some : (numbers : List ℤ) (look : ℤ → Option OpenCursor) (number : ℤ) (c : OpenCursor) → closed_look numbers look number ≡ Some c → look number ≡ Some c
closed_some [] look number c e = e
closed_some (n ∷ numbers) look number c e = by (int_eq number n) (closed_some numbers (λ i. if int_eq i n then None else look i) number c e) where
  by : (b : Bool) → (if b then None else look number) ≡ Some c → look number ≡ Some c
  by true f = absurd (cc f)
  by false f = f

closed_is : (numbers : List ℤ) (look : ℤ → Option OpenCursor) (number : ℤ) → closed_look numbers look number ≡ (if list_any (int_eq number) numbers then None else look number)
closed_is [] look number = refl
closed_is (n ∷ numbers) look number = closed_is numbers (λ i. if int_eq i n then None else look i) number ∙ by (int_eq number n) (list_any (int_eq number) numbers) where
  by : (b more : Bool) → (if more then None else (if b then None else look number)) ≡ (if b || more then None else look number)
  by true true = refl
  by true false = refl
  by false true = refl
  by false false = refl

and_true : (b : Bool) → (b && true) ≡ b
and_true true = refl
and_true false = refl

and_false : (b : Bool) → (b && false) ≡ false
and_false true = refl
and_false false = refl

module _ (router life count : ℕ) where
  abbrev id : RequestId
  id = record { router = router; life = life; count = count }

  -- the cursors as the shelf has them afterwards
  pub closed_looks : (numbers : List ℤ) (look : ℤ → Option OpenCursor) (gave : ℕ) (marks : List Marked) → rises 0 gave marks ≡ true
      → closed_all id numbers (map (λ m. cursor_by router life look m) marks) ≡ map (λ m. cursor_by router life (closed_look numbers look) m) marks
  closed_looks [] look gave marks rising = refl
  closed_looks (n ∷ numbers) look gave marks rising =
      ap (λ (cs : List Cursor). closed_all id numbers cs)
      (sym (changed router life count look (λ i. if int_eq i n then None else look i) n
      (λ i other. ap (λ (b : Bool). if b then None else look i) (apart i n other)) [] 0 gave marks rising
      (ap (λ (b : Bool). left_in (if b then None else look n)) (itself n))))
      ∙ closed_looks numbers (λ i. if int_eq i n then None else look i) gave marks rising

  -- a cursor is open afterwards, if it was open and was not closed
  pub open_closed : (numbers : List ℤ) (look : ℤ → Option OpenCursor) (number : ℤ) (namespace : List ℕ) (gave : ℕ) (marks : List Marked) → rises 0 gave marks ≡ true → AreKept look gave marks
      → is_some (open_cursor id number namespace (closed_all id numbers (map (λ m. cursor_by router life look m) marks)))
      ≡ (is_some (open_cursor id number namespace (map (λ m. cursor_by router life look m) marks)) && not (list_any (int_eq number) numbers))
  open_closed numbers look number namespace gave marks rising kept =
      ap (λ (cs : List Cursor). is_some (open_cursor id number namespace cs)) (closed_looks numbers look gave marks rising)
      ∙ has_is router life count (closed_look numbers look) number namespace gave marks rising (λ i c has given. kept i c (closed_some numbers look i c has) given)
      ∙ ap (λ (o : Option OpenCursor). int_le number (pos gave) && is_some (under namespace o)) (closed_is numbers look number)
      ∙ by (int_le number (pos gave)) (list_any (int_eq number) numbers)
      ∙ ap (λ (b : Bool). b && not (list_any (int_eq number) numbers)) (sym (has_is router life count look number namespace gave marks rising kept))
    where
      by : (given closed : Bool) → (given && is_some (under namespace (if closed then None else look number))) ≡ ((given && is_some (under namespace (look number))) && not closed)
      by true true = sym (and_false (is_some (under namespace (look number))))
      by true false = sym (and_true (is_some (under namespace (look number))))
      by false true = refl
      by false false = refl

-- ONE MORE NUMBER

module _ (id : RequestId) (namespace : List ℕ) (cursors : List Cursor) (number : ℤ) (numbers all killed missing : List ℤ) (so_far : CloseSoFar id namespace cursors (number ∷ numbers) all killed missing) where
  abbrev current : List Cursor
  current = closed_all id killed cursors

  pub one_killed : is_some (open_cursor id number namespace (closed_all id killed cursors)) ≡ true → CloseSoFar id namespace cursors numbers all (killed ++ number ∷ []) missing
  one_killed there ks ms next more =
      subst (λ (l : List ℤ). Kills id namespace cursors all l (missing ++ ms) next) (sym (append_assoc killed (number ∷ []) ks))
      (so_far (number ∷ ks) ms next (by (open_cursor id number namespace current) refl there
      (subst (λ (cs : List Cursor). Kills id namespace cs numbers ks ms next) (closed_last id killed number cursors) more)))
    where
      by : (o : Option Cursor) → open_cursor id number namespace current ≡ o → is_some o ≡ true → Kills id namespace (with_remaining id number [] current) numbers ks ms next
          → Kills id namespace current (number ∷ numbers) (number ∷ ks) ms next
      by None found e more = absurd (cc e)
      by (Some c) found e more = kills current next number numbers ks ms c found more

  pub one_missing : is_some (open_cursor id number namespace (closed_all id killed cursors)) ≡ false → CloseSoFar id namespace cursors numbers all killed (missing ++ number ∷ [])
  one_missing none ks ms next more =
      subst (λ (l : List ℤ). Kills id namespace cursors all (killed ++ ks) l next) (sym (append_assoc missing (number ∷ []) ms))
      (so_far ks (number ∷ ms) next (by (open_cursor id number namespace current) refl none more))
    where
      by : (o : Option Cursor) → open_cursor id number namespace current ≡ o → is_some o ≡ false → Kills id namespace current numbers ks ms next
          → Kills id namespace current (number ∷ numbers) ks (number ∷ ms) next
      by (Some c) found e more = absurd (cc e)
      by None found e more = misses current next number numbers ks ms found more

-- at the end none is left
pub all_closed : (id : RequestId) (namespace : List ℕ) (cursors : List Cursor) (left all killed missing : List ℤ) → left ≡ [] → CloseSoFar id namespace cursors left all killed missing
    → Kills id namespace cursors all killed missing (closed_all id killed cursors)
all_closed id namespace cursors left all killed missing none so_far =
    subst (λ (l : List ℤ). Kills id namespace cursors all l missing (closed_all id killed cursors)) (append-nil killed)
    (subst (λ (l : List ℤ). Kills id namespace cursors all (killed ++ []) l (closed_all id killed cursors)) (append-nil missing)
    (so_far [] [] (closed_all id killed cursors)
    (subst (λ (l : List ℤ). Kills id namespace (closed_all id killed cursors) l [] [] (closed_all id killed cursors)) (sym none) (kills_none (closed_all id killed cursors)))))

-- the next of the numbers
cut_off : (numbers : List ℤ) (i : ℕ) (n d : ℤ) → i < length numbers → n ≡ get_or numbers i d → drop i numbers ≡ n ∷ drop (i + 1) numbers
cut_off numbers i n d inside is = rw add-one (drop-cons numbers i d inside ∙ ap (λ (first : ℤ). first ∷ drop (suc i) numbers) (sym is))

pub cut_so_far : (id : RequestId) (namespace : List ℕ) (cursors : List Cursor) (numbers : List ℤ) (i : ℕ) (n d : ℤ) (killed missing : List ℤ) → i < length numbers → n ≡ get_or numbers i d
    → CloseSoFar id namespace cursors (drop i numbers) numbers killed missing → CloseSoFar id namespace cursors (n ∷ drop (i + 1) numbers) numbers killed missing
cut_so_far id namespace cursors numbers i n d killed missing inside is so_far =
    subst (λ (l : List ℤ). CloseSoFar id namespace cursors l numbers killed missing) (cut_off numbers i n d inside is) so_far

pub close_next : (id : RequestId) (numbers : List ℤ) (i : ℕ) (n d : ℤ) (old new whole : List Cursor) → i < length numbers → n ≡ get_or numbers i d → new ≡ with_remaining id n [] old
    → closed_all id (drop i numbers) old ≡ whole → closed_all id (drop (i + 1) numbers) new ≡ whole
close_next id numbers i n d old new whole inside is closed so_far =
    ap (λ (cs : List Cursor). closed_all id (drop (i + 1) numbers) cs) closed
    ∙ ap (λ (l : List ℤ). closed_all id l old) (sym (cut_off numbers i n d inside is)) ∙ so_far

-- whether a cursor is open, and not one of those that were closed
pub new_is : (router life count : ℕ) (look : ℤ → Option OpenCursor) (gave : ℕ) (marks : List Marked) (closed : BTreeSet ℤ) (killed : List ℤ) (k number : ℤ) (namespace : List ℕ) (flag : Bool)
    → rises 0 gave marks ≡ true → AreKept look gave marks → Has closed killed → k ≡ number
    → flag ≡ (is_some (open_cursor (record { router = router; life = life; count = count }) k namespace (map (λ m. cursor_by router life look m) marks)) && not (contains int_cmp closed k))
    → is_some (open_cursor (record { router = router; life = life; count = count }) number namespace
    (closed_all (record { router = router; life = life; count = count }) killed (map (λ m. cursor_by router life look m) marks))) ≡ flag
new_is router life count look gave marks closed killed k number namespace flag rising kept has same is =
    open_closed router life count killed look number namespace gave marks rising kept
    ∙ ap (λ (b : Bool). is_some (open_cursor (record { router = router; life = life; count = count }) number namespace (map (λ m. cursor_by router life look m) marks)) && not b) (sym (has number))
    ∙ sym (subst (λ (j : ℤ). flag ≡ (is_some (open_cursor (record { router = router; life = life; count = count }) j namespace (map (λ m. cursor_by router life look m) marks)) && not (contains int_cmp closed j))) same is)
