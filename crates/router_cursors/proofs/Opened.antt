-- Cursors that were opened, found by their numbers.
use Rattle.std.proofs.Common.{◌≡◌, ◌≢◌, refl, ap, sym, subst, ◌∙◌, ℕ, ℤ, List, [], ◌∷◌, ◌++◌, map, Bool, true, false, ◌&&◌, ◌<◌, ◌≤◌, arith, if◌then◌else◌}
use Rattle.std.specs.Prelude.{Option, Some, None, pos, negsuc, nat_lt, nat_le, int_le}
use Rattle.std.specs.Ordering.{int_eq}
use Rattle.std.specs.Str.{bytes_eq}
use Rattle.std.proofs.lemmas.Bool.Decides.{Decides-int_eq}
use Rattle.std.proofs.lemmas.Bool.{ltb-true, leb-true, leb-false, lt-ltb, le-leb}
use Rattle.bson_model.proofs.Booleans.{both}
use Rattle.cursor_shelf.specs.Cursors.{OpenCursor}
use Rattle.bson_model.specs.Tree.{Fields}
use Rattle.router_cursors.specs.Marks.{Marked, mark_of, rises, is_left, AreKept}

pub same_number : (m n : ℤ) → int_eq m n ≡ true → m ≡ n
same_number m n e = (Decides-int_eq m n).0 e

pub itself : (n : ℤ) → int_eq n n ≡ true
itself n = (Decides-int_eq n n).1 refl

pub apart : (m n : ℤ) → m ≢ n → int_eq m n ≡ false
apart m n other = by (int_eq m n) refl where
  by : (b : Bool) → int_eq m n ≡ b → b ≡ false
  by true e = absurd (other (same_number m n e))
  by false e = refl

and : {a b : Bool} → a ≡ true → b ≡ true → (a && b) ≡ true
and {a} {b} e f = cc

pos_same : (a b : ℕ) → pos a ≡ pos b → a ≡ b
pos_same a b e = cc

-- THE NUMBERS RISE

pub rises_pushed : (least greatest : ℕ) (marks : List Marked) (m : Marked) → rises least greatest marks ≡ true → greatest < m.1.number → rises least m.1.number (marks ++ m ∷ []) ≡ true
rises_pushed least greatest [] m e above = and (lt-ltb least m.1.number (omega (arith, leb-true least greatest e, above))) (le-leb m.1.number m.1.number (omega arith))
rises_pushed least greatest (k ∷ marks) m e above =
    let h = both (nat_lt least k.1.number) (rises k.1.number greatest marks) e in and h.0 (rises_pushed k.1.number greatest marks m h.1 above)

-- no number exceeds the greatest
pub rises_low : (least greatest : ℕ) (marks : List Marked) → rises least greatest marks ≡ true → least ≤ greatest
rises_low least greatest [] e = leb-true least greatest e
rises_low least greatest (k ∷ marks) e =
    let h = both (nat_lt least k.1.number) (rises k.1.number greatest marks) e in omega (arith, ltb-true least k.1.number h.0, rises_low k.1.number greatest marks h.1)

-- a number that no cursor has
abbrev pub NoneHas : ℤ → List Marked → Type 0
NoneHas number [] = Unit {0}
NoneHas number (m ∷ marks) = (int_eq (pos m.1.number) number ≡ false) × NoneHas number marks

pub above_all : (least greatest n : ℕ) (marks : List Marked) → rises least greatest marks ≡ true → greatest < n → NoneHas (pos n) marks
above_all least greatest n [] e above = tt
above_all least greatest n (m ∷ marks) e above =
    let h = both (nat_lt least m.1.number) (rises m.1.number greatest marks) e in
    let low = rises_low m.1.number greatest marks h.1 in
    (apart (pos m.1.number) (pos n) (λ same. absurd (omega (arith, pos_same m.1.number n same, low, above))), above_all m.1.number greatest n marks h.1 above)

-- a number greater than those that were used
pub not_given : (least greatest : ℕ) (number : ℤ) (marks : List Marked) → rises least greatest marks ≡ true → int_le number (pos greatest) ≡ false → NoneHas number marks
not_given least greatest (pos n) marks e behind = above_all least greatest n marks e (behind_is n greatest behind) where
  behind_is : (n greatest : ℕ) → int_le (pos n) (pos greatest) ≡ false → greatest < n
  behind_is n greatest f = leb-false n greatest f
not_given least greatest (negsuc n) marks e behind = absurd (cc behind)

-- after a number that rises
pub none_behind : (least greatest : ℕ) (marks : List Marked) → rises least greatest marks ≡ true → NoneHas (pos least) marks
none_behind least greatest marks e = none_up least least greatest marks (omega arith) e where
  none_up : (n least greatest : ℕ) (marks : List Marked) → n ≤ least → rises least greatest marks ≡ true → NoneHas (pos n) marks
  none_up n least greatest [] low e = tt
  none_up n least greatest (m ∷ marks) low e =
      let h = both (nat_lt least m.1.number) (rises m.1.number greatest marks) e in
      let above = ltb-true least m.1.number h.0 in
      (apart (pos m.1.number) (pos n) (λ same. absurd (omega (arith, low, above, pos_same m.1.number n same))), none_up n m.1.number greatest marks (omega (arith, low, above)) h.1)

-- MARKS BY NUMBERS

pub mark_none : (number : ℤ) (marks : List Marked) → NoneHas number marks → mark_of number marks ≡ None
mark_none number [] none = refl
mark_none number (m ∷ marks) none = ap (λ (b : Bool). if b then Some (m.0, m.1.time.0) else mark_of number marks) none.0 ∙ mark_none number marks none.1

-- one more after the others
pub mark_last : (number : ℤ) (marks : List Marked) (m : Marked) → NoneHas number marks → pos m.1.number ≡ number → mark_of number (marks ++ m ∷ []) ≡ Some (m.0, m.1.time.0)
mark_last number [] m none same =
    ap (λ (b : Bool). if b then Some (m.0, m.1.time.0) else None) (subst (λ (i : ℤ). int_eq i number ≡ true) (sym same) (itself number))
mark_last number (k ∷ marks) m none same =
    ap (λ (b : Bool). if b then Some (k.0, k.1.time.0) else mark_of number (marks ++ m ∷ [])) none.0 ∙ mark_last number marks m none.1 same

pub mark_before : (number : ℤ) (marks : List Marked) (m : Marked) → pos m.1.number ≢ number → mark_of number (marks ++ m ∷ []) ≡ mark_of number marks
mark_before number [] m other = ap (λ (b : Bool). if b then Some (m.0, m.1.time.0) else None) (apart (pos m.1.number) number other)
mark_before number (k ∷ marks) m other = ap (λ (o : Option (List ℕ × ℕ)). if int_eq (pos k.1.number) number then Some (k.0, k.1.time.0) else o) (mark_before number marks m other)
