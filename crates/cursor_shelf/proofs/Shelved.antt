-- The cursor that the shelf has under an id, and the result of a change.
use Rattle.std.proofs.Common.{◌≡◌, ◌≢◌, ℕ, ℤ, List, [], ◌∷◌, length, Result, Err, refl, sym, ap, ◌∙◌, subst, arith, Ordering, Less, Equal, Greater}
use Rattle.std.specs.Prelude.{Bool, true, false, Option, Some, None, is_some, option_map, ◌==◌, if◌then◌else◌}
use Rattle.std.specs.BTreeMap.{BTreeMap, get_by, is_at}
use Rattle.std.specs.Ordering.{int_cmp, is_eq}
use Rattle.std.specs.Str.{bytes_eq}
use Rattle.std.proofs.lemmas.Bool.{eqb-true}
use Rattle.std.proofs.lemmas.Map.Lookups.{exact_signed}
use Rattle.bson_model.specs.Tree.{Fields}
use Rattle.cursor_shelf.specs.Cursors.{OpenCursor, under, left_with}
use Rattle.cursor_shelf.specs.Shelves.{cursor_under}
use Rattle.cursor_shelf.specs.declared.shelf.Shelf.{Shelf}
use Rattle.cursor_shelf.specs.declared.shelf.ShelfFault.{ShelfFault}
use Rattle.cursor_shelf.specs.declared.shelf.ShelfFault.TheVariants as faults

pub apart : (i id : ℤ) → i ≢ id → is_at (int_cmp id) i ≡ false
apart i id other = by (int_cmp id i) refl
  where
    by : (r : Ordering) → int_cmp id i ≡ r → is_eq r ≡ false
    by Less e = refl
    by Equal e = absurd (other (sym (exact_signed id i e)))
    by Greater e = refl

some_if : (b : Bool) (cursor : OpenCursor) → is_some (if b then Some cursor else None) ≡ b
some_if true cursor = refl
some_if false cursor = refl

pub none_is : (o : Option OpenCursor) (b : Bool) → b ≡ is_some o → b ≡ false → o ≡ None
none_is None b e none = refl
none_is (Some cursor) b e none = absurd cc

pub never_none : {A : Type 0} (o : Option OpenCursor) (b : Bool) → b ≡ is_some o → b ≡ true → o ≡ None → A
never_none o b e some none = absurd (cc (e, some, ap (λ (p : Option OpenCursor). is_some p) none))

-- the same id, read back from its bits
pub at_id : (m : BTreeMap ℤ OpenCursor) (k id : ℤ) (o : Option OpenCursor) → k ≡ id → o ≡ get_by (int_cmp k) m → get_by (int_cmp id) m ≡ o
at_id m k id o same is = sym (subst (λ (i : ℤ). o ≡ get_by (int_cmp i) m) same is)

pub apart_from : (k i id : ℤ) → k ≡ id → i ≢ id → is_at (int_cmp k) i ≡ false
apart_from k i id same other = subst (λ (j : ℤ). is_at (int_cmp j) i ≡ false) (sym same) (apart i id other)

-- the cursor under an id, whether it belongs to the namespace or not
pub found_under : (namespace : List ℕ) (o : Option OpenCursor) (cursor : OpenCursor) (b : Bool) → o ≡ Some cursor → b ≡ bytes_eq cursor.namespace namespace → b ≡ true →
    Some cursor ≡ under namespace o
found_under namespace o cursor b is e own = rw (is, sym e ∙ own) refl

pub found_other : (namespace : List ℕ) (o : Option OpenCursor) (cursor : OpenCursor) (b : Bool) → o ≡ Some cursor → b ≡ bytes_eq cursor.namespace namespace → b ≡ false →
    None ≡ under namespace o
found_other namespace o cursor b is e other = rw (is, sym e ∙ other) refl

pub found_none : (namespace : List ℕ) (o : Option OpenCursor) → o ≡ None → None ≡ under namespace o
found_none namespace o is = rw is refl

-- the same under an id that was read back from its bits
pub same_under : (shelf : Shelf) (k id : ℤ) (namespace : List ℕ) (o : Option OpenCursor) → k ≡ id → o ≡ cursor_under shelf k namespace → cursor_under shelf id namespace ≡ o
same_under shelf k id namespace o same is = sym (subst (λ (i : ℤ). o ≡ cursor_under shelf i namespace) same is)

pub the_same : (o : Option OpenCursor) (k c : OpenCursor) → o ≡ Some k → o ≡ Some c → k ≡ c
the_same o k c e f = cc

pub some_mapped : {A : Type 0} (f : A → OpenCursor) (o : Option A) → is_some o ≡ is_some (option_map f o)
some_mapped f None = refl
some_mapped f (Some a) = refl

pub same_test : (a b c d : ℕ) → a ≡ c → b ≡ d → (a == b) ≡ (c == d)
same_test a b c d e f = rw (e, f) refl

pub found_never : {A : Type 0} (o : Option OpenCursor) (c : OpenCursor) → o ≡ Some c → o ≡ None → A
found_never o c some none = absurd cc

none_left : (c : OpenCursor) (rest : List Fields) → (length rest == 0) ≡ true → None ≡ left_with c rest
none_left c [] e = refl
none_left c (document ∷ rest) e = absurd (omega (arith, eqb-true (length (document ∷ rest)) 0 e))

pub memory_alone : {A B : Type 0} (r : Result A ShelfFault) (e : ShelfFault) → r ≡ Err e → e ≡ faults.Memory → r ≡ Err faults.NotFound → B
memory_alone r e is memory not_found = absurd cc
