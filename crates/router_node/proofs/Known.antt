-- The table of a collection, after another arrived.
use Rattle.std.proofs.Common.{◌≡◌, refl, ap, sym, subst, ◌∙◌, ℕ, List, [], ◌∷◌, Bool, true, false, if◌then◌else◌}
use Rattle.std.proofs.lemmas.Slice.Eq.{bytes_eq-Decides}
use Rattle.std.specs.Prelude.{Option, Some, None}
use Rattle.std.specs.Str.{bytes_eq}
use Rattle.chunk_model.specs.Tables.{Table, is_longer, table_of, with_table}

-- the longer of two
abbrev pub longer : Table → Table → Table
longer t u = if is_longer t u then t else u

abbrev pub longer_in : Table → Option Table → Table
longer_in t None = t
longer_in t (Some u) = longer t u

itself : (n : List ℕ) → bytes_eq n n ≡ true
itself n = (bytes_eq-Decides n n).1 refl

same_as : (a b : List ℕ) → bytes_eq a b ≡ true → a ≡ b
same_as a b e = (bytes_eq-Decides a b).0 e

first_is : (n : List ℕ) (t : Table) (tables : List Table) → bytes_eq t.namespace n ≡ true → table_of n (t ∷ tables) ≡ Some t
first_is n t tables e = ap (λ (b : Bool). if b then Some t else table_of n tables) e

first_not : (n : List ℕ) (t : Table) (tables : List Table) → bytes_eq t.namespace n ≡ false → table_of n (t ∷ tables) ≡ table_of n tables
first_not n t tables e = ap (λ (b : Bool). if b then Some t else table_of n tables) e

either : (b : Bool) (n : List ℕ) (t u : Table) (answer : Bool) → bytes_eq t.namespace n ≡ answer → bytes_eq u.namespace n ≡ answer → bytes_eq (if b then t else u).namespace n ≡ answer
either true n t u answer e f = e
either false n t u answer e f = f

own_by : (t u : Table) (tables : List Table) (same : Bool) → bytes_eq u.namespace t.namespace ≡ same → table_of t.namespace (with_table t tables) ≡ Some (longer_in t (table_of t.namespace tables))
    → table_of t.namespace (if same then (longer t u ∷ tables) else (u ∷ with_table t tables)) ≡ Some (longer_in t (if same then Some u else table_of t.namespace tables))
own_by t u tables true is next = first_is t.namespace (longer t u) tables (either (is_longer t u) t.namespace t u true (itself t.namespace) is)
own_by t u tables false is next = first_not t.namespace u (with_table t tables) is ∙ next

own : (t : Table) (tables : List Table) → table_of t.namespace (with_table t tables) ≡ Some (longer_in t (table_of t.namespace tables))
own t [] = first_is t.namespace t [] (itself t.namespace)
own t (u ∷ tables) = own_by t u tables (bytes_eq u.namespace t.namespace) refl (own t tables)

-- a table of it arrived
pub known_own : (n : List ℕ) (t : Table) (tables : List Table) → bytes_eq t.namespace n ≡ true → table_of n (with_table t tables) ≡ Some (longer_in t (table_of n tables))
known_own n t tables e = subst (λ (m : List ℕ). table_of m (with_table t tables) ≡ Some (longer_in t (table_of m tables))) (same_as t.namespace n e) (own t tables)

other_by : (n : List ℕ) (t u : Table) (tables : List Table) (same : Bool) → bytes_eq u.namespace t.namespace ≡ same → bytes_eq t.namespace n ≡ false
    → table_of n (with_table t tables) ≡ table_of n tables → table_of n (if same then (longer t u ∷ tables) else (u ∷ with_table t tables)) ≡ table_of n (u ∷ tables)
other_by n t u tables true is no_one next =
    let also : bytes_eq u.namespace n ≡ false = ap (λ (m : List ℕ). bytes_eq m n) (same_as u.namespace t.namespace is) ∙ no_one in
    first_not n (longer t u) tables (either (is_longer t u) n t u false no_one also) ∙ sym (first_not n u tables also)
other_by n t u tables false is no_one next = ap (λ (o : Option Table). if bytes_eq u.namespace n then Some u else o) next

-- a table of another collection arrived
pub known_other : (n : List ℕ) (t : Table) (tables : List Table) → bytes_eq t.namespace n ≡ false → table_of n (with_table t tables) ≡ table_of n tables
known_other n t [] e = first_not n t [] e
known_other n t (u ∷ tables) e = other_by n t u tables (bytes_eq u.namespace t.namespace) refl e (known_other n t tables e)
