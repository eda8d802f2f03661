-- Tables after one was put among them.
use Rattle.std.proofs.Common.{◌≡◌, ℕ, List, [], ◌∷◌, ◌++◌, Bool, true, false, refl, ap, if◌then◌else◌, ◌||◌}
use Rattle.std.specs.Prelude.{Some, None}
use Rattle.std.specs.List.{find, list_any}
use Rattle.std.specs.Str.{bytes_eq}
use Rattle.indexmap.specs.IndexSet.{replace_key, swap_key}
use Rattle.chunk_model.specs.Tables.{Table, is_longer, table_of, with_table}
use Rattle.route_cache.specs.Names.{same_name}
use Rattle.route_cache.specs.Puts.{put_table}

-- a set that compares tables by their collections finds that of a collection
pub found : (namespace : List ℕ) (tables : List Table) → find (λ t. bytes_eq t.namespace namespace) tables ≡ table_of namespace tables
found namespace [] = refl
found namespace (t ∷ tables) = ap (λ o. if bytes_eq t.namespace namespace then Some t else o) (found namespace tables)

replaced_by : (same : Bool) (t u : Table) (tables : List Table)
    → (if list_any (same_name t) tables then swap_key (same_name t) tables t else tables ++ t ∷ []) ≡ put_table t tables
    → (if same || list_any (same_name t) tables then (if same then t ∷ tables else u ∷ swap_key (same_name t) tables t) else u ∷ (tables ++ t ∷ []))
    ≡ (if same then t ∷ tables else u ∷ put_table t tables)
replaced_by true t u tables next = refl
replaced_by false t u tables next = by (list_any (same_name t) tables) next
  where
    by : (b : Bool) → (if b then swap_key (same_name t) tables t else tables ++ t ∷ []) ≡ put_table t tables
        → (if b then u ∷ swap_key (same_name t) tables t else u ∷ (tables ++ t ∷ [])) ≡ u ∷ put_table t tables
    by true e = ap (λ ts. u ∷ ts) e
    by false e = ap (λ ts. u ∷ ts) e

-- and replaces it, or appends the table
pub replaced : (t : Table) (tables : List Table) → replace_key same_name tables t ≡ put_table t tables
replaced t [] = refl
replaced t (u ∷ tables) = replaced_by (bytes_eq u.namespace t.namespace) t u tables (replaced t tables)

absent_by : (same : Bool) (t u : Table) (tables : List Table)
    → (list_any (same_name t) tables ≡ false → table_of t.namespace tables ≡ None) → same || list_any (same_name t) tables ≡ false
    → (if same then Some u else table_of t.namespace tables) ≡ None
absent_by true t u tables next e = absurd cc
absent_by false t u tables next e = next e

-- a collection that is not in the set has no table
pub absent : (t : Table) (tables : List Table) → list_any (same_name t) tables ≡ false → table_of t.namespace tables ≡ None
absent t [] e = refl
absent t (u ∷ tables) e = absent_by (bytes_eq u.namespace t.namespace) t u tables (absent t tables) e

new_by : (same : Bool) (t u : Table) (tables : List Table) → (table_of t.namespace tables ≡ None → put_table t tables ≡ with_table t tables)
    → (if same then Some u else table_of t.namespace tables) ≡ None
    → (if same then t ∷ tables else u ∷ put_table t tables) ≡ (if same then ((if is_longer t u then t else u) ∷ tables) else u ∷ with_table t tables)
new_by true t u tables next e = absurd cc
new_by false t u tables next e = ap (λ ts. u ∷ ts) (next e)

-- a table of a collection without one is put
pub put_new : (t : Table) (tables : List Table) → table_of t.namespace tables ≡ None → put_table t tables ≡ with_table t tables
put_new t [] e = refl
put_new t (u ∷ tables) e = new_by (bytes_eq u.namespace t.namespace) t u tables (put_new t tables) e

some_one : (a b : Table) → Some a ≡ Some b → a ≡ b
some_one a b e = cc

longer_by : (same : Bool) (t u v : Table) (tables : List Table) → is_longer t u ≡ true
    → (table_of t.namespace tables ≡ Some u → put_table t tables ≡ with_table t tables)
    → (if same then Some v else table_of t.namespace tables) ≡ Some u
    → (if same then t ∷ tables else v ∷ put_table t tables) ≡ (if same then ((if is_longer t v then t else v) ∷ tables) else v ∷ with_table t tables)
longer_by true t u v tables longer next e = rw (some_one v u e, longer) refl
longer_by false t u v tables longer next e = ap (λ ts. v ∷ ts) (next e)

-- so is one that is longer
pub put_longer : (t u : Table) (tables : List Table) → table_of t.namespace tables ≡ Some u → is_longer t u ≡ true → put_table t tables ≡ with_table t tables
put_longer t u [] e longer = absurd cc
put_longer t u (v ∷ tables) e longer = longer_by (bytes_eq v.namespace t.namespace) t u v tables longer (λ f. put_longer t u tables f longer) e

kept_by : (same : Bool) (t u v : Table) (tables : List Table) → is_longer t u ≡ false
    → (table_of t.namespace tables ≡ Some u → tables ≡ with_table t tables) → (if same then Some v else table_of t.namespace tables) ≡ Some u
    → v ∷ tables ≡ (if same then ((if is_longer t v then t else v) ∷ tables) else v ∷ with_table t tables)
kept_by true t u v tables short next e = rw (some_one v u e, short) refl
kept_by false t u v tables short next e = ap (λ ts. v ∷ ts) (next e)

-- and nothing changes where the present table is at least as long
pub kept_longer : (t u : Table) (tables : List Table) → table_of t.namespace tables ≡ Some u → is_longer t u ≡ false → tables ≡ with_table t tables
kept_longer t u [] e short = absurd cc
kept_longer t u (v ∷ tables) e short = kept_by (bytes_eq v.namespace t.namespace) t u v tables short (λ f. kept_longer t u tables f short) e
