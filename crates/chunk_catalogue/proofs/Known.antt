-- The tables after one more change.
use Rattle.std.proofs.Common.{◌≡◌, refl, ap, sym, subst, ◌∙◌, ℕ, List, [], ◌∷◌, Bool, true, false, if◌then◌else◌}
use Rattle.std.specs.Prelude.{Option, Some}
use Rattle.std.specs.Str.{bytes_eq}
use Rattle.chunk_model.specs.Tables.{Table, table_of}
use Rattle.chunk_model.specs.Changes.{Change, namespace_of, table_after, known_table}
use Rattle.route_cache.specs.Puts.{put_table}
use Rattle.chunk_catalogue.specs.Admitted.{AreKnown}
use Rattle.chunk_catalogue.proofs.Names.{same_name, next_named}

-- the table of a collection, where this one is that of its own
abbrev pub with_own : Table → List ℕ → Option Table → Option Table
with_own t n before = if bytes_eq t.namespace n then Some t else before

-- a table before others that has another name is passed over, also by one that is put after it
past_by : (t u : Table) (n : List ℕ) (rest : Option Table) (own other : Bool) → bytes_eq t.namespace n ≡ own → bytes_eq u.namespace n ≡ other
    → bytes_eq u.namespace t.namespace ≡ false
    → (if other then Some u else (if own then Some t else rest)) ≡ (if own then Some t else (if other then Some u else rest))
past_by t u n rest true true own other apart =
    absurd (let two : bytes_eq u.namespace t.namespace ≡ true = ap (λ (m : List ℕ). bytes_eq u.namespace m) (same_name _ _ own) ∙ other in cc)
past_by t u n rest true false own other apart = refl
past_by t u n rest false true own other apart = refl
past_by t u n rest false false own other apart = refl

past : (t u : Table) (n : List ℕ) (rest : Option Table) → bytes_eq u.namespace t.namespace ≡ false
    → (if bytes_eq u.namespace n then Some u else with_own t n rest) ≡ with_own t n (if bytes_eq u.namespace n then Some u else rest)
past t u n rest apart = past_by t u n rest (bytes_eq t.namespace n) (bytes_eq u.namespace n) refl refl apart

covered : (t u : Table) (n : List ℕ) (rest : Option Table) (own : Bool) → bytes_eq t.namespace n ≡ own → bytes_eq u.namespace t.namespace ≡ true
    → (if own then Some t else rest) ≡ (if own then Some t else (if bytes_eq u.namespace n then Some u else rest))
covered t u n rest true is same = refl
covered t u n rest false is same =
    let other : bytes_eq u.namespace n ≡ false = ap (λ (m : List ℕ). bytes_eq m n) (same_name _ _ same) ∙ is in
    rw other refl

put_by : (t u : Table) (tables : List Table) (n : List ℕ) (same : Bool) → bytes_eq u.namespace t.namespace ≡ same
    → table_of n (put_table t tables) ≡ with_own t n (table_of n tables)
    → table_of n (if same then t ∷ tables else u ∷ put_table t tables) ≡ with_own t n (table_of n (u ∷ tables))
put_by t u tables n true is next = covered t u n (table_of n tables) (bytes_eq t.namespace n) refl is
put_by t u tables n false is next =
    ap (λ (o : Option Table). if bytes_eq u.namespace n then Some u else o) next ∙ past t u n (table_of n tables) is

-- the table that was put is that of its own name, and the others are as before
pub after_put : (t : Table) (tables : List Table) (n : List ℕ) → table_of n (put_table t tables) ≡ with_own t n (table_of n tables)
after_put t [] n = refl
after_put t (u ∷ tables) n = put_by t u tables n (bytes_eq u.namespace t.namespace) refl (after_put t tables n)

next_by : (n : List ℕ) (x : Change) (older : List Change) (before : Option Table) (t : Table) (b : Bool) → before ≡ known_table n older
    → table_after x (known_table (namespace_of x) older) ≡ Some t → bytes_eq (namespace_of x) n ≡ b
    → (if b then Some t else before) ≡ (if b then table_after x (known_table n older) else known_table n older)
next_by n x older before t true known e is =
    sym (subst (λ (m : List ℕ). table_after x (known_table m older) ≡ Some t) (same_name _ _ is) e)
next_by n x older before t false known e is = known

-- the tables are still those that the changes make, where the table after one more change was put
pub known_next : (x : Change) (older : List Change) (tables : List Table) (t : Table) → AreKnown tables older
    → table_after x (known_table (namespace_of x) older) ≡ Some t → AreKnown (put_table t tables) (x ∷ older)
known_next x older tables t known e = λ n.
    after_put t tables n
    ∙ ap (λ (m : List ℕ). if bytes_eq m n then Some t else table_of n tables) (next_named x older t e)
    ∙ next_by n x older (table_of n tables) t (bytes_eq (namespace_of x) n) (known n) e refl
