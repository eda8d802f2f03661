-- How many changes a shard may still learn: no more after a message is delivered, and fewer where a table that is new arrives.
use Rattle.std.proofs.Common.{◌≡◌, ◌⊎◌, inl, inr, ℕ, ◌+◌, ◌-◌, ◌*◌, ◌<◌, ◌≤◌, List, [], ◌∷◌, length, refl, sym, subst, ap, arith, Bool}
use Rattle.std.specs.Prelude.{Option, Some, None, true, false, if◌then◌else◌}
use Rattle.std.specs.Option.{option_map}
use Rattle.std.specs.Str.{bytes_eq}
use Rattle.std.proofs.lemmas.Bool.{ltb-true}
use Rattle.std.proofs.lemmas.Nat.{mul-le}
use Rattle.std.proofs.lemmas.Slice.Eq.{bytes_eq-Decides}
use Rattle.history_model.specs.History.{IsIn}
use Rattle.history_model.proofs.Lists.{in_first, in_later, in_none, in_cons}
use Rattle.chunk_model.specs.Changes.{Change, create_change, split_change, commit_change, namespace_of, table_after, known_table, split_table, commit_table, can_split}
use Rattle.chunk_model.specs.Tables.{Table, table_of, with_table, is_longer}
use Rattle.reply_model.specs.Accounts.{Dated}
use Rattle.reply_model.specs.Accounts.{changes_in as changes_of}
use Rattle.node_model.specs.ShardRows.{is_news}
use Rattle.node_weights.specs.Weights.{total, changes_in_table, changes_known, most_changes, changes_left}
use Rattle.node_weights.proofs.Sums.{total_below, total_less}

-- WHAT A TABLE SAYS

-- one that the catalogue had has no more changes than there are
pub few_changes : (namespace : List ℕ) (changes : List Change) (t : Table) → known_table namespace changes ≡ Some t → t.changes ≤ length changes
few_changes namespace [] t known = absurd (cc)
few_changes namespace (x ∷ older) t known = by_name (bytes_eq (namespace_of x) namespace) known (λ u e. few_changes namespace older u e)
  where
    split_few : (middle : _) (u : Table) (can : Bool) → can_split middle u.chunks ≡ can → split_table middle u ≡ t → t.changes ≤ u.changes + 1
    split_few middle u true can e = let same = ap (λ (y : Table). y.changes) (rw can at e) in omega (arith, same)
    split_few middle u false can e = let same = ap (λ (y : Table). y.changes) (rw can at e) in omega (arith, same)

    split_one : (middle : _) (o : Option Table) → option_map (split_table middle) o ≡ Some t → ((u : Table) → o ≡ Some u → u.changes ≤ length older)
        → t.changes ≤ length (x ∷ older)
    split_one middle None e more = absurd (cc)
    split_one middle (Some u) e more =
        let one = split_few middle u (can_split middle u.chunks) refl (cc e) in
        let few = more u refl in
        omega (arith, one, few)

    commit_one : (c : _) (o : Option Table) → option_map (commit_table c) o ≡ Some t → ((u : Table) → o ≡ Some u → u.changes ≤ length older)
        → t.changes ≤ length (x ∷ older)
    commit_one c None e more = absurd (cc)
    commit_one c (Some u) e more =
        let same : commit_table c u ≡ t = cc e in
        let one = ap (λ (y : Table). y.changes) same in
        let few = more u refl in
        omega (arith, one, few)

    create_one : (c : _) (o : Option Table) → table_after (create_change c) o ≡ Some t → ((u : Table) → o ≡ Some u → u.changes ≤ length older)
        → t.changes ≤ length (x ∷ older)
    create_one c None e more = let same = ap changes_in_table e in omega (arith, same)
    create_one c (Some u) e more =
        let same : u ≡ t = cc e in
        let one = ap (λ (y : Table). y.changes) same in
        let few = more u refl in
        omega (arith, one, few)

    by_change : (y : Change) → table_after y (known_table namespace older) ≡ Some t → ((u : Table) → known_table namespace older ≡ Some u
        → u.changes ≤ length older)
        → t.changes ≤ length (x ∷ older)
    by_change (create_change c) e more = create_one c (known_table namespace older) e more
    by_change (split_change s) e more = split_one s.middle (known_table namespace older) e more
    by_change (commit_change c) e more = commit_one c (known_table namespace older) e more

    by_name : (b : Bool) → (if b then table_after x (known_table namespace older) else known_table namespace older) ≡ Some t
        → ((u : Table) → known_table namespace older ≡ Some u → u.changes ≤ length older) → t.changes ≤ length (x ∷ older)
    by_name true e more = by_change x e more
    by_name false e more = let few = more t e in omega (arith, few)

-- WHAT A SHARD KNOWS

-- a table that is new has more changes than the one that is known
pub new_more : (t : Table) (tables : List Table) → is_news t (table_of t.namespace tables) ≡ true → changes_known t.namespace tables < 1 + t.changes
new_more t tables news = by_table (table_of t.namespace tables) news
  where
    by_table : (o : Option Table) → is_news t o ≡ true → changes_in_table o < 1 + t.changes
    by_table None news = omega arith
    by_table (Some own) news = let less = ltb-true own.changes t.changes news in omega (arith, less)

-- after it arrived it is known
pub new_known : (t : Table) (tables : List Table) → is_news t (table_of t.namespace tables) ≡ true
    → changes_known t.namespace (with_table t tables) ≡ 1 + t.changes
new_known t [] news = by_own (bytes_eq t.namespace t.namespace) ((bytes_eq-Decides t.namespace t.namespace).1 refl)
  where
    by_own : (b : Bool) → b ≡ true
        → changes_in_table (if b then Some t else None) ≡ 1 + t.changes
    by_own true is = refl
    by_own false is = absurd (cc)
new_known t (u ∷ tables) news =
    by_name (bytes_eq u.namespace t.namespace) refl news (λ still. new_known t tables still)
  where
    own_first : (b : Bool) → b ≡ true
        → changes_in_table (if b then Some t else table_of t.namespace tables) ≡ 1 + t.changes
    own_first true is = refl
    own_first false is = absurd (cc)

    by_longer : (b : Bool) → b ≡ true → changes_known t.namespace ((if b then t else u) ∷ tables) ≡ 1 + t.changes
    by_longer true is = own_first (bytes_eq t.namespace t.namespace) ((bytes_eq-Decides t.namespace t.namespace).1 refl)
    by_longer false is = absurd (cc)

    by_name : (b : Bool) → bytes_eq u.namespace t.namespace ≡ b → is_news t (if b then Some u else table_of t.namespace tables) ≡ true
        → (is_news t (table_of t.namespace tables) ≡ true → changes_known t.namespace (with_table t tables) ≡ 1 + t.changes)
        → changes_known t.namespace (if b then ((if is_longer t u then t else u) ∷ tables) else u ∷ with_table t tables) ≡ 1 + t.changes
    by_name true h still more = by_longer (is_longer t u) still
    by_name false h still more =
        subst (λ (b : Bool). changes_in_table (if b then Some u else table_of t.namespace (with_table t tables)) ≡ 1 + t.changes)
        (sym h) (more still)

-- and of no collection less is known
pub known_more : (namespace : List ℕ) (t : Table) (tables : List Table) → changes_known namespace tables ≤ changes_known namespace (with_table t tables)
known_more namespace t [] = omega arith
known_more namespace t (u ∷ tables) = by_name (bytes_eq u.namespace t.namespace) refl (known_more namespace t tables)
  where
    known_by : Bool → Table → ℕ → ℕ
    known_by b v rest = if b then 1 + v.changes else rest

    first_known : (v : Table) (rest : List Table)
        → changes_known namespace (v ∷ rest) ≡ known_by (bytes_eq v.namespace namespace) v (changes_known namespace rest)
    first_known v rest = by_first (bytes_eq v.namespace namespace)
      where
        by_first : (b : Bool) → changes_in_table (if b then Some v else table_of namespace rest) ≡ known_by b v (changes_known namespace rest)
        by_first true = refl
        by_first false = refl

    more_by : (b : Bool) (v w : Table) (rest others : ℕ) → v.changes ≤ w.changes → rest ≤ others → known_by b v rest ≤ known_by b w others
    more_by true v w rest others few le = omega (arith, few)
    more_by false v w rest others few le = le

    by_longer : (b : Bool) → is_longer t u ≡ b → u.namespace ≡ t.namespace
        → changes_known namespace (u ∷ tables) ≤ changes_known namespace ((if b then t else u) ∷ tables)
    by_longer true longer same =
        let less = ltb-true u.changes t.changes longer in
        let mine = first_known u tables in
        let its = first_known t tables in
        let rest = changes_known namespace tables in
        let more = more_by (bytes_eq t.namespace namespace) u t rest rest (omega (arith, less)) (omega arith) in
        subst (λ n. n ≤ changes_known namespace (t ∷ tables)) (sym mine)
        (subst (λ n. known_by (bytes_eq u.namespace namespace) u (changes_known namespace tables) ≤ n) (sym its)
        (subst (λ l. known_by (bytes_eq l namespace) u rest ≤ known_by (bytes_eq t.namespace namespace) t rest) (sym same) more))
    by_longer false longer same = omega arith

    by_name : (b : Bool) → bytes_eq u.namespace t.namespace ≡ b → changes_known namespace tables ≤ changes_known namespace (with_table t tables)
        → changes_known namespace (u ∷ tables) ≤ changes_known namespace (if b then ((if is_longer t u then t else u) ∷ tables) else u ∷ with_table t tables)
    by_name true h more = by_longer (is_longer t u) refl ((bytes_eq-Decides u.namespace t.namespace).0 h)
    by_name false h more =
        subst (λ n. n ≤ changes_known namespace (u ∷ with_table t tables)) (sym (first_known u tables))
        (subst (λ n. known_by (bytes_eq u.namespace namespace) u (changes_known namespace tables) ≤ n) (sym (first_known u (with_table t tables)))
        (more_by (bytes_eq u.namespace namespace) u u (changes_known namespace tables) (changes_known namespace (with_table t tables)) (omega arith) more))

-- WHAT IS LEFT

-- no message more may change a table
pub left_fewer : (changed : List Dated) (coming fewer : ℕ) (tables : List Table) → fewer ≤ coming
    → changes_left changed fewer tables ≤ changes_left changed coming tables
left_fewer changed coming fewer tables le =
    let each = total_below (λ (d : Dated). most_changes changed fewer - changes_known (namespace_of d.change) tables)
    (λ (d : Dated). most_changes changed coming - changes_known (namespace_of d.change) tables) changed
    (λ d. less_known (most_changes changed fewer) (most_changes changed coming) (changes_known (namespace_of d.change) tables) (omega (arith, le))) in
    let product = mul-le fewer (most_changes changed fewer) coming (most_changes changed coming) le (omega (arith, le)) in
    omega (arith, each, product)
  where
    less_known : (a b n : ℕ) → a ≤ b → a - n ≤ b - n
    less_known a b n le = omega (arith, le)

-- a change was made that was to come
pub left_made : (d : Dated) (changed : List Dated) (coming fewer : ℕ) (tables : List Table) → 1 + fewer ≤ coming
    → changes_left (d ∷ changed) fewer tables ≤ changes_left changed coming tables
left_made d changed coming fewer tables le =
    let before = left_fewer changed coming (1 + fewer) tables le in
    let same : most_changes (d ∷ changed) fewer ≡ most_changes changed (1 + fewer) = omega arith in
    subst (λ n. total (λ (x : Dated). n - changes_known (namespace_of x.change) tables) (d ∷ changed) + fewer * n ≤ changes_left changed coming tables)
    (sym same)
    (one_more (most_changes changed (1 + fewer)) before)
  where
    one_more : (n : ℕ) → total (λ (x : Dated). n - changes_known (namespace_of x.change) tables) changed + (1 + fewer) * n ≤ changes_left changed coming tables
        → total (λ (x : Dated). n - changes_known (namespace_of x.change) tables) (d ∷ changed) + fewer * n ≤ changes_left changed coming tables
    one_more n before =
        let product : (1 + fewer) * n ≡ n + fewer * n = omega arith in
        let first : n - changes_known (namespace_of d.change) tables ≤ n = omega arith in
        omega (arith, before, product, first)

-- a table that is new arrives, which the catalogue had
pub left_learned : (changed : List Dated) (coming : ℕ) (t : Table) (tables : List Table) (d : Dated) → is_news t (table_of t.namespace tables) ≡ true
    → t.changes ≤ length changed → IsIn d changed → namespace_of d.change ≡ t.namespace
    → changes_left changed coming (with_table t tables) < changes_left changed coming tables
left_learned changed coming t tables d news few there same =
    let less = total_less (λ (x : Dated). most_changes changed coming - changes_known (namespace_of x.change) (with_table t tables))
    (λ (x : Dated). most_changes changed coming - changes_known (namespace_of x.change) tables) d changed
    (λ x. more_known (most_changes changed coming) (changes_known (namespace_of x.change) tables) (changes_known (namespace_of x.change) (with_table t tables))
    (known_more (namespace_of x.change) t tables))
    (subst (λ n. most_changes changed coming - changes_known n (with_table t tables) < most_changes changed coming - changes_known n tables) (sym same)
    (learned (most_changes changed coming) (changes_known t.namespace tables) (changes_known t.namespace (with_table t tables)) (new_more t tables news)
    (new_known t tables news) (omega (arith, few))))
    there in
    omega (arith, less)
  where
    more_known : (n a b : ℕ) → a ≤ b → n - b ≤ n - a
    more_known n a b le = omega (arith, le)

    learned : (n a b : ℕ) → a < 1 + t.changes → b ≡ 1 + t.changes → 1 + t.changes ≤ n → n - b < n - a
    learned n a b less is most = omega (arith, less, is, most)

-- A TABLE THAT THE CATALOGUE HAD

pub in_dated : (c : Change) (changed : List Dated) → IsIn c (changes_of changed) → (d : Dated) × IsIn d changed × (d.change ≡ c)
in_dated c [] there = absurd (in_none c there)
in_dated c (d ∷ changed) there = by_place (in_cons c d.change (changes_of changed) there) (λ i. in_dated c changed i)
  where
    by_place : (c ≡ d.change) ⊎ IsIn c (changes_of changed) → (IsIn c (changes_of changed) → (e : Dated) × IsIn e changed × (e.change ≡ c))
        → (e : Dated) × IsIn e (d ∷ changed) × (e.change ≡ c)
    by_place (inl same) later = (d, in_first d changed, sym same)
    by_place (inr i) later = let x = later i in (x.0, in_later x.0 d changed x.1, x.2)
