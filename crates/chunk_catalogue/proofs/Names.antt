-- A table that changes make has the name of its collection, and a collection that no table has was never created.
use Rattle.std.proofs.Common.{◌≡◌, refl, subst, ℕ, ◌+◌, List, [], ◌∷◌, Bool, true, false, if◌then◌else◌}
use Rattle.std.proofs.lemmas.Slice.Eq.{bytes_eq-Decides}
use Rattle.std.specs.Prelude.{Option, Some, None}
use Rattle.std.specs.Option.{option_map}
use Rattle.std.specs.Str.{bytes_eq}
use Rattle.bson_model.specs.Tree.{Datum}
use Rattle.chunk_model.specs.Tables.{Table}
use Rattle.chunk_model.specs.Catalogue.{Creation}
use Rattle.chunk_model.specs.Changes.{Change, create_change, split_change, commit_change, namespace_of, can_split, split_table, commit_table, table_after, known_table, creations}

pub same_name : (a b : List ℕ) → bytes_eq a b ≡ true → a ≡ b
same_name a b e = (bytes_eq-Decides a b).0 e

-- the table, if there is one, has the name
abbrev pub IsNamed : List ℕ → Option Table → Type 0
IsNamed n None = Unit {0}
IsNamed n (Some t) = t.namespace ≡ n

split_by : (n : List ℕ) (middle : Datum) (t : Table) (b : Bool) → can_split middle t.chunks ≡ b → t.namespace ≡ n → (split_table middle t).namespace ≡ n
split_by n middle t true is e = rw is e
split_by n middle t false is e = rw is e

after_named : (n : List ℕ) (x : Change) (before : Option Table) → namespace_of x ≡ n → IsNamed n before → IsNamed n (table_after x before)
after_named n (create_change c) None e named = e
after_named n (create_change c) (Some t) e named = named
after_named n (split_change s) None e named = tt
after_named n (split_change s) (Some t) e named = split_by n s.middle t (can_split s.middle t.chunks) refl named
after_named n (commit_change c) None e named = tt
after_named n (commit_change c) (Some t) e named = named

named_by : (n : List ℕ) (x : Change) (before : Option Table) (b : Bool) → bytes_eq (namespace_of x) n ≡ b → IsNamed n before
    → IsNamed n (if b then table_after x before else before)
named_by n x before true is named = after_named n x before (same_name _ _ is) named
named_by n x before false is named = named

pub named : (n : List ℕ) (changes : List Change) → IsNamed n (known_table n changes)
named n [] = tt
named n (x ∷ older) = named_by n x (known_table n older) (bytes_eq (namespace_of x) n) refl (named n older)

-- the table after a change has the name of the change's collection
pub next_named : (x : Change) (older : List Change) (t : Table) → table_after x (known_table (namespace_of x) older) ≡ Some t → t.namespace ≡ namespace_of x
next_named x older t e =
    subst (IsNamed (namespace_of x)) e (after_named (namespace_of x) x (known_table (namespace_of x) older) refl (named (namespace_of x) older))

not_made : (c : Creation) (before : Option Table) → table_after (create_change c) before ≡ None → ⊥
not_made c None e = absurd cc
not_made c (Some t) e = absurd cc

mapped_none : (f : Table → Table) (before : Option Table) → option_map f before ≡ None → before ≡ None
mapped_none f None e = refl
mapped_none f (Some t) e = absurd cc

before_none : (n : List ℕ) (x : Change) (before : Option Table) (b : Bool) → ((c : Creation) → x ≡ create_change c → ⊥)
    → (if b then table_after x before else before) ≡ None → before ≡ None
before_none n (create_change c) before b other e = absurd (other c refl)
before_none n (split_change s) before true other e = mapped_none (split_table s.middle) before e
before_none n (split_change s) before false other e = e
before_none n (commit_change c) before true other e = mapped_none (commit_table c) before e
before_none n (commit_change c) before false other e = e

created_by : (c : Creation) (before : Option Table) (count : ℕ) (b : Bool) → (before ≡ None → count ≡ 0)
    → (if b then table_after (create_change c) before else before) ≡ None → (if b then count + 1 else count) ≡ 0
created_by c before count true next e = absurd (not_made c before e)
created_by c before count false next e = next e

-- a collection without a table was never created
pub never_created : (n : List ℕ) (changes : List Change) → known_table n changes ≡ None → creations n changes ≡ 0
never_created n [] e = refl
never_created n (create_change c ∷ older) e =
    created_by c (known_table n older) (creations n older) (bytes_eq c.namespace n) (never_created n older) e
never_created n (split_change s ∷ older) e =
    never_created n older (before_none n (split_change s) (known_table n older) (bytes_eq s.namespace n) (λ c same. absurd cc) e)
never_created n (commit_change c ∷ older) e =
    never_created n older (before_none n (commit_change c) (known_table n older) (bytes_eq c.namespace n) (λ d same. absurd cc) e)
