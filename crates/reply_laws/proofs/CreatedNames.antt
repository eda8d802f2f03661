-- Of changes that fit no two creations have one name.
use Rattle.std.proofs.Common.{◌≡◌, ◌≢◌, ◌⊎◌, inl, inr, ℕ, List, [], ◌∷◌, refl, sym, ap, subst, ◌∙◌}
use Rattle.std.specs.Prelude.{Bool, true, false, Option, Some, None, if◌then◌else◌}
use Rattle.std.specs.Str.{bytes_eq}
use Rattle.std.proofs.lemmas.Slice.Eq.{bytes_eq-Decides}
use Rattle.chunk_model.specs.Catalogue.{Creation}
use Rattle.chunk_model.specs.Changes.{Change, create_change, split_change, commit_change, namespace_of, table_after, known_table}
use Rattle.chunk_model.specs.Placement.{AreFitting, ChangeFits}
use Rattle.chunk_model.specs.Tables.{Table}
use Rattle.history_model.specs.History.{IsIn}
use Rattle.history_model.proofs.Lists.{in_cons, in_none}

-- no change removes a table
never_lost : (x : Change) (before : Option Table) → table_after x before ≡ None → before ≡ None
never_lost (create_change c) None none = refl
never_lost (create_change c) (Some table) none = none
never_lost (split_change s) None none = refl
never_lost (split_change s) (Some table) none = absurd (cc)
never_lost (commit_change c) None none = refl
never_lost (commit_change c) (Some table) none = absurd (cc)

still_none : (x : Change) (before : Option Table) (own : Bool) → (if own then table_after x before else before) ≡ None → before ≡ None
still_none x before true none = never_lost x before none
still_none x before false none = none

-- a creation makes one
after_creation : (c : Creation) (before : Option Table) (own : Bool) → own ≡ true → (if own then table_after (create_change c) before else before) ≡ None → ⊥
after_creation c None true same none = cc
after_creation c (Some table) true same none = cc
after_creation c before false same none = cc

known : (c : Creation) (changes : List Change) → IsIn (create_change c) changes → known_table c.namespace changes ≢ None
known c [] i none = in_none (create_change c) i
known c (x ∷ older) i none = by_place (in_cons (create_change c) x older i) (λ j e. known c older j e)
  where
    by_place : (create_change c ≡ x) ⊎ IsIn (create_change c) older → (IsIn (create_change c) older → known_table c.namespace older ≢ None) → ⊥
    by_place (inl first) more =
        after_creation c (known_table c.namespace older) (bytes_eq c.namespace c.namespace) ((bytes_eq-Decides c.namespace c.namespace).1 refl)
        (subst (λ (y : Change). known_table c.namespace (y ∷ older) ≡ None) (sym first) none)
    by_place (inr j) more = more j (still_none x (known_table c.namespace older) (bytes_eq (namespace_of x) c.namespace) none)

same_creation : (c d : Creation) → create_change c ≡ create_change d → c ≡ d
same_creation c d same = cc

pub one_creation : (changes : List Change) → AreFitting changes → (c d : Creation) → IsIn (create_change c) changes → IsIn (create_change d) changes
    → c.namespace ≡ d.namespace → c ≡ d
one_creation [] fitting c d i j same = absurd (in_none (create_change c) i)
one_creation (x ∷ older) fitting c d i j same =
    by_place (in_cons (create_change c) x older i) (in_cons (create_change d) x older j) (λ k l. one_creation older fitting.1 c d k l same)
  where
    apart : (a b : Creation) → create_change a ≡ x → IsIn (create_change b) older → a.namespace ≡ b.namespace → ⊥
    apart a b first k e =
        let fits : ChangeFits (create_change a) older = subst (λ (y : Change). ChangeFits y older) (sym first) fitting.0.fits in
        known b older k (ap (λ (n : List ℕ). known_table n older) (sym e) ∙ fits.absent)

    by_place : (create_change c ≡ x) ⊎ IsIn (create_change c) older → (create_change d ≡ x) ⊎ IsIn (create_change d) older
        → (IsIn (create_change c) older → IsIn (create_change d) older → c ≡ d) → c ≡ d
    by_place (inl p) (inl q) more = same_creation c d (p ∙ sym q)
    by_place (inl p) (inr l) more = absurd (apart c d p l same)
    by_place (inr k) (inl q) more = absurd (apart d c q k (sym same))
    by_place (inr k) (inr l) more = more k l
