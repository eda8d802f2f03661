-- The place of a message to a node.
use Rattle.std.proofs.Common.{◌≡◌, ℕ, zero, suc, ◌+◌, ◌-◌, ◌≤◌, Bool, true, false, List, [], ◌∷◌, length, drop, refl, sym, ap, ◌∙◌, arith, add-one}
use Rattle.std.specs.Prelude.{Option, Some, None, ◌≢◌, ◌==◌, if◌then◌else◌}
use Rattle.std.specs.List.{slice_get}
use Rattle.std.proofs.lemmas.Bool.Decides.{nat_tests}
use Rattle.node_model.specs.Letters.{Letter}
use Rattle.sim_driver.specs.Moves.{IsReceiverAt}
use Rattle.sim_driver.specs.Scripts.{place_from}

pub drop_here : (xs : List Letter) (at : ℕ) (m : Letter) → slice_get xs at ≡ Some m → drop at xs ≡ m ∷ drop (suc at) xs
drop_here [] at m got = absurd (cc got)
drop_here (x ∷ xs) zero m got = ap (λ (y : Letter). y ∷ xs) (cc got)
drop_here (x ∷ xs) (suc at) m got = drop_here xs at m got

there_is : (a b : ℕ) → a ≡ b → (a == b) ≡ true
there_is a b e = grind (arith, nat_tests)

there_is_not : (a b : ℕ) → a ≢ b → (a == b) ≡ false
there_is_not a b other = grind (arith, nat_tests)

pub taken : (test : Bool) (a b : Option ℕ) → test ≡ true → (if test then a else b) ≡ a
taken true a b e = refl
taken false a b e = absurd (cc e)

pub not_taken : (test : Bool) (a b : Option ℕ) → test ≡ false → (if test then a else b) ≡ b
not_taken true a b e = absurd (cc e)
not_taken false a b e = refl

module _ (xs : List Letter) (at node left receiver : ℕ) (there : IsReceiverAt xs at receiver) where
  pub place_other : receiver ≢ node → place_from at node left (drop at xs) ≡ place_from (at + 1) node left (drop (at + 1) xs)
  place_other other =
      ap (λ l. place_from at node left l) (drop_here xs at there.0 there.1)
      ∙ (not_taken (there.0.receiver == node) (if left == 0 then Some at else place_from (at + 1) node (left - 1) (drop (suc at) xs))
      (place_from (at + 1) node left (drop (suc at) xs)) (there_is_not there.0.receiver node (λ e. other (there.2 ∙ e)))
      ∙ ap (λ n. place_from (at + 1) node left (drop n xs)) (sym (add-one at)))

  pub place_passed : receiver ≡ node → left ≢ 0 → place_from at node left (drop at xs) ≡ place_from (at + 1) node (left - 1) (drop (at + 1) xs)
  place_passed same some =
      ap (λ l. place_from at node left l) (drop_here xs at there.0 there.1)
      ∙ (taken (there.0.receiver == node) (if left == 0 then Some at else place_from (at + 1) node (left - 1) (drop (suc at) xs))
      (place_from (at + 1) node left (drop (suc at) xs)) (there_is there.0.receiver node (sym there.2 ∙ same))
      ∙ (not_taken (left == 0) (Some at) (place_from (at + 1) node (left - 1) (drop (suc at) xs)) (there_is_not left 0 some)
      ∙ ap (λ n. place_from (at + 1) node (left - 1) (drop n xs)) (sym (add-one at))))

  pub place_here : receiver ≡ node → left ≡ 0 → place_from at node left (drop at xs) ≡ Some at
  place_here same none =
      ap (λ l. place_from at node left l) (drop_here xs at there.0 there.1)
      ∙ (taken (there.0.receiver == node) (if left == 0 then Some at else place_from (at + 1) node (left - 1) (drop (suc at) xs))
      (place_from (at + 1) node left (drop (suc at) xs)) (there_is there.0.receiver node (sym there.2 ∙ same))
      ∙ taken (left == 0) (Some at) (place_from (at + 1) node (left - 1) (drop (suc at) xs)) (there_is left 0 none))

pub drop_past : (xs : List Letter) (at : ℕ) → length xs ≤ at → drop at xs ≡ []
drop_past [] zero past = refl
drop_past [] (suc at) past = refl
drop_past (x ∷ xs) zero past = absurd (omega (arith, past))
drop_past (x ∷ xs) (suc at) past = drop_past xs at (omega (arith, past))

pub place_none : (xs : List Letter) (at node left : ℕ) → length xs ≤ at → place_from at node left (drop at xs) ≡ None
place_none xs at node left past = ap (λ l. place_from at node left l) (drop_past xs at past)

-- the message at that place goes to the node
abbrev pub IsFoundAt : (n node : ℕ) → List Letter → (which : ℕ) → Type 0
IsFoundAt n node xs which = (i : ℕ) × (which ≡ n + i) × (m : Letter) × (slice_get xs i ≡ Some m) × (m.receiver ≡ node)

equal_if : (a b : ℕ) → (a == b) ≡ true → a ≡ b
equal_if a b e = grind (arith, nat_tests)

found_later : (n node : ℕ) (m : Letter) (xs : List Letter) (which : ℕ) → IsFoundAt (n + 1) node xs which → IsFoundAt n node (m ∷ xs) which
found_later n node m xs which r = (suc r.0, omega (arith, r.1), r.2, r.3, r.4)

found_by : (n node k : ℕ) (m : Letter) (xs : List Letter) (which : ℕ) (at_node is_last : Bool) → (m.receiver == node) ≡ at_node → (k == 0) ≡ is_last
    → place_from n node k (m ∷ xs) ≡ Some which
    → ((j : ℕ) → place_from (n + 1) node j xs ≡ Some which → IsFoundAt (n + 1) node xs which) → IsFoundAt n node (m ∷ xs) which
found_by n node k m xs which true true at_node is_last e more =
    let first : Some n ≡ Some which =
    sym (taken (m.receiver == node) (if k == 0 then Some n else place_from (n + 1) node (k - 1) xs) (place_from (n + 1) node k xs) at_node
    ∙ taken (k == 0) (Some n) (place_from (n + 1) node (k - 1) xs) is_last) ∙ e in
    let same : n ≡ which = cc first in
    (0, omega (arith, same), m, refl, equal_if m.receiver node at_node)
found_by n node k m xs which true false at_node is_last e more =
    found_later n node m xs which (more (k - 1)
    (sym (taken (m.receiver == node) (if k == 0 then Some n else place_from (n + 1) node (k - 1) xs) (place_from (n + 1) node k xs) at_node
    ∙ not_taken (k == 0) (Some n) (place_from (n + 1) node (k - 1) xs) is_last) ∙ e))
found_by n node k m xs which false is_last at_node same e more =
    found_later n node m xs which (more k
    (sym (not_taken (m.receiver == node) (if k == 0 then Some n else place_from (n + 1) node (k - 1) xs) (place_from (n + 1) node k xs) at_node) ∙ e))

pub place_at : (n node k : ℕ) (xs : List Letter) (which : ℕ) → place_from n node k xs ≡ Some which → IsFoundAt n node xs which
place_at n node k [] which e = absurd (cc e)
place_at n node k (m ∷ xs) which e =
    found_by n node k m xs which (m.receiver == node) (k == 0) refl refl e (λ j there. place_at (n + 1) node j xs which there)
