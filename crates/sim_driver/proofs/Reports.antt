-- The lines of replies, one after another.
use Rattle.std.proofs.Common.{◌≡◌, ℕ, zero, suc, ◌+◌, ◌<◌, ◌≤◌, List, [], ◌∷◌, ◌++◌, length, get_or, drop, refl, sym, ap, ◌∙◌, append_assoc, append-nil, arith}
use Rattle.std.specs.Prelude.{Bool, true, false, Option, Some, None, ◌==◌, ◌≢◌, if◌then◌else◌}
use Rattle.std.proofs.lemmas.List.{drop_all}
use Rattle.std.proofs.lemmas.Bool.Decides.{nat_tests}
use Rattle.node_traits.specs.declared.outputs.ToLink.{ToLink}
use Rattle.pipe_driver.proofs.Puts.{reply_cut}
use Rattle.sim_driver.specs.Scripts.{line_by, reply_lines, router_from}

pub lines_more : (numbers : List ℕ) (replies : List ToLink) (i : ℕ) (reply : ToLink) (all text text' : List ℕ) → i < length replies
    → reply ≡ get_or replies i reply → text ++ reply_lines numbers (drop i replies) ≡ all
    → text' ≡ text ++ line_by (router_from 0 numbers reply.link) reply.bytes → text' ++ reply_lines numbers (drop (i + 1) replies) ≡ all
lines_more numbers replies i reply all text text' inside is so_far put =
    let line : List ℕ = line_by (router_from 0 numbers reply.link) reply.bytes in
    ap (λ (t : List ℕ). t ++ reply_lines numbers (drop (i + 1) replies)) put
    ∙ (append_assoc text line (reply_lines numbers (drop (i + 1) replies))
    ∙ (ap (λ (l : List ToLink). text ++ reply_lines numbers l) (sym (reply_cut replies i reply inside is)) ∙ so_far))

pub lines_end : (numbers : List ℕ) (replies : List ToLink) (i : ℕ) (all text : List ℕ) → length replies ≤ i
    → text ++ reply_lines numbers (drop i replies) ≡ all → text ≡ all
lines_end numbers replies i all text past so_far =
    sym (append-nil text) ∙ (ap (λ (l : List ToLink). text ++ reply_lines numbers l) (sym (drop_all i replies past)) ∙ so_far)

-- THE ROUTER OF A LINK

by_test : (test : Bool) (a b : Option ℕ) → test ≡ true → (if test then a else b) ≡ a
by_test true a b e = refl
by_test false a b e = absurd (cc e)

by_other : (test : Bool) (a b : Option ℕ) → test ≡ false → (if test then a else b) ≡ b
by_other true a b e = absurd (cc e)
by_other false a b e = refl

same_is : (a b : ℕ) → a ≡ b → (a == b) ≡ true
same_is a b e = grind (arith, nat_tests)

other_is : (a b : ℕ) → a ≢ b → (a == b) ≡ false
other_is a b other = grind (arith, nat_tests)

-- the router at a place has the link
pub router_here : (first : ℕ) (numbers : List ℕ) (i number : ℕ) → i < length numbers → get_or numbers i 0 ≡ number
    → router_from (first + i) (drop i numbers) number ≡ Some (first + i)
router_here first [] i number inside is = absurd (omega (arith, inside))
router_here first (n ∷ numbers) zero number inside is =
    by_test (n == number) (Some (first + 0)) (router_from ((first + 0) + 1) numbers number) (same_is n number is)
router_here first (n ∷ numbers) (suc i) number inside is =
    let later : first + suc i ≡ (first + 1) + i = omega arith in
    ap (λ (k : ℕ). router_from k (drop i numbers) number) later
    ∙ (router_here (first + 1) numbers i number (omega (arith, inside)) is ∙ ap (λ (k : ℕ). Some k) (sym later))

-- it does not
pub router_other : (first : ℕ) (numbers : List ℕ) (i number : ℕ) → i < length numbers → get_or numbers i 0 ≢ number
    → router_from (first + i) (drop i numbers) number ≡ router_from (first + (i + 1)) (drop (i + 1) numbers) number
router_other first [] i number inside other = absurd (omega (arith, inside))
router_other first (n ∷ numbers) zero number inside other =
    let later : (first + 0) + 1 ≡ first + (0 + 1) = omega arith in
    by_other (n == number) (Some (first + 0)) (router_from ((first + 0) + 1) numbers number) (other_is n number other)
    ∙ ap (λ (k : ℕ). router_from k numbers number) later
router_other first (n ∷ numbers) (suc i) number inside other =
    let later : first + suc i ≡ (first + 1) + i = omega arith in
    let last : (first + 1) + (i + 1) ≡ first + (suc i + 1) = omega arith in
    let same : suc (i + 1) ≡ suc i + 1 = omega arith in
    ap (λ (k : ℕ). router_from k (drop i numbers) number) later
    ∙ (router_other (first + 1) numbers i number (omega (arith, inside)) other ∙ (ap (λ (k : ℕ). router_from k (drop (i + 1) numbers) number) last
    ∙ ap (λ (k : ℕ). router_from (first + (suc i + 1)) (drop k (n ∷ numbers)) number) same))

pub router_none : (first : ℕ) (numbers : List ℕ) (i number : ℕ) → length numbers ≤ i → router_from first (drop i numbers) number ≡ None
router_none first numbers i number past = ap (λ (l : List ℕ). router_from first l number) (drop_all i numbers past)
