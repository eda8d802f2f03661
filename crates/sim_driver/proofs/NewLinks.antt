-- Links that are opened, one after another.
use Rattle.std.proofs.Common.{◌≡◌, ℕ, zero, suc, ◌+◌, List, [], ◌∷◌, ◌++◌, refl, sym, ap, ◌∙◌, arith, add-one, length}
use Rattle.sim_driver.specs.Links.{LinkView, new_link}
use Rattle.sim_driver.specs.Scripts.{links_from}

one_more : (first count : ℕ) → links_from first (suc count) ≡ links_from first count ++ new_link (first + count) ∷ []
one_more first zero = let here : first ≡ first + 0 = omega arith in ap (λ (n : ℕ). new_link n ∷ []) here
one_more first (suc count) =
    let there : (first + 1) + count ≡ first + suc count = omega arith in
    ap (λ (l : List LinkView). new_link first ∷ l)
    (one_more (first + 1) count ∙ ap (λ (n : ℕ). links_from (first + 1) count ++ new_link n ∷ []) there)

pub links_next : (count : ℕ) (links grown : List LinkView) (link : LinkView) → links ≡ links_from 0 count → link ≡ new_link count → grown ≡ links ++ link ∷ []
    → grown ≡ links_from 0 (count + 1)
links_next count links grown link are is grows =
    let same : 0 + count ≡ count = omega arith in
    grows ∙ (ap (λ (l : List LinkView). l ++ link ∷ []) are ∙ (ap (λ (x : LinkView). links_from 0 count ++ x ∷ []) (is ∙ ap (λ (n : ℕ). new_link n) (sym same))
    ∙ (sym (one_more 0 count) ∙ ap (λ (n : ℕ). links_from 0 n) (sym (add-one count)))))

pub links_count : (first count : ℕ) → length (links_from first count) ≡ count
links_count first zero = refl
links_count first (suc count) = ap suc (links_count (first + 1) count)
