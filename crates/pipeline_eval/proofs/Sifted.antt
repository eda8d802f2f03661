-- Each document that a sieve drops the filter drops too.
use Rattle.std.proofs.Common.{◌≡◌, List, [], ◌∷◌, refl, sym, ap, ◌∙◌}
use Rattle.std.specs.Prelude.{Bool, true, false, cond, filter, map}

module _ {A B : Type 0} (see : A → B) (keeps passes : B → Bool) (need : (b : B) → keeps b ≡ true → passes b ≡ true) where
  one_sifted : (x : A) (xs : List A) (p k : Bool) → passes (see x) ≡ p → keeps (see x) ≡ k →
      filter keeps (map see (filter (λ y. passes (see y)) xs)) ≡ filter keeps (map see xs) →
      filter keeps (map see (cond p (x ∷ filter (λ y. passes (see y)) xs) (filter (λ y. passes (see y)) xs))) ≡ filter keeps (see x ∷ map see xs)
  one_sifted x xs true k p_is k_is rest = ap (λ (l : List B). cond (keeps (see x)) (see x ∷ l) l) rest
  one_sifted x xs false true p_is k_is rest = let both : false ≡ true = sym p_is ∙ need (see x) k_is in absurd (cc both)
  one_sifted x xs false false p_is k_is rest =
      rest ∙ ap (λ (b : Bool). cond b (see x ∷ filter keeps (map see xs)) (filter keeps (map see xs))) (sym k_is)

  pub filter_sifted : (xs : List A) → filter keeps (map see (filter (λ y. passes (see y)) xs)) ≡ filter keeps (map see xs)
  filter_sifted [] = refl
  filter_sifted (x ∷ xs) = one_sifted x xs (passes (see x)) (keeps (see x)) refl refl (filter_sifted xs)
