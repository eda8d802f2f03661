-- One more of the same, and one name more.
use Rattle.cluster_main.specs.Names.{journal_name, journal_names}
use Rattle.std.proofs.Common.{◌≡◌, ℕ, zero, suc, [], ◌∷◌, ◌++◌, replicate, refl, ap}

pub replicate_more : {A : Type 0} (n m : ℕ) (x : A) → m ≡ suc n → replicate m x ≡ replicate n x ++ x ∷ []
replicate_more zero m x e = rw e refl
replicate_more (suc n) m x e = rw e (ap (λ xs. x ∷ xs) (replicate_more n (suc n) x refl))

-- the name of one node more
pub names_more : (n m : ℕ) → m ≡ suc n → journal_names m ≡ journal_names n ++ journal_name n ∷ []
names_more n m e = rw e refl
