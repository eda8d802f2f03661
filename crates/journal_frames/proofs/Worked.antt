-- Worked files.
use Rattle.std.proofs.Common.{◌≡◌, inr, ℕ, List, [], ◌∷◌, refl, arith}
use Rattle.journal_frames.specs.Files.{IsDamaged, Stands}
use Rattle.journal_frames.proofs.Bodies.{no_record_long}
use Rattle.journal_frames.proofs.Staged.{stands_last}
use Rattle.journal_frames.proofs.Unique.{not_both, one_list}

pub empty_stands : Stands [] []
empty_stands = record { rest = []; fits = tt; split = refl; shut = inr refl }

nothing_more : (r : List ℕ) (rs : List (List ℕ)) → [] ≡ r ∷ rs → ⊥
nothing_more r rs is = absurd cc

pub empty_has_none : Stands [] ([] ∷ []) → ⊥
empty_has_none s = nothing_more [] [] (one_list [] [] ([] ∷ []) empty_stands s)

pub closed_stands : Stands (0 ∷ []) []
closed_stands = stands_last [] 0 tt

pub closed_is_whole : IsDamaged (0 ∷ []) 0 → ⊥
closed_is_whole d = not_both (0 ∷ []) [] 0 closed_stands d

pub one_stands : Stands (1 ∷ 1 ∷ 0 ∷ 0 ∷ 0 ∷ 0 ∷ 0 ∷ 0 ∷ 0 ∷ 7 ∷ 0 ∷ []) ((7 ∷ []) ∷ [])
one_stands = stands_last ((7 ∷ []) ∷ []) 0 (omega arith, tt)

pub cut_short_is_damaged : IsDamaged (1 ∷ 1 ∷ 0 ∷ 0 ∷ 0 ∷ 0 ∷ 0 ∷ 0 ∷ 0 ∷ 7 ∷ []) 0
cut_short_is_damaged = record {
  records = [];
  gate = 1;
  rest = 1 ∷ 0 ∷ 0 ∷ 0 ∷ 0 ∷ 0 ∷ 0 ∷ 0 ∷ 7 ∷ [];
  fits = tt;
  split = refl;
  open_gate = λ shut. shut refl;
  no_record = no_record_long (1 ∷ 0 ∷ 0 ∷ 0 ∷ 0 ∷ 0 ∷ 0 ∷ 0 ∷ 7 ∷ []) 1 refl (omega arith);
  at = refl;
}
