-- The records found before an offset, and what is left of the file.
use Rattle.std.proofs.Common.{◌≡◌, ◌⊎◌, inl, inr, ⊎_elim, ℕ, ◌-◌, ◌<◌, ◌^◌, List, [], ◌∷◌, ◌++◌, length, refl, sym, ◌∙◌, ap, arith, append_assoc, length-append}
use Rattle.journal_frames.specs.Files.{Fit, IsDamaged, IsShut, Stands, blocks, body}
use Rattle.journal_frames.specs.Scan.{IsBody, IsBroken}

pub record IsScanned (file : List ℕ) (records : List (List ℕ)) (rest : List ℕ) : Type 0 where
  pub split : file ≡ blocks records ++ rest
  pub fits : Fit records
  pub none : rest ≡ [] → file ≡ []

pub blocks-push : (records : List (List ℕ)) (bytes rest : List ℕ) → blocks (records ++ bytes ∷ []) ++ rest ≡ blocks records ++ 1 ∷ (body bytes ++ rest)
blocks-push [] bytes rest = ap (λ (l : List ℕ). 1 ∷ l) (append_assoc (body bytes) [] rest)
blocks-push (r ∷ records) bytes rest =
    ap (λ (l : List ℕ). 1 ∷ l) (append_assoc (body r) (blocks (records ++ bytes ∷ [])) rest ∙ ap (λ (l : List ℕ). body r ++ l) (blocks-push records bytes rest) ∙ sym (append_assoc (body r) (blocks records) (1 ∷ (body bytes ++ rest))))

pub fit_push : (records : List (List ℕ)) (bytes : List ℕ) → Fit records → length bytes < 2 ^ 64 → Fit (records ++ bytes ∷ [])
fit_push [] bytes fits fit = (fit, tt)
fit_push (r ∷ records) bytes fits fit = (fits.0, fit_push records bytes fits.1 fit)

pub blocks-append : (records more : List (List ℕ)) (rest : List ℕ) → blocks (records ++ more) ++ rest ≡ blocks records ++ (blocks more ++ rest)
blocks-append [] more rest = refl
blocks-append (r ∷ records) more rest =
    ap (λ (l : List ℕ). 1 ∷ l) (append_assoc (body r) (blocks (records ++ more)) rest ∙ ap (λ (l : List ℕ). body r ++ l) (blocks-append records more rest) ∙ sym (append_assoc (body r) (blocks records) (blocks more ++ rest)))

pub begins : (file : List ℕ) → IsScanned file [] file
begins file = record { split = refl; fits = tt; none = λ e. e }

pub goes_on : (file rest more bytes behind : List ℕ) (records : List (List ℕ)) → IsScanned file records rest → rest ≡ 1 ∷ more → IsBody more bytes behind → IsScanned file (records ++ bytes ∷ []) behind
goes_on file rest more bytes behind records so_far is found = record {
  split = so_far.split ∙ ap (λ (l : List ℕ). blocks records ++ l) (is ∙ ap (λ (l : List ℕ). 1 ∷ l) found.split) ∙ sym (blocks-push records bytes behind);
  fits = fit_push records bytes so_far.fits found.fits;
  none = λ e. absurd (omega (arith, ap length e, found.more));
}

pub stands : (file rest : List ℕ) (records : List (List ℕ)) → IsScanned file records rest → IsShut rest ⊎ (rest ≡ []) → Stands file records
stands file rest records so_far shut = record {
  rest = rest;
  fits = so_far.fits;
  split = so_far.split;
  shut = ⊎_elim (λ s. inl s) (λ e. inr (so_far.none e)) shut;
}

pub place_is : (file rest : List ℕ) (records : List (List ℕ)) → IsScanned file records rest → length file - length rest ≡ length (blocks records)
place_is file rest records so_far = omega (arith, ap length so_far.split, length-append (blocks records) rest)

pub is_damaged : (file rest : List ℕ) (records : List (List ℕ)) → IsScanned file records rest → IsBroken rest → IsDamaged file (length file - length rest)
is_damaged file rest records so_far broken = record {
  records = records;
  gate = broken.gate;
  rest = broken.rest;
  fits = so_far.fits;
  split = so_far.split ∙ ap (λ (l : List ℕ). blocks records ++ l) broken.split;
  open_gate = broken.open_gate;
  no_record = broken.no_record;
  at = place_is file rest records so_far;
}

-- a gate that is not open is before the end of a file that is not empty
pub gate_within : (file rest : List ℕ) (records : List (List ℕ)) → IsScanned file records rest → IsShut rest ⊎ (rest ≡ []) → 0 < length file → length file - length rest < length file
gate_within file [] records so_far shut some = absurd (omega (arith, some, ap length (so_far.none refl)))
gate_within file (gate ∷ rest) records so_far shut some = omega (arith, some)
