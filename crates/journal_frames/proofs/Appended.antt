-- What is ready to be appended, and what follows it.
use Rattle.std.proofs.Common.{◌≡◌, ℕ, ◌-◌, ◌<◌, ◌^◌, List, [], ◌∷◌, ◌++◌, length, take, drop, Bool, true, false, ◌==◌, IsTrue, sym, ◌∙◌, ap, subst, arith, length-append}
use Rattle.std.proofs.lemmas.List.{take_all}
use Rattle.outside.specs.Disks.{Outcomes}
use Rattle.journal_frames.specs.Files.{blocks, body, records_in}
use Rattle.journal_frames.specs.Views.{IsAtRest, IsReady, at_rest}
use Rattle.journal_frames.proofs.Listed.{fit_within, listed_rest}

-- a list that was tested not to be empty
pub not_empty : (bodies : List (List ℕ)) (empty : Bool) → empty ≡ (length bodies == 0) → empty ≡ false → 0 < length bodies
not_empty [] empty is not = let both : true ≡ false = sym is ∙ not in absurd cc
not_empty (r ∷ bodies) empty is not = omega arith

-- what follows the first gate of records
pub behind_gate : (bodies : List (List ℕ)) (bytes : List ℕ) → 0 < length bodies → bytes ≡ at_rest bodies
    → 1 ∷ take (length bytes - 1) (drop 1 bytes) ≡ at_rest bodies
behind_gate [] bytes some is = absurd (omega (arith, some))
behind_gate (r ∷ bodies) bytes some is =
    let rest : List ℕ = (body r ++ blocks bodies) ++ 0 ∷ [] in
    let long : length (1 ∷ rest) - 1 ≡ length rest = omega arith in
    ap (λ (l : List ℕ). 1 ∷ take (length l - 1) (drop 1 l)) is ∙ ap (λ (n : ℕ). 1 ∷ take n rest) long
    ∙ ap (λ (l : List ℕ). 1 ∷ l) (take_all (length rest) rest (omega arith))

pub is_ready : (tells : Bool) (content : List ℕ) (may_leave : Outcomes) (records : List (List ℕ)) (end : ℕ) (bodies : List (List ℕ)) (bytes : List ℕ)
    → IsAtRest tells content may_leave records end → 0 < length bodies → bytes ≡ at_rest bodies → length bytes < 2 ^ 64
    → IsReady tells content may_leave records end bodies (take (length bytes - 1) (drop 1 bytes))
is_ready tells content may_leave records end bodies bytes rest some is short = record {
  rest = rest;
  fits = fit_within bodies (omega (arith, short, ap length is, length-append (blocks bodies) (0 ∷ [])));
  piece_is = behind_gate bodies bytes some is;
}

-- a journal at rest has the list of its file
pub rest_listed : (tells : Bool) (content : List ℕ) (may_leave : Outcomes) (records : List (List ℕ)) (end end' : ℕ)
    → IsAtRest tells content may_leave records end → IsTrue tells → end' ≡ end → IsAtRest tells content may_leave (records_in content) end'
rest_listed tells content may_leave records end end' rest told same =
    subst (λ (rs : List (List ℕ)). IsAtRest tells content may_leave rs end') (sym (listed_rest content records rest.fits (rest.file told))) (subst (λ
    (e : ℕ). IsAtRest tells content may_leave records e) (sym same) rest)
