-- Reading documents one after the other: what was read, and what is left.
use Rattle.std.proofs.Common.{◌≡◌, ℕ, inl, inr, true, false, List, [], ◌∷◌, ◌++◌, length, take, drop, refl, sym, ap, ◌∙◌, arith, length-append, append_assoc}
use Rattle.std.specs.Prelude.{nat_le}
use Rattle.std.specs.Int.{w32, from_le_bytes}
use Rattle.std.specs.List.{AllByRecursion, concat}
use Rattle.std.proofs.lemmas.List.{append-nil, take-append-le, take_at, drop_at}
use Rattle.std.proofs.lemmas.Bool.Decides.{nat_tests}
use Rattle.bson_model.specs.Tree.{Fields}
use Rattle.bson_model.specs.Faults.{Fault, HasFirstFault}
use Rattle.opmsg_model.specs.Messages.{number_at}
use Rattle.opmsg_model.specs.Sections.{IsStated}
use Rattle.opmsg_model.specs.Requests.{IsKept, AreKept, FirstFaulty}
use Rattle.opmsg_model.specs.Outline.{has_stated}

-- these documents are left, after those that were read
pub record Left (documents left : List (List ℕ)) (rest : List ℕ) (read : List Fields) : Type 0 where
  pub split : rest ≡ concat left
  pub stated : AllByRecursion IsStated left
  pub kept : (mss : List Fields) → AreKept left mss → AreKept documents (read ++ mss)
  pub faulty : (fault : Fault) (offset : ℕ) → FirstFaulty left fault offset → FirstFaulty documents fault offset

pub none_read : (documents : List (List ℕ)) (bytes : List ℕ) → bytes ≡ concat documents → AllByRecursion IsStated documents → Left documents documents bytes []
none_read documents bytes e stated = record { split = e; stated = stated; kept = λ mss kept. kept; faulty = λ fault offset first. first }

-- the number of the first document, whatever follows it
pub first_number : (d more : List ℕ) → IsStated d → number_at 0 (d ++ more) ≡ length d
first_number d more stated = ap (λ (four : List ℕ). from_le_bytes w32 four) (take-append-le 4 d more (omega (arith, stated.0))) ∙ stated.1

pub is_stated : (d more : List ℕ) → IsStated d → has_stated (d ++ more) ≡ true
is_stated d more stated =
    let n = first_number d more stated in
    let l = length-append d more in
    let a : nat_le 5 (length (d ++ more)) ≡ true = grind (arith, nat_tests, stated.0, l) in
    let b : nat_le 5 (number_at 0 (d ++ more)) ≡ true = grind (arith, nat_tests, stated.0, n) in
    let c : nat_le (number_at 0 (d ++ more)) (length (d ++ more)) ≡ true = grind (arith, nat_tests, n, l) in
    rw (a, b, c) refl

-- the first of those that are left
pub record First (documents left : List (List ℕ)) (rest : List ℕ) (read : List Fields) (document behind : List ℕ) : Type 0 where
  pub stated : IsStated document
  pub kept : (ms : Fields) → IsKept document ms → (more : List (List ℕ)) × Left documents more behind (read ++ ms ∷ [])
  pub faulty : (fault : Fault) (offset : ℕ) → HasFirstFault document fault offset → FirstFaulty documents fault offset

pub first : (documents left : List (List ℕ)) (rest : List ℕ) (read : List Fields) (number : ℕ) (document behind : List ℕ) → number ≡ number_at 0 rest → document ≡ take number rest → behind ≡ drop number rest → has_stated rest ≡ true → Left documents left rest read → First documents left rest read document behind
first documents [] rest read number document behind e f b some l = absurd (let e : has_stated [] ≡ true = rw l.split at some in cc)
first documents (d ∷ left) rest read number document behind e f b some l =
    let n : number ≡ length d = e ∙ ap (λ (bytes : List ℕ). number_at 0 bytes) l.split ∙ first_number d (concat left) l.stated.0 in
    let prefix : document ≡ d = f ∙ ap (λ (bytes : List ℕ). take number bytes) l.split ∙ take_at d (concat left) number (sym n) in
    let back : behind ≡ concat left = b ∙ ap (λ (bytes : List ℕ). drop number bytes) l.split ∙ drop_at d (concat left) number (sym n) in
    rw (prefix, back)
    (record {
      stated = l.stated.0;
      kept = λ ms kept. (
        left,
        record {
          split = refl;
          stated = l.stated.1;
          kept = λ mss more. rw (append_assoc read (ms ∷ []) mss) (l.kept (ms ∷ mss) (ms, mss, refl, kept, more));
          faulty = λ fault offset found. l.faulty fault offset (inr ((ms, kept), found));
        },
      );
      faulty = λ fault offset found. l.faulty fault offset (inl found);
    })

pub all_read : (documents left : List (List ℕ)) (rest : List ℕ) (read : List Fields) → has_stated rest ≡ false → Left documents left rest read → AreKept documents read
all_read documents [] rest read none l = rw (append-nil read) at (l.kept [] refl)
all_read documents (d ∷ left) rest read none l = absurd (let e : has_stated rest ≡ true = rw l.split (is_stated d (concat left) l.stated.0) in cc)
