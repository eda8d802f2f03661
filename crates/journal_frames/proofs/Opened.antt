-- What was found in a file that was loaded from a disk.
use Rattle.std.proofs.Common.{◌≡◌, ◌⊎◌, inl, inr, ⊎_elim, ℕ, List, length, Bool, true, false, IsTrue, refl, sym, ◌∙◌, subst}
use Rattle.outside.specs.Disks.{LeavesOnly, Only, Outcomes}
use Rattle.journal_frames.specs.Files.{HaveSameRecords, Stands, blocks}
use Rattle.journal_frames.specs.Views.{IsAtRest, IsFound, IsUndisturbed}
use Rattle.journal_frames.proofs.Moments.{then_run, widened}
use Rattle.journal_frames.proofs.Staged.{stands_last}
use Rattle.journal_frames.proofs.Unique.{one_list}

module _ {D : Type 0} (tells : Bool) (content : D → List ℕ) (may_leave : D → Outcomes) (moment : D → ℕ) (left_at : D → ℕ → Outcomes) (old mid : D) (file : List ℕ) (records : List (List ℕ)) (end : ℕ) where
  pub is_found : (IsTrue tells → file ≡ content old) → (IsTrue tells → Only (content old) (may_leave mid)) → (IsTrue tells → IsUndisturbed content may_leave moment left_at old mid) → Stands file records → end ≡ length (blocks records) → IsFound tells (content mid) (may_leave mid) records end
  is_found is durable undisturbed stands size = record {
    size = size;
    fits = stands.fits;
    stands = λ t. subst (λ f. Stands f records) (is t ∙ sym (undisturbed t).same) stands;
    durable = λ t. subst (λ f. Only f (may_leave mid)) (sym (undisturbed t).same) (durable t);
  }

  -- the same records are in the file after a change that keeps those that were found
  pub still_stand : (new : D) (others : List (List ℕ)) → file ≡ content old → Stands file records → Stands (content new) records → Stands (content old) others → Stands (content new) others
  still_stand new others is stands after before =
      subst (λ rs. Stands (content new) rs) (one_list file records others stands (subst (λ f. Stands f others) (sym is) before)) after

  -- a crash at any moment of the loading and of the change that keeps the records
  pub opened_run : (new : D) → file ≡ content old → Stands file records → IsUndisturbed content may_leave moment left_at old mid → LeavesOnly moment left_at mid new (λ c. Stands c records) → LeavesOnly moment left_at old new (λ c. may_leave old c ⊎ HaveSameRecords (content old) c)
  opened_run new is stands undisturbed run =
      then_run moment left_at old mid new (λ c. may_leave old c ⊎ HaveSameRecords (content old) c) (λ c. Stands c records)
      (widened moment left_at old mid (may_leave old) (λ c. may_leave old c ⊎ HaveSameRecords (content old) c) undisturbed.any_moment (λ c left. inl left))
      run (λ c after. inr (records, subst (λ f. Stands f records) is stands, after))

  pub loaded_run : IsUndisturbed content may_leave moment left_at old mid → LeavesOnly moment left_at old mid (λ c. may_leave old c ⊎ HaveSameRecords (content old) c)
  loaded_run undisturbed = widened moment left_at old mid (may_leave old) (λ c. may_leave old c ⊎ HaveSameRecords (content old) c) undisturbed.any_moment (λ c left. inl left)

-- the file of a journal at rest, and the file after a crash
pub rest_stands : (tells : Bool) (content : List ℕ) (may_leave : Outcomes) (records : List (List ℕ)) (end : ℕ) → IsAtRest tells content may_leave records end → IsTrue tells → Stands content records
rest_stands tells content may_leave records end rest t = subst (λ f. Stands f records) (sym (rest.file t)) (stands_last records 0 rest.fits)

pub rest_durable : (tells : Bool) (content : List ℕ) (may_leave : Outcomes) (records : List (List ℕ)) (end : ℕ) → IsAtRest tells content may_leave records end → IsTrue tells → (c : List ℕ) → may_leave c → Stands c records
rest_durable tells content may_leave records end rest t c left = subst (λ f. Stands f records) (sym (rest.durable t c left)) (stands_last records 0 rest.fits)

-- the records that are found in it
pub rest_list : (tells : Bool) (content : List ℕ) (may_leave : Outcomes) (records : List (List ℕ)) (end : ℕ) → IsAtRest tells content may_leave records end
    → IsTrue tells → (file : List ℕ) (list : List (List ℕ)) → file ≡ content → Stands file list → list ≡ records
rest_list tells content may_leave records end rest t file list is stands =
    one_list content list records (subst (λ f. Stands f list) is stands) (rest_stands tells content may_leave records end rest t)

-- a fact of one of two kinds, where a disk has observable content
pub either_where : (tells : Bool) {A B : Type 0} → (IsTrue tells → A ⊎ B) → (IsTrue tells → A) ⊎ (IsTrue tells → B)
either_where true either = ⊎_elim (λ a. inl (λ t. a)) (λ b. inr (λ t. b)) (either refl)
either_where false either = inl (λ t. absurd cc)
