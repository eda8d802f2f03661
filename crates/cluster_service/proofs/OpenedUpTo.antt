-- Journals that are opened one after another.
use Rattle.std.specs.Prelude.{◌≡◌, ℕ, ◌+◌, List, [], ◌∷◌, ◌++◌, length, Option, Some, None}
use Rattle.std.proofs.Common.{refl, sym, ap, subst, ◌∙◌, arith, append_assoc, append-nil, length-append}
use Rattle.journal_frames.specs.Views.{JournalView}
use Rattle.cluster_service.specs.OpenJournals.{disks_of}
use Rattle.cluster_service.specs.Openings.{AreOpenedUpTo, DiskFacts, HasStopped, InThrees, IsOpenedOn, IsUnopened, opened_so_far, stopped_at}
use Rattle.cluster_service.specs.declared.status.Status.{Status}
use Rattle.cluster_service.proofs.Openings.{threes_len, threes_more}

module _ {D : Type 0} (facts : DiskFacts D) (disks : List D) where
  pub up_to_start : AreOpenedUpTo facts disks disks None [] [] []
  up_to_start = opened_so_far [] [] [] refl tt

  pub up_to_opened : (disk : D) (left : List D) (journals : List (JournalView D)) (found : List (List (List ℕ))) (unopened : List D)
      (journal : JournalView D) (records : List (List ℕ)) → AreOpenedUpTo facts disks (disk ∷ left) None journals found unopened
      → IsOpenedOn facts disk journal records → AreOpenedUpTo facts disks left None (journals ++ journal ∷ []) (found ++ records ∷ []) unopened
  up_to_opened disk left _ _ _ journal records (opened_so_far done journals found are opened) is =
      opened_so_far (done ++ disk ∷ []) (journals ++ journal ∷ []) (found ++ records ∷ []) (are ∙ sym (append_assoc done (disk ∷ []) left))
      (threes_more (IsOpenedOn facts) done journals found disk journal records opened is)

  pub up_to_stopped : (disk : D) (left : List D) (journals : List (JournalView D)) (found : List (List (List ℕ))) (unopened : List D) (after : D)
      (status : Status) → AreOpenedUpTo facts disks (disk ∷ left) None journals found unopened → IsUnopened facts status disk after
      → AreOpenedUpTo facts disks left (Some status) journals found (unopened ++ after ∷ [])
  up_to_stopped disk left _ _ _ after status (opened_so_far done journals found are opened) is =
      stopped_at done [] disk after status journals found are opened is

  pub up_to_left : (disk : D) (left : List D) (journals : List (JournalView D)) (found : List (List (List ℕ))) (unopened : List D) (status : Status)
      → AreOpenedUpTo facts disks (disk ∷ left) (Some status) journals found unopened
      → AreOpenedUpTo facts disks left (Some status) journals found (unopened ++ disk ∷ [])
  up_to_left disk left _ _ _ _ (stopped_at done others first after status journals found are opened is) =
      stopped_at done (others ++ disk ∷ []) first after status journals found
      (are ∙ ap (λ (l : List D). done ++ first ∷ l) (sym (append_assoc others (disk ∷ []) left))) opened is

  pub all_opened : (journals : List (JournalView D)) (found : List (List (List ℕ))) (unopened : List D)
      → AreOpenedUpTo facts disks [] None journals found unopened → InThrees (IsOpenedOn facts) disks journals found
  all_opened _ _ _ (opened_so_far done journals found are opened) =
      subst (λ (ds : List D). InThrees (IsOpenedOn facts) ds journals found) (sym (are ∙ append-nil done)) opened

  pub has_stopped : (journals : List (JournalView D)) (found : List (List (List ℕ))) (unopened : List D) (status : Status)
      → AreOpenedUpTo facts disks [] (Some status) journals found unopened → HasStopped facts status disks (disks_of journals ++ unopened)
  has_stopped _ _ _ _ (stopped_at done others first after status journals found are opened is) = record {
    done = done;
    others = others;
    journals = journals;
    found = found;
    disk = first;
    back = after;
    were = are ∙ ap (λ (l : List D). done ++ first ∷ l) (append-nil others);
    are = refl;
    opened = opened;
    unopened = is;
  }

  pub up_to_len : (left : List D) (stopped : Option Status) (journals : List (JournalView D)) (found : List (List (List ℕ))) (unopened : List D)
      → AreOpenedUpTo facts disks left stopped journals found unopened → (length journals + length unopened) + length left ≡ length disks
  up_to_len left _ _ _ _ (opened_so_far done journals found are opened) =
      omega (arith, ap (λ (l : List D). length l) are, length-append done left, threes_len (IsOpenedOn facts) done journals found opened)
  up_to_len left _ _ _ _ (stopped_at done others first after status journals found are opened is) =
      omega (
        arith,
        ap (λ (l : List D). length l) are,
        length-append done (first ∷ (others ++ left)),
        length-append others left,
        threes_len (IsOpenedOn facts) done journals found opened,
      )
