-- Disks that are opened as journals, one after another: what is said of them all.
use Rattle.std.specs.Prelude.{◌≡◌, ◌≢◌, ℕ, zero, suc, ◌≤◌, IsTrue, List, [], ◌∷◌, ◌++◌, length, map, Some}
use Rattle.std.proofs.Common.{refl, sym, ap, subst, ◌∙◌, inl, inr, arith}
use Rattle.std.specs.List.{slice_get}
use Rattle.outside.specs.Devices.{NoneFell}
use Rattle.journal_frames.specs.Files.{IsDamaged, Stands}
use Rattle.journal_frames.specs.Views.{JournalView}
use Rattle.journal_frames.proofs.Unique.{not_both, one_list}
use Rattle.node_model.specs.Journal.{Kept}
use Rattle.node_model.specs.World.{Held, journal_at}
use Rattle.node_traits.specs.Calls.{LeavesAlso}
use Rattle.node_traits.specs.Effects.{spellings}
use Rattle.pipe_driver.specs.Counts.{RoseWhere}
use Rattle.journal_starts.specs.Journals.{AreJournals, IsJournal}
use Rattle.journal_starts.specs.Records.{AreRefused, HaveRecords, by_damage}
use Rattle.cluster_service.specs.Counts.{OneRoseWhere}
use Rattle.cluster_service.specs.Crashes.{LeaveSuch}
use Rattle.cluster_service.specs.OpenJournals.{AreAllOpen, AreOpenWith, disks_of}
use Rattle.cluster_service.specs.Openings.{AreAsTheyWere, AreUnopened, DiskFacts, InPairs, InThrees, IsAsItWas, IsOpenedOn, IsUnopened}
use Rattle.cluster_service.specs.Stops.{StopsOpening, at_opening_memory}
use Rattle.cluster_service.specs.declared.status.Status.{Status}
use Rattle.cluster_service.specs.declared.status.Status.TheVariants as statuses
use Rattle.cluster_service.proofs.Counts.{all_still}
use Rattle.cluster_service.proofs.Crashes.{left_alone, leaves_then}

-- PAIRS AND THREES

pub pairs_len : {A B : Type 0} (R : A → B → Type 0) (xs : List A) (ys : List B) → InPairs R xs ys → length ys ≡ length xs
pairs_len R [] [] are = refl
pairs_len R [] (b ∷ ys) are = absurd are
pairs_len R (a ∷ xs) [] are = absurd are
pairs_len R (a ∷ xs) (b ∷ ys) are = ap suc (pairs_len R xs ys are.1)

module _ {A B C : Type 0} (R : A → B → C → Type 0) where
  pub threes_more : (xs : List A) (ys : List B) (zs : List C) (a : A) (b : B) (c : C) → InThrees R xs ys zs → R a b c
      → InThrees R (xs ++ a ∷ []) (ys ++ b ∷ []) (zs ++ c ∷ [])
  threes_more [] [] [] a b c are is = (is, tt)
  threes_more [] [] (z ∷ zs) a b c are is = absurd are
  threes_more [] (y ∷ ys) zs a b c are is = absurd are
  threes_more (x ∷ xs) [] zs a b c are is = absurd are
  threes_more (x ∷ xs) (y ∷ ys) [] a b c are is = absurd are
  threes_more (x ∷ xs) (y ∷ ys) (z ∷ zs) a b c are is = (are.0, threes_more xs ys zs a b c are.1 is)

  -- what each three say of the first two
  pub threes_pairs : (S : A → B → Type 0) → ((a : A) (b : B) (c : C) → R a b c → S a b) → (xs : List A) (ys : List B) (zs : List C)
      → InThrees R xs ys zs → InPairs S xs ys
  threes_pairs S say [] [] [] are = tt
  threes_pairs S say [] [] (z ∷ zs) are = absurd are
  threes_pairs S say [] (y ∷ ys) zs are = absurd are
  threes_pairs S say (x ∷ xs) [] zs are = absurd are
  threes_pairs S say (x ∷ xs) (y ∷ ys) [] are = absurd are
  threes_pairs S say (x ∷ xs) (y ∷ ys) (z ∷ zs) are = (say x y z are.0, threes_pairs S say xs ys zs are.1)

  -- and of the first and the last
  pub threes_ends : (S : A → C → Type 0) → ((a : A) (b : B) (c : C) → R a b c → S a c) → (xs : List A) (ys : List B) (zs : List C)
      → InThrees R xs ys zs → InPairs S xs zs
  threes_ends S say [] [] [] are = tt
  threes_ends S say [] [] (z ∷ zs) are = absurd are
  threes_ends S say [] (y ∷ ys) zs are = absurd are
  threes_ends S say (x ∷ xs) [] zs are = absurd are
  threes_ends S say (x ∷ xs) (y ∷ ys) [] are = absurd are
  threes_ends S say (x ∷ xs) (y ∷ ys) (z ∷ zs) are = (say x y z are.0, threes_ends S say xs ys zs are.1)

  pub threes_len : (xs : List A) (ys : List B) (zs : List C) → InThrees R xs ys zs → length ys ≡ length xs
  threes_len xs ys zs are = pairs_len (λ a b. Unit {0}) xs ys (threes_pairs (λ a b. Unit {0}) (λ a b c is. tt) xs ys zs are)

  pub threes_last_len : (xs : List A) (ys : List B) (zs : List C) → InThrees R xs ys zs → length zs ≡ length xs
  threes_last_len xs ys zs are = pairs_len (λ a c. Unit {0}) xs zs (threes_ends (λ a c. Unit {0}) (λ a b c is. tt) xs ys zs are)

-- one number of each pair that stays is one list
pub pairs_same : {A B X : Type 0} (f : A → X) (h : B → X) (xs : List A) (ys : List B) → InPairs (λ a b. h b ≡ f a) xs ys → map h ys ≡ map f xs
pairs_same f h [] [] are = refl
pairs_same f h [] (b ∷ ys) are = absurd are
pairs_same f h (a ∷ xs) [] are = absurd are
pairs_same {X = X} f h (a ∷ xs) (b ∷ ys) are =
    ap (λ (x : X). x ∷ map h ys) are.0 ∙ ap (λ (l : List X). f a ∷ l) (pairs_same f h xs ys are.1)

pub pairs_on : {A B C : Type 0} (R : A → C → Type 0) (h : B → C) (xs : List A) (ys : List B) → InPairs (λ a b. R a (h b)) xs ys → InPairs R xs (map h ys)
pairs_on R h [] [] are = tt
pairs_on R h [] (b ∷ ys) are = absurd are
pairs_on R h (a ∷ xs) [] are = absurd are
pairs_on R h (a ∷ xs) (b ∷ ys) are = (are.0, pairs_on R h xs ys are.1)

-- DAMAGE

-- one of these files is damaged
pub record SomeDamaged (files : List (List ℕ)) : Type 0 where
  pub at : ℕ
  pub offset : ℕ
  pub file : List ℕ
  pub here : slice_get files at ≡ Some file
  pub damaged : IsDamaged file offset

-- no journal of a node is
pub none_damaged : (files : List (List ℕ)) (nodes : List Held) → AreJournals files nodes → ¬ SomeDamaged files
none_damaged files nodes are some = not_at files nodes are some.at some.file some.here some.offset some.damaged
  where
    not_at : (files : List (List ℕ)) (nodes : List Held) → AreJournals files nodes → (at : ℕ) (file : List ℕ) → slice_get files at ≡ Some file
        → (offset : ℕ) → ¬ IsDamaged file offset
    not_at [] nodes are at file got offset damaged = absurd (cc got)
    not_at (x ∷ files) [] are at file got offset damaged = absurd are
    not_at (x ∷ files) (h ∷ nodes) are zero file got offset damaged =
        let same : x ≡ file = cc got in
        not_both x (spellings h.kept) offset are.0.stands (subst (λ (f : List ℕ). IsDamaged f offset) (sym same) damaged)
    not_at (x ∷ files) (h ∷ nodes) are (suc at) file got offset damaged = not_at files nodes are.1 at file got offset damaged

-- DISKS AS THEY WERE

module _ {D : Type 0} (facts : DiskFacts D) where
  -- a disk that was left alone
  pub is_alone : (disk : D) → IsAsItWas facts disk disk
  is_alone disk = record {
    same = λ told. record { records = λ records is. is; damaged = λ offset is. refl };
    leaves = λ told. left_alone facts.moment facts.left_at disk _;
  }

  pub are_alone : (disks : List D) → AreAsTheyWere facts disks disks
  are_alone [] = tt
  are_alone (disk ∷ disks) = (is_alone disk, are_alone disks)

  -- the files store what nodes do, as before
  pub still_journals : (before after : List D) (nodes : List Held) → IsTrue facts.tells → AreAsTheyWere facts before after
      → AreJournals (map facts.content before) nodes → AreJournals (map facts.content after) nodes
  still_journals [] [] nodes told were are = are
  still_journals [] (b ∷ after) nodes told were are = absurd were
  still_journals (a ∷ before) [] nodes told were are = absurd were
  still_journals (a ∷ before) (b ∷ after) [] told were are = absurd are
  still_journals (a ∷ before) (b ∷ after) (h ∷ nodes) told were are = (
    record { stands = (were.0.same told).records (spellings h.kept) are.0.stands; readable = are.0.readable },
    still_journals before after nodes told were.1 are.1,
  )

  -- a crash left such files
  leaves_kept : (a b : D) (kept : List Kept) → IsTrue facts.tells → IsAsItWas facts a b → IsJournal (facts.content a) kept
      → LeavesAlso facts.moment facts.left_at a b (λ file. Stands file (spellings kept))
  leaves_kept a b kept told was is =
      leaves_then facts.moment facts.left_at a a b (λ file. ⊥) _ _ (left_alone facts.moment facts.left_at a (λ file. ⊥)) (was.leaves told)
      (λ file never. absurd never)
      (λ file same. subst (λ (l : List (List ℕ)). Stands file l) (one_list (facts.content a) same.0 (spellings kept) same.1 is.stands) same.2)

  pub leave_kept : (before after : List D) (nodes : List Held) → IsTrue facts.tells → AreAsTheyWere facts before after
      → AreJournals (map facts.content before) nodes
      → LeaveSuch facts.moment facts.left_at (λ at file. Stands file (spellings (journal_at nodes at))) before after
  leave_kept [] [] nodes told were are = tt
  leave_kept [] (b ∷ after) nodes told were are = absurd were
  leave_kept (a ∷ before) [] nodes told were are = absurd were
  leave_kept (a ∷ before) (b ∷ after) [] told were are = absurd are
  leave_kept (a ∷ before) (b ∷ after) (h ∷ nodes) told were are =
      (leaves_kept a b h.kept told were.0 are.0, leave_kept before after nodes told were.1 are.1)

-- OPENED

module _ {D : Type 0} (facts : DiskFacts D) (disks : List D) (journals : List (JournalView D)) (found : List (List (List ℕ))) where
  pub opened_len : InThrees (IsOpenedOn facts) disks journals found → length journals ≡ length disks
  opened_len are = threes_len (IsOpenedOn facts) disks journals found are

  pub found_len : InThrees (IsOpenedOn facts) disks journals found → length found ≡ length disks
  found_len are = threes_last_len (IsOpenedOn facts) disks journals found are

  pub opened_as_were : InThrees (IsOpenedOn facts) disks journals found → AreAsTheyWere facts disks (disks_of journals)
  opened_as_were are =
      pairs_on (IsAsItWas facts) (λ (journal : JournalView D). journal.disk) disks journals
      (threes_pairs (IsOpenedOn facts) (λ disk journal. IsAsItWas facts disk journal.disk) (λ disk journal records is. is.was) disks journals found are)

  pub opened_calm : InThrees (IsOpenedOn facts) disks journals found → map facts.fault_count (disks_of journals) ≡ map facts.fault_count disks
  opened_calm are =
      pairs_same facts.fault_count facts.fault_count disks (disks_of journals)
      (pairs_on (λ a b. facts.fault_count b ≡ facts.fault_count a) (λ (journal : JournalView D). journal.disk) disks journals
      (threes_pairs (IsOpenedOn facts) (λ disk journal. facts.fault_count journal.disk ≡ facts.fault_count disk) (λ disk journal records is. is.calm)
      disks journals found are))

  pub opened_places : InThrees (IsOpenedOn facts) disks journals found → map facts.place (disks_of journals) ≡ map facts.place disks
  opened_places are =
      pairs_same facts.place facts.place disks (disks_of journals)
      (pairs_on (λ a b. facts.place b ≡ facts.place a) (λ (journal : JournalView D). journal.disk) disks journals
      (threes_pairs (IsOpenedOn facts) (λ disk journal. facts.place journal.disk ≡ facts.place disk) (λ disk journal records is. is.place)
      disks journals found are))

module _ {D : Type 0} (facts : DiskFacts D) where
  pub opened_open : (disks : List D) (journals : List (JournalView D)) (found : List (List (List ℕ))) → InThrees (IsOpenedOn facts) disks journals found
      → AreAllOpen journals
  opened_open [] [] found are = tt
  opened_open [] (j ∷ journals) found are = absurd are
  opened_open (disk ∷ disks) [] found are = absurd are
  opened_open (disk ∷ disks) (j ∷ journals) [] are = absurd are
  opened_open (disk ∷ disks) (j ∷ journals) (r ∷ found) are = (are.0.has.ready, opened_open disks journals found are.1)

  -- the records found are those of the files
  pub opened_records : (disks : List D) (journals : List (JournalView D)) (found : List (List (List ℕ))) → IsTrue facts.tells
      → InThrees (IsOpenedOn facts) disks journals found → HaveRecords (map facts.content disks) found
  opened_records [] [] [] told are = tt
  opened_records [] [] (r ∷ found) told are = absurd are
  opened_records [] (j ∷ journals) found told are = absurd are
  opened_records (disk ∷ disks) [] found told are = absurd are
  opened_records (disk ∷ disks) (j ∷ journals) [] told are = absurd are
  opened_records (disk ∷ disks) (j ∷ journals) (r ∷ found) told are = (are.0.had told, opened_records disks journals found told are.1)

  -- the journals store what the files of nodes did
  pub opened_with : (disks : List D) (journals : List (JournalView D)) (found : List (List (List ℕ))) (nodes : List Held)
      → InThrees (IsOpenedOn facts) disks journals found → AreJournals (map facts.content disks) nodes
      → AreOpenWith facts.tells facts.content journals nodes
  opened_with [] [] [] [] are is = tt
  opened_with [] [] [] (h ∷ nodes) are is = absurd is
  opened_with [] [] (r ∷ found) nodes are is = absurd are
  opened_with [] (j ∷ journals) found nodes are is = absurd are
  opened_with (disk ∷ disks) [] found nodes are is = absurd are
  opened_with (disk ∷ disks) (j ∷ journals) [] nodes are is = absurd are
  opened_with (disk ∷ disks) (j ∷ journals) (r ∷ found) [] are is = absurd is
  opened_with (disk ∷ disks) (j ∷ journals) (r ∷ found) (h ∷ nodes) are is = (
    (
      record {
        ready = are.0.has.ready;
        listed = λ told. are.0.has.listed told ∙ one_list (facts.content disk) r (spellings h.kept) (are.0.had told) is.0.stands;
        stands = λ told. (are.0.was.same told).records (spellings h.kept) is.0.stands;
      },
      is.0.readable,
    ),
    opened_with disks journals found nodes are.1 is.1,
  )

  -- a crash in the meantime left these, too
  pub opened_leave : (disks : List D) (journals : List (JournalView D)) (found : List (List (List ℕ))) (nodes : List Held) → IsTrue facts.tells
      → InThrees (IsOpenedOn facts) disks journals found → AreJournals (map facts.content disks) nodes
      → LeaveSuch facts.moment facts.left_at (λ at file. Stands file (spellings (journal_at nodes at))) disks (disks_of journals)
  opened_leave disks journals found nodes told are is =
      leave_kept facts disks (disks_of journals) nodes told (opened_as_were facts disks journals found are) is

  -- HANDED BACK

  pub record IsBack (before after : D) : Type 0 where
    pub was : IsAsItWas facts before after
    pub later : facts.fault_count before ≤ facts.fault_count after
    pub place : facts.place after ≡ facts.place before

  back_alone : (disks : List D) → InPairs IsBack disks disks
  back_alone [] = tt
  back_alone (disk ∷ disks) = (record { was = is_alone facts disk; later = omega arith; place = refl }, back_alone disks)

  back_stopped : (done others : List D) (journals : List (JournalView D)) (found : List (List (List ℕ))) (disk back : D) (status : Status)
      → InThrees (IsOpenedOn facts) done journals found → IsUnopened facts status disk back
      → InPairs IsBack (done ++ disk ∷ others) (disks_of journals ++ back ∷ others)
  back_stopped [] others [] found disk back status are u = (record { was = u.was; later = u.later; place = u.place }, back_alone others)
  back_stopped [] others (j ∷ journals) found disk back status are u = absurd are
  back_stopped (d ∷ done) others [] found disk back status are u = absurd are
  back_stopped (d ∷ done) others (j ∷ journals) [] disk back status are u = absurd are
  back_stopped (d ∷ done) others (j ∷ journals) (r ∷ found) disk back status are u = (
    record { was = are.0.was; later = omega (arith, are.0.calm); place = are.0.place },
    back_stopped done others journals found disk back status are.1 u,
  )

  pub back_pairs : (status : Status) (before after : List D) → AreUnopened facts status before after → InPairs IsBack before after
  back_pairs status before after (inl (memory, same)) = subst (λ (ds : List D). InPairs IsBack before ds) (sym same) (back_alone before)
  back_pairs status before after (inr s) =
      subst (λ (ds : List D). InPairs IsBack ds after) (sym s.were)
      (subst (λ (ds : List D). InPairs IsBack (s.done ++ s.disk ∷ s.others) ds) (sym s.are)
      (back_stopped s.done s.others s.journals s.found s.disk s.back status s.opened s.unopened))

  back_were : (before after : List D) → InPairs IsBack before after → AreAsTheyWere facts before after
  back_were [] [] are = tt
  back_were [] (b ∷ ys) are = absurd are
  back_were (a ∷ xs) [] are = absurd are
  back_were (a ∷ xs) (b ∷ ys) are = (are.0.was, back_were xs ys are.1)

  back_later : (before after : List D) → InPairs IsBack before after → NoneFell (map facts.fault_count before) (map facts.fault_count after)
  back_later [] [] are = tt
  back_later [] (b ∷ ys) are = absurd are
  back_later (a ∷ xs) [] are = absurd are
  back_later (a ∷ xs) (b ∷ ys) are = (are.0.later, back_later xs ys are.1)

  back_places : (before after : List D) → InPairs IsBack before after → map facts.place after ≡ map facts.place before
  back_places [] [] are = refl
  back_places [] (b ∷ ys) are = absurd are
  back_places (a ∷ xs) [] are = absurd are
  back_places (a ∷ xs) (b ∷ ys) are =
      ap (λ (place : List ℕ). place ∷ map facts.place ys) are.0.place
      ∙ ap (λ (places : List (List ℕ)). facts.place a ∷ places) (back_places xs ys are.1)

  rose_stopped : (failed : Type 0) (done others : List D) (journals : List (JournalView D)) (found : List (List (List ℕ))) (disk back : D)
      → InThrees (IsOpenedOn facts) done journals found → RoseWhere failed (facts.fault_count disk) (facts.fault_count back)
      → OneRoseWhere failed (map facts.fault_count (done ++ disk ∷ others)) (map facts.fault_count (disks_of journals ++ back ∷ others))
  rose_stopped failed [] others [] found disk back are rose =
      ((λ is. inl (rose.0 is)), (λ never. ap (λ (n : ℕ). n ∷ map facts.fault_count others) (rose.1 never)))
  rose_stopped failed [] others (j ∷ journals) found disk back are rose = absurd are
  rose_stopped failed (d ∷ done) others [] found disk back are rose = absurd are
  rose_stopped failed (d ∷ done) others (j ∷ journals) [] disk back are rose = absurd are
  rose_stopped failed (d ∷ done) others (j ∷ journals) (r ∷ found) disk back are rose =
      let rest = rose_stopped failed done others journals found disk back are.1 rose in (
        (λ is. inr (rest.0 is)),
        (λ never. ap (λ (n : ℕ). n ∷ map facts.fault_count (disks_of journals ++ back ∷ others)) are.0.calm
            ∙ ap (λ (ns : List ℕ). facts.fault_count d ∷ ns) (rest.1 never)),
      )

  damaged_there : (done others : List D) (disk : D) (offset : ℕ) → IsDamaged (facts.content disk) offset
      → SomeDamaged (map facts.content (done ++ disk ∷ others))
  damaged_there [] others disk offset damaged = record { at = zero; offset = offset; file = facts.content disk; here = refl; damaged = damaged }
  damaged_there (d ∷ done) others disk offset damaged =
      let there = damaged_there done others disk offset damaged in
      record { at = suc there.at; offset = there.offset; file = there.file; here = there.here; damaged = there.damaged }

  -- what is said of disks that are back
  module _ (status : Status) (before after : List D) (are : AreUnopened facts status before after) where
    pub unopened_as_were : AreAsTheyWere facts before after
    unopened_as_were = back_were before after (back_pairs status before after are)

    pub unopened_later : NoneFell (map facts.fault_count before) (map facts.fault_count after)
    unopened_later = back_later before after (back_pairs status before after are)

    pub unopened_places : map facts.place after ≡ map facts.place before
    unopened_places = back_places before after (back_pairs status before after are)

    pub unopened_len : length after ≡ length before
    unopened_len = pairs_len IsBack before after (back_pairs status before after are)

    pub unopened_journals : (nodes : List Held) → IsTrue facts.tells → AreJournals (map facts.content before) nodes
        → AreJournals (map facts.content after) nodes
    unopened_journals nodes told is = still_journals facts before after nodes told unopened_as_were is

    pub unopened_leave : (nodes : List Held) → IsTrue facts.tells → AreJournals (map facts.content before) nodes
        → LeaveSuch facts.moment facts.left_at (λ at file. Stands file (spellings (journal_at nodes at))) before after
    unopened_leave nodes told is = leave_kept facts before after nodes told unopened_as_were is

  pub unopened_stops : (status : Status) (before after : List D) → AreUnopened facts status before after → StopsOpening status
  unopened_stops status before after (inl (memory, same)) = subst (λ (s : Status). StopsOpening s) (sym memory) at_opening_memory
  unopened_stops status before after (inr s) = s.unopened.stops

  pub unopened_fault : (status : Status) (before after : List D) → AreUnopened facts status before after
      → OneRoseWhere (status ≡ statuses.DiskFailed) (map facts.fault_count before) (map facts.fault_count after)
  unopened_fault status before after (inl (memory, same)) =
      all_still (status ≡ statuses.DiskFailed) (map facts.fault_count before) (map facts.fault_count after)
      (λ is. let clash : statuses.OutOfMemory ≡ statuses.DiskFailed = sym memory ∙ is in cc) (ap (λ (ds : List D). map facts.fault_count ds) same)
  unopened_fault status before after (inr s) =
      subst (λ (ds : List D). OneRoseWhere (status ≡ statuses.DiskFailed) (map facts.fault_count ds) (map facts.fault_count after)) (sym s.were)
      (subst (λ (ds : List D). OneRoseWhere (status ≡ statuses.DiskFailed) (map facts.fault_count (s.done ++ s.disk ∷ s.others))
      (map facts.fault_count ds)) (sym s.are)
      (rose_stopped (status ≡ statuses.DiskFailed) s.done s.others s.journals s.found s.disk s.back s.opened s.unopened.fault))

  -- one of the files was damaged
  pub unopened_damaged : (status : Status) (before after : List D) → AreUnopened facts status before after → status ≡ statuses.DamagedJournal
      → IsTrue facts.tells → SomeDamaged (map facts.content before)
  unopened_damaged status before after (inl (memory, same)) is told =
      let clash : statuses.OutOfMemory ≡ statuses.DamagedJournal = sym memory ∙ is in absurd cc
  unopened_damaged status before after (inr s) is told =
      let damaged = s.unopened.damaged is told in
      subst (λ (ds : List D). SomeDamaged (map facts.content ds)) (sym s.were) (damaged_there s.done s.others s.disk damaged.0 damaged.1)

  pub unopened_refused : (others : ℕ) (status : Status) (before after : List D) → AreUnopened facts status before after → status ≡ statuses.DamagedJournal
      → IsTrue facts.tells → AreRefused others (map facts.content before)
  unopened_refused others status before after are is told =
      let d = unopened_damaged status before after are is told in
      by_damage d.at d.offset d.file d.here d.damaged

  -- which none is where they are the journals of nodes
  pub unopened_undamaged : (status : Status) (before after : List D) (nodes : List Held) → AreUnopened facts status before after → IsTrue facts.tells
      → AreJournals (map facts.content before) nodes → status ≢ statuses.DamagedJournal
  unopened_undamaged status before after nodes are told journals is =
      none_damaged (map facts.content before) nodes journals (unopened_damaged status before after are is told)
