-- The merged entries are those of the journals, and rise.
use Rattle.std.proofs.Common.{◌≡◌, ◌≢◌, ◌⊎◌, inl, inr, ℕ, List, [], ◌∷◌, ◌++◌, refl, sym, ap, subst, ◌∙◌}
use Rattle.std.specs.Prelude.{Bool, true, false, if◌then◌else◌, filter, map}
use Rattle.std.specs.List.{AllByRecursion, flat_map}
use Rattle.std.specs.List.Sorted.{IsPermutation}
use Rattle.std.proofs.lemmas.List.Sorted.{IsPermutation-refl, IsPermutation-sym, IsPermutation-trans, IsPermutation-middle, IsPermutation-cons, IsPermutation-append_right}
use Rattle.history_model.specs.History.{Entry, IsBefore, IsIn}
use Rattle.history_model.proofs.Lists.{all_weaken, all_from, all_at, all_filter, in_later, in_append, in_prefix, in_back}
use Rattle.history_laws.specs.Merged.{placed, merged_with, merged, IsRising, AreJournalsOf, IsOneMore}
use Rattle.history_laws.proofs.Placed.{AreOrdered, all_placed, rising_placed, two_shards, one_more_placed, filter_placed_other, filter_placed_first, filter_placed, first_placed, one_way}

pub all_with : (P : Entry → Type 0) (journal entries : List Entry) → AllByRecursion P journal → AllByRecursion P entries →
    AllByRecursion P (merged_with journal entries)
all_with P [] entries own all = all
all_with P (e ∷ journal) entries own all = all_placed P e (merged_with journal entries) own.0 (all_with P journal entries own.1 all)

pub all_merged : (P : Entry → Type 0) (journals : List (List Entry)) → AllByRecursion (λ journal. AllByRecursion P journal) journals →
    AllByRecursion P (merged journals)
all_merged P [] all = tt
all_merged P (journal ∷ journals) all = all_with P journal (merged journals) all.0 (all_merged P journals all.1)

pub rising_with : (journal entries : List Entry) → IsRising journal → IsRising entries →
    AllByRecursion (λ d. AllByRecursion (λ e. AreOrdered d e) entries) journal → IsRising (merged_with journal entries)
rising_with [] entries own rising ordered = rising
rising_with (d ∷ journal) entries own rising ordered =
    rising_placed d (merged_with journal entries)
    (all_with (λ (e : Entry). AreOrdered d e) journal entries
    (all_weaken (λ (e : Entry). IsBefore d e) (λ (e : Entry). AreOrdered d e) journal (λ e less. inl less) own.0) ordered.0)
    (rising_with journal entries own.1 rising ordered.1)

-- no entry of the journals of other shards is of this shard
pub other_shards : (shard : ℕ) (shards : List ℕ) (journals : List (List Entry)) → AreJournalsOf shards journals →
    AllByRecursion (λ other. other ≢ shard) shards → AllByRecursion (λ journal. AllByRecursion (λ (e : Entry). e.shard ≢ shard) journal) journals
other_shards shard [] [] are others = tt
other_shards shard [] (journal ∷ journals) are others = absurd are
other_shards shard (other ∷ shards) [] are others = tt
other_shards shard (other ∷ shards) (journal ∷ journals) are others = (
  all_weaken (λ (e : Entry). e.shard ≡ other) (λ (e : Entry). e.shard ≢ shard) journal (λ e own same. others.0 (sym own ∙ same)) are.0.own,
  other_shards shard shards journals are.2 others.1,
)

-- the entries of a journal are not those of the others
pub ordered_with : (shard : ℕ) (journal others : List Entry) → AllByRecursion (λ (d : Entry). d.shard ≡ shard) journal →
    AllByRecursion (λ (e : Entry). e.shard ≢ shard) others → AllByRecursion (λ d. AllByRecursion (λ e. AreOrdered d e) others) journal
ordered_with shard journal others own other =
    all_weaken (λ (d : Entry). d.shard ≡ shard) (λ (d : Entry). AllByRecursion (λ e. AreOrdered d e) others) journal
    (λ d is. all_weaken (λ (e : Entry). e.shard ≢ shard) (λ (e : Entry). AreOrdered d e) others (λ e not_it. two_shards d e (λ same. not_it (same ∙ is))) other)
    own

ordered_merged : (shard : ℕ) (shards : List ℕ) (journal : List Entry) (journals : List (List Entry)) → AreJournalsOf (shard ∷ shards) (journal ∷ journals) →
    AllByRecursion (λ d. AllByRecursion (λ e. AreOrdered d e) (merged journals)) journal
ordered_merged shard shards journal journals are =
    ordered_with shard journal (merged journals) are.0.own
    (all_merged (λ (e : Entry). e.shard ≢ shard) journals (other_shards shard shards journals are.2 are.1))

pub rising_merged : (shards : List ℕ) (journals : List (List Entry)) → AreJournalsOf shards journals → IsRising (merged journals)
rising_merged [] [] are = tt
rising_merged [] (journal ∷ journals) are = absurd are
rising_merged (shard ∷ shards) [] are = tt
rising_merged (shard ∷ shards) (journal ∷ journals) are =
    rising_with journal (merged journals) are.0.rising (rising_merged shards journals are.2)
    (ordered_merged shard shards journal journals are)

pub each_rises : (shards : List ℕ) (journals : List (List Entry)) → AreJournalsOf shards journals → AllByRecursion IsRising journals
each_rises [] [] are = tt
each_rises [] (journal ∷ journals) are = absurd are
each_rises (shard ∷ shards) [] are = tt
each_rises (shard ∷ shards) (journal ∷ journals) are = (are.0.rising, each_rises shards journals are.2)

-- what passes is merged from what passes of each journal

kept_with : (test : Entry → Bool) (journal entries : List Entry) → IsRising journal → IsRising entries →
    AllByRecursion (λ d. AllByRecursion (λ e. AreOrdered d e) entries) journal →
    filter test (merged_with journal entries) ≡ merged_with (filter test journal) (filter test entries)
kept_with test [] entries own rising ordered = refl
kept_with test (d ∷ journal) entries own rising ordered = by_test (test d) refl (kept_with test journal entries own.1 rising ordered.1)
  where
    apart : AllByRecursion (λ e. AreOrdered d e) (merged_with journal entries)
    apart =
        all_with (λ (e : Entry). AreOrdered d e) journal entries
        (all_weaken (λ (e : Entry). IsBefore d e) (λ (e : Entry). AreOrdered d e) journal (λ e less. inl less) own.0) ordered.0

    by_test : (kept : Bool) → test d ≡ kept → filter test (merged_with journal entries) ≡ merged_with (filter test journal) (filter test entries) →
        filter test (placed d (merged_with journal entries)) ≡ merged_with (if kept then d ∷ filter test journal else filter test journal) (filter test entries)
    by_test true is same =
        filter_placed test d (merged_with journal entries) is apart (rising_with journal entries own.1 rising ordered.1)
        ∙ ap (λ (l : List Entry). placed d l) same
    by_test false is same = filter_placed_other test d (merged_with journal entries) is ∙ same

pub kept_merged : (test : Entry → Bool) (shards : List ℕ) (journals : List (List Entry)) → AreJournalsOf shards journals →
    filter test (merged journals) ≡ merged (map (λ journal. filter test journal) journals)
kept_merged test [] [] are = refl
kept_merged test [] (journal ∷ journals) are = absurd are
kept_merged test (shard ∷ shards) [] are = refl
kept_merged test (shard ∷ shards) (journal ∷ journals) are =
    kept_with test journal (merged journals) are.0.rising (rising_merged shards journals are.2)
    (ordered_merged shard shards journal journals are)
    ∙ ap (λ (l : List Entry). merged_with (filter test journal) l) (kept_merged test shards journals are.2)

-- a journal that rises, among others that have nothing that passes

none_with : (test : Entry → Bool) (journal entries : List Entry) → AllByRecursion (λ e. test e ≡ false) journal →
    filter test (merged_with journal entries) ≡ filter test entries
none_with test [] entries none = refl
none_with test (e ∷ journal) entries none = filter_placed_other test e (merged_with journal entries) none.0 ∙ none_with test journal entries none.1

none_merged : (test : Entry → Bool) (journals : List (List Entry)) → AllByRecursion (λ journal. AllByRecursion (λ e. test e ≡ false) journal) journals →
    filter test (merged journals) ≡ []
none_merged test [] none = refl
none_merged test (journal ∷ journals) none = none_with test journal (merged journals) none.0 ∙ none_merged test journals none.1

own_with : (test : Entry → Bool) (journal entries : List Entry) → IsRising journal → filter test entries ≡ [] →
    filter test (merged_with journal entries) ≡ filter test journal
own_with test [] entries rising none = none
own_with test (e ∷ journal) entries rising none = by_test (test e) refl (own_with test journal entries rising.1 none)
  where
    by_test : (kept : Bool) → test e ≡ kept → filter test (merged_with journal entries) ≡ filter test journal →
        filter test (placed e (merged_with journal entries)) ≡ (if kept then e ∷ filter test journal else filter test journal)
    by_test true is same =
        filter_placed_first test e (merged_with journal entries) is
        (subst (λ (l : List Entry). AllByRecursion (λ d. ¬ IsBefore d e) l) (sym same)
        (all_filter (λ (d : Entry). ¬ IsBefore d e) test journal
        (all_weaken (λ (d : Entry). IsBefore e d) (λ (d : Entry). ¬ IsBefore d e) journal (λ d less more. one_way e d less more) rising.0)))
        ∙ ap (λ (l : List Entry). e ∷ l) same
    by_test false is same = filter_placed_other test e (merged_with journal entries) is ∙ same

pub own_merged : (test : Entry → Bool) (before after : List (List Entry)) (journal : List Entry) → IsRising journal →
    AllByRecursion (λ other. AllByRecursion (λ e. test e ≡ false) other) (before ++ after) →
    filter test (merged (before ++ journal ∷ after)) ≡ filter test journal
own_merged test [] after journal rising none = own_with test journal (merged after) rising (none_merged test after none)
own_merged test (other ∷ before) after journal rising none =
    none_with test other (merged (before ++ journal ∷ after)) none.0 ∙ own_merged test before after journal rising none.1

-- alone

pub one_alone : (journal : List Entry) → IsRising journal → merged (journal ∷ []) ≡ journal
one_alone [] rising = refl
one_alone (e ∷ journal) rising = rw (one_alone journal rising.1) (first_placed e journal rising.0)

-- the same entries, as often

placed_permutes : (e : Entry) (entries : List Entry) → IsPermutation (e ∷ entries) (placed e entries)
placed_permutes e entries = by_parts (one_more_placed e entries)
  where
    by_parts : IsOneMore e entries (placed e entries) → IsPermutation (e ∷ entries) (placed e entries)
    by_parts (prefix, back, was, is) =
        subst (λ (l : List Entry). IsPermutation (e ∷ entries) l) (sym is)
        (subst (λ (l : List Entry). IsPermutation (e ∷ l) (prefix ++ e ∷ back)) (sym was)
        (IsPermutation-sym (prefix ++ e ∷ back) (e ∷ (prefix ++ back)) (IsPermutation-middle prefix e back)))

with_permutes : (journal entries : List Entry) → IsPermutation (journal ++ entries) (merged_with journal entries)
with_permutes [] entries = IsPermutation-refl entries
with_permutes (e ∷ journal) entries =
    IsPermutation-trans (e ∷ (journal ++ entries)) (e ∷ merged_with journal entries) (placed e (merged_with journal entries))
    (IsPermutation-cons e (journal ++ entries) (merged_with journal entries) (with_permutes journal entries)) (placed_permutes e (merged_with journal entries))

pub merged_permutes : (journals : List (List Entry)) → IsPermutation (flat_map (λ journal. journal) journals) (merged journals)
merged_permutes [] = IsPermutation-refl []
merged_permutes (journal ∷ journals) =
    IsPermutation-trans (journal ++ flat_map (λ (j : List Entry). j) journals) (journal ++ merged journals) (merged_with journal (merged journals))
    (IsPermutation-append_right journal (flat_map (λ (j : List Entry). j) journals) (merged journals) (merged_permutes journals))
    (with_permutes journal (merged journals))

-- members

pub stays : (e x : Entry) (before after : List Entry) → IsOneMore e before after → IsIn x before → IsIn x after
stays e x before after (prefix, back, was, is) i =
    subst (λ (l : List Entry). IsIn x l) (sym is) (by_part (in_append x prefix back (subst (λ (l : List Entry). IsIn x l) was i)))
  where
    by_part : IsIn x prefix ⊎ IsIn x back → IsIn x (prefix ++ e ∷ back)
    by_part (inl i) = in_prefix x prefix (e ∷ back) i
    by_part (inr i) = in_back x prefix (e ∷ back) (in_later x e back i)

in_placed : (e : Entry) (entries : List Entry) → IsIn e (placed e entries)
in_placed e entries = let more = one_more_placed e entries in (more.0, more.1, more.3)

in_with_others : (x : Entry) (journal entries : List Entry) → IsIn x entries → IsIn x (merged_with journal entries)
in_with_others x [] entries i = i
in_with_others x (e ∷ journal) entries i =
    stays e x (merged_with journal entries) (placed e (merged_with journal entries)) (one_more_placed e (merged_with journal entries))
    (in_with_others x journal entries i)

in_with : (entries journal : List Entry) → AllByRecursion (λ x. IsIn x (merged_with journal entries)) journal
in_with entries [] = tt
in_with entries (e ∷ journal) = (
  in_placed e (merged_with journal entries),
  all_weaken (λ (x : Entry). IsIn x (merged_with journal entries)) (λ (x : Entry). IsIn x (placed e (merged_with journal entries))) journal
      (λ x i. stays e x (merged_with journal entries) (placed e (merged_with journal entries)) (one_more_placed e (merged_with journal entries)) i)
      (in_with entries journal),
)

-- each entry of a journal is in the merged list
pub in_merged : (x : Entry) (journal : List Entry) (before after : List (List Entry)) → IsIn x journal → IsIn x (merged (before ++ journal ∷ after))
in_merged x journal [] after i = all_at (λ (y : Entry). IsIn y (merged_with journal (merged after))) x journal (in_with (merged after) journal) i
in_merged x journal (other ∷ before) after i = in_with_others x other (merged (before ++ journal ∷ after)) (in_merged x journal before after i)

-- and each of the merged list in a journal
pub in_a_journal : (journals : List (List Entry)) → AllByRecursion (λ x. (journal : List Entry) × IsIn journal journals × IsIn x journal) (merged journals)
in_a_journal journals =
    all_merged (λ (x : Entry). (journal : List Entry) × IsIn journal journals × IsIn x journal) journals
    (all_from (λ (journal : List Entry). AllByRecursion (λ x. (own : List Entry) × IsIn own journals × IsIn x own) journal) journals
    (λ journal i. all_from (λ (x : Entry). (own : List Entry) × IsIn own journals × IsIn x own) journal (λ x j. (journal, i, j))))
