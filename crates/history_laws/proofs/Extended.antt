-- Where each of several journals goes on, the merged entries are those of before, with new ones among them.
use Rattle.std.proofs.Common.{◌≡◌, ◌≢◌, ◌⊎◌, inl, inr, ℕ, ◌<◌, List, [], ◌∷◌, ◌++◌, refl, sym, subst, ◌∙◌}
use Rattle.std.specs.Prelude.{Bool, true, false, if◌then◌else◌}
use Rattle.std.specs.List.{AllByRecursion}
use Rattle.history_model.specs.History.{Entry, IsBefore, IsIn}
use Rattle.history_model.proofs.Lists.{all_weaken, all_at, all_from, in_first, in_later, in_cons}
use Rattle.history_laws.specs.Merged.{precedes, placed, merged_with, merged, IsRising, AreJournalsOf}
use Rattle.history_laws.specs.Extended.{Extends, extends_none, entry_kept, entry_comes, GoOn}
use Rattle.history_laws.proofs.Placed.{AreOrdered, precedes_before, one_way, before_both, after_it, all_placed, first_placed}
use Rattle.history_laws.proofs.Merging.{all_with, all_merged, rising_with, other_shards, ordered_with, rising_merged}

module _ (New : Entry → Type 0) where
  pub stays : (old new : List Entry) (e : Entry) → Extends New old new → IsIn e old → IsIn e new
  stays _ _ e extends_none i = i
  stays _ _ e (entry_kept d old new more) i = by_first (in_cons e d old i) (λ j. stays old new e more j)
    where
      by_first : (e ≡ d) ⊎ IsIn e old → (IsIn e old → IsIn e new) → IsIn e (d ∷ new)
      by_first (inl same) later = subst (λ (x : Entry). IsIn x (d ∷ new)) (sym same) (in_first d new)
      by_first (inr j) later = in_later e d new (later j)
  stays _ _ e (entry_comes d old new is none more) i = in_later e d new (stays old new e more i)

  -- what holds of all that is there then held of all that was
  all_old : (P : Entry → Type 0) (old new : List Entry) → Extends New old new → AllByRecursion P new → AllByRecursion P old
  all_old P old new more all = all_from P old (λ x i. all_at P x new all (stays old new x more i))

  -- an entry that both have, before all others of its shard
  stored_placed : (e : Entry) (old new : List Entry) → Extends New old new → AllByRecursion (λ d. AreOrdered e d) new → IsRising new
      → AllByRecursion (λ (d : Entry). d.shard ≡ e.shard → IsBefore e d) new → Extends New (placed e old) (placed e new)
  stored_placed e _ _ extends_none ordered rising own = entry_kept e [] [] extends_none
  stored_placed e _ _ (entry_kept d old new more) ordered rising own =
      by_test (precedes d e) (stored_placed e old new more ordered.1 rising.1 own.1)
    where
      by_test : (first : Bool) → Extends New (placed e old) (placed e new)
          → Extends New (if first then d ∷ placed e old else e ∷ d ∷ old) (if first then d ∷ placed e new else e ∷ d ∷ new)
      by_test true rest = entry_kept d (placed e old) (placed e new) rest
      by_test false rest = entry_kept e (d ∷ old) (d ∷ new) (entry_kept d old new more)
  stored_placed e _ _ (entry_comes d old new is none more) ordered rising own =
      by_test (precedes d e) refl (stored_placed e old new more ordered.1 rising.1 own.1)
    where
      by_test : (first : Bool) → precedes d e ≡ first → Extends New (placed e old) (placed e new)
          → Extends New (placed e old) (if first then d ∷ placed e new else e ∷ d ∷ new)
      by_test true h rest =
          entry_comes d (placed e old) (placed e new) is
          (all_placed (λ (x : Entry). x.shard ≢ d.shard) e old (λ same. one_way e d (own.0 (sym same)) (precedes_before d e h)) none) rest
      by_test false h rest =
          let less : IsBefore e d = after_it d e h ordered.0 in
          let after : AllByRecursion (λ x. IsBefore e x) new =
          all_weaken (λ (x : Entry). IsBefore d x) (λ (x : Entry). IsBefore e x) new (λ x more. before_both e d x less more) rising.0 in
          subst (λ l. Extends New l (e ∷ d ∷ new)) (sym (first_placed e old (all_old (λ x. IsBefore e x) old new more after)))
          (entry_kept e old (d ∷ new) (entry_comes d old new is none more))

  -- a new entry
  new_placed : (e : Entry) (old new : List Entry) → New e → AllByRecursion (λ (d : Entry). d.shard ≢ e.shard) old → Extends New old new
      → Extends New old (placed e new)
  new_placed e _ _ is none extends_none = entry_comes e [] [] is tt extends_none
  new_placed e _ _ is none (entry_kept d old new more) = by_test (precedes d e) (new_placed e old new is none.1 more)
    where
      by_test : (first : Bool) → Extends New old (placed e new) → Extends New (d ∷ old) (if first then d ∷ placed e new else e ∷ d ∷ new)
      by_test true rest = entry_kept d old (placed e new) rest
      by_test false rest = entry_comes e (d ∷ old) (d ∷ new) is none (entry_kept d old new more)
  new_placed e _ _ is none (entry_comes d old new is_d none_d more) = by_test (precedes d e) (new_placed e old new is none more)
    where
      by_test : (first : Bool) → Extends New old (placed e new) → Extends New old (if first then d ∷ placed e new else e ∷ d ∷ new)
      by_test true rest = entry_comes d old (placed e new) is_d none_d rest
      by_test false rest = entry_comes e old (d ∷ new) is none (entry_comes d old new is_d none_d more)

  -- a journal that goes on, among others that do
  new_with : (shard : ℕ) (more old new : List Entry) → AllByRecursion (λ (e : Entry). e.shard ≡ shard) more → AllByRecursion New more
      → AllByRecursion (λ (d : Entry). d.shard ≢ shard) old → Extends New old new → Extends New old (merged_with more new)
  new_with shard [] old new own all other extends = extends
  new_with shard (e ∷ more) old new own all other extends =
      new_placed e old (merged_with more new) all.0
      (all_weaken (λ (d : Entry). d.shard ≢ shard) (λ (d : Entry). d.shard ≢ e.shard) old (λ d apart same. apart (same ∙ own.0)) other)
      (new_with shard more old new own.1 all.1 other extends)

  with_extends : (shard : ℕ) (journal more old new : List Entry) → AllByRecursion (λ (e : Entry). e.shard ≡ shard) (journal ++ more)
      → IsRising (journal ++ more) → AllByRecursion New more
      → AllByRecursion (λ (d : Entry). d.shard ≢ shard) new → IsRising new → Extends New old new
      → Extends New (merged_with journal old) (merged_with (journal ++ more) new)
  with_extends shard [] more old new own rising all other rises extends =
      new_with shard more old new own all (all_old (λ (d : Entry). d.shard ≢ shard) old new extends other) extends
  with_extends shard (d ∷ journal) more old new own rising all other rises extends =
      stored_placed d (merged_with journal old) (merged_with (journal ++ more) new)
      (with_extends shard journal more old new own.1 rising.1 all other rises extends)
      (all_with (λ x. AreOrdered d x) (journal ++ more) new
      (all_weaken (λ x. IsBefore d x) (λ x. AreOrdered d x) (journal ++ more) (λ x less. inl less) rising.0)
      (ordered_with shard (d ∷ []) new (own.0, tt) other).0)
      (rising_with (journal ++ more) new rising.1 rises (ordered_with shard (journal ++ more) new own.1 other))
      (all_with (λ (x : Entry). x.shard ≡ d.shard → IsBefore d x) (journal ++ more) new
      (all_weaken (λ x. IsBefore d x) (λ (x : Entry). x.shard ≡ d.shard → IsBefore d x) (journal ++ more) (λ x less same. less) rising.0)
      (all_weaken (λ (x : Entry). x.shard ≢ shard) (λ (x : Entry). x.shard ≡ d.shard → IsBefore d x) new
      (λ x apart same. absurd (apart (same ∙ own.0))) other))

pub merged_extends : (New : Entry → Type 0) (shards : List ℕ) (journals laters : List (List Entry)) → GoOn New journals laters → AreJournalsOf shards laters
    → Extends New (merged journals) (merged laters)
merged_extends New shards [] [] on are = extends_none
merged_extends New shards [] (later ∷ laters) on are = absurd on
merged_extends New shards (journal ∷ journals) [] on are = absurd on
merged_extends New [] (journal ∷ journals) (later ∷ laters) on are = absurd are
merged_extends New (shard ∷ shards) (journal ∷ journals) (later ∷ laters) ((more, same, all), on) are =
    subst (λ l. Extends New (merged_with journal (merged journals)) (merged_with l (merged laters))) (sym same)
    (with_extends New shard journal more (merged journals) (merged laters)
    (subst (λ l. AllByRecursion (λ (e : Entry). e.shard ≡ shard) l) same are.0.own)
    (subst (λ l. IsRising l) same are.0.rising) all
    (all_merged (λ (e : Entry). e.shard ≢ shard) laters (other_shards shard shards laters are.2 are.1))
    (rising_merged shards laters are.2) (merged_extends New shards journals laters on are.2))

-- where each is above the bound of its shard
pub go_on : (bound : ℕ → ℕ) (shards : List ℕ) (journals laters : List (List Entry)) → GoOn (λ e. bound e.shard < e.time) journals laters
    → AreJournalsOf shards laters → Extends (λ e. bound e.shard < e.time) (merged journals) (merged laters)
go_on bound shards journals laters on are = merged_extends (λ e. bound e.shard < e.time) shards journals laters on are
