-- Legal journals that are apart merge to a legal history: an entry follows those that it followed in its journal, and others do not touch its key.
use Rattle.std.proofs.Common.{◌≡◌, ℕ, List, [], ◌∷◌, ◌++◌, refl, sym, ap, subst, ◌∙◌, append_assoc, append-nil}
use Rattle.std.specs.Prelude.{Bool, true, false, ◌&&◌, Option, if◌then◌else◌, filter}
use Rattle.std.specs.List.{AllByRecursion}
use Rattle.std.proofs.lemmas.Slice.Eq.{bytes_eq-Decides}
use Rattle.bson_model.specs.Tree.{Fields}
use Rattle.bson_model.proofs.Booleans.{is_false}
use Rattle.query_model.specs.Edits.{same_key}
use Rattle.history_model.specs.History.{Entry, IsBefore, IsIn, IsSameStatement, Follows, LegalAfter, Legal, key_written, effect, writes_to}
use Rattle.history_model.proofs.Lists.{all_at, all_filter, in_first, in_prefix, in_back}
use Rattle.history_model.proofs.LegalHistories.{follows_prefix}
use Rattle.history_laws.specs.Merged.{precedes, merged, IsRising, IsJournalOf, AreJournalsOf, AreApart}
use Rattle.history_laws.proofs.Placed.{precedes_before, before_precedes, never_after, one_way}
use Rattle.history_laws.proofs.Merging.{rising_merged, each_rises, in_a_journal}
use Rattle.history_laws.proofs.Documents.{differ, filters_in_turn, same_document, own_writes, written_once, writes_its_own}

-- a history is legal where each entry follows those before it
pub legal_from : (earlier later : List Entry) → ((prefix back : List Entry) (e : Entry) → later ≡ prefix ++ e ∷ back → Follows (earlier ++ prefix) e) →
    LegalAfter earlier later
legal_from earlier [] each = tt
legal_from earlier (e ∷ later) each = (
  subst (λ (l : List Entry). Follows l e) (append-nil earlier) (each [] later e refl),
  legal_from (earlier ++ e ∷ []) later
      (λ prefix back d is. subst (λ (l : List Entry). Follows l d) (sym (append_assoc earlier (e ∷ []) prefix))
      (each (e ∷ prefix) back d (ap (λ (l : List Entry). e ∷ l) is))),
)

-- the entries before one are those that precede it
pub rising_prefix : (prefix back : List Entry) (e : Entry) → IsRising (prefix ++ e ∷ back) → AllByRecursion (λ d. IsBefore d e) prefix
rising_prefix [] back e rising = tt
rising_prefix (d ∷ prefix) back e rising =
    (all_at (λ (x : Entry). IsBefore d x) e (prefix ++ e ∷ back) rising.0 (prefix, back, refl), rising_prefix prefix back e rising.1)

not_itself : (e : Entry) → precedes e e ≡ false
not_itself e = is_false (precedes e e) (λ first. let less = precedes_before e e first in one_way e e less less)

none_precede : (e : Entry) (back : List Entry) → AllByRecursion (λ d. IsBefore e d) back → filter (λ d. precedes d e) back ≡ []
none_precede e [] all = refl
none_precede e (d ∷ back) all = rw (never_after e d all.0) (none_precede e back all.1)

prefix_kept : (prefix back : List Entry) (e : Entry) → IsRising (prefix ++ e ∷ back) → filter (λ d. precedes d e) (prefix ++ e ∷ back) ≡ prefix
prefix_kept [] back e rising = rw (not_itself e) (none_precede e back rising.0)
prefix_kept (d ∷ prefix) back e rising =
    rw (before_precedes d e (all_at (λ (x : Entry). IsBefore d x) e (prefix ++ e ∷ back) rising.0 (prefix, back, refl)))
    (ap (λ (l : List Entry). d ∷ l) (prefix_kept prefix back e rising.1))

-- what holds of each entry that passes, and of each that does not
all_unfilter : (P : Entry → Type 0) (test : Entry → Bool) (entries : List Entry) → ((d : Entry) → test d ≡ false → P d) →
    AllByRecursion P (filter test entries) → AllByRecursion P entries
all_unfilter P test [] others all = tt
all_unfilter P test (e ∷ entries) others all = by_test (test e) refl all (λ passed. all_unfilter P test entries others passed)
  where
    by_test : (kept : Bool) → test e ≡ kept → AllByRecursion P (if kept then e ∷ filter test entries else filter test entries) →
        (AllByRecursion P (filter test entries) → AllByRecursion P entries) → P e × AllByRecursion P entries
    by_test true is passed rest = (passed.0, rest passed.1)
    by_test false is passed rest = (others e is, rest passed)

not_same : (d e : Entry) → writes_to e.namespace (key_written e.operation) d ≡ false → ¬ IsSameStatement d e
not_same d e other same =
    differ (writes_to e.namespace (key_written e.operation) d) other
    (ap (λ (b : Bool). b && same_key (key_written d.operation) (key_written e.operation))
    ((bytes_eq-Decides d.namespace e.namespace).1 same.namespace) ∙ same.key)

-- an entry that follows some follows others with the same writes of its key
pub follows_as : (prefix own : List Entry) (e : Entry) → AllByRecursion (λ d. IsBefore d e) prefix →
    filter (λ d. writes_to e.namespace (key_written e.operation) d) prefix ≡ filter (λ d. writes_to e.namespace (key_written e.operation) d) own →
    Follows own e → Follows prefix e
follows_as prefix own e rises same follows = record {
  rises = rises;
  told = follows.told
      ∙ ap (λ (before : Option Fields). (effect e.operation before).1) (same_document e.namespace (key_written e.operation) own prefix (sym same));
  once = all_unfilter (λ (d : Entry). ¬ IsSameStatement d e) (λ (d : Entry). writes_to e.namespace (key_written e.operation) d) prefix
      (λ d other. not_same d e other)
      (subst (λ (l : List Entry). AllByRecursion (λ d. ¬ IsSameStatement d e) l) (sym same)
      (all_filter (λ (d : Entry). ¬ IsSameStatement d e) (λ (d : Entry). writes_to e.namespace (key_written e.operation) d) own follows.once));
}

module _ (shards : List ℕ) (journals : List (List Entry)) (are : AreJournalsOf shards journals) (legal : AllByRecursion Legal journals)
    (apart : AreApart journals) where
  follows_here : (prefix back : List Entry) (e : Entry) → merged journals ≡ prefix ++ e ∷ back →
      (before after : List (List Entry)) (own more : List Entry) → journals ≡ before ++ (own ++ e ∷ more) ∷ after → Follows prefix e
  follows_here prefix back e is before after own more split =
      follows_as prefix own e (rising_prefix prefix back e rising) same (follows_prefix own more e (all_at Legal journal journals legal at))
    where
      journal : List Entry
      journal = own ++ e ∷ more

      at : IsIn journal journals
      at = (before, after, split)

      rising : IsRising (prefix ++ e ∷ back)
      rising = subst (λ (l : List Entry). IsRising l) is (rising_merged shards journals are)

      own_rising : IsRising (own ++ e ∷ more)
      own_rising = all_at IsRising journal journals (each_rises shards journals are) at

      test : Entry → Bool
      test d = writes_to e.namespace (key_written e.operation) d

      writes : filter test (prefix ++ e ∷ back) ≡ filter test (own ++ e ∷ more)
      writes =
          ap (λ (l : List Entry). filter test l) (sym is)
          ∙ ap (λ (l : List (List Entry)). filter test (merged l)) split
          ∙ own_writes e.namespace (key_written e.operation) before after journal own_rising
          (written_once e.namespace (key_written e.operation) before after journal e (subst (λ (l : List (List Entry)). AreApart l) split apart)
          (own, more, refl) (λ d hit. writes_its_own e d hit))

      same : filter test prefix ≡ filter test own
      same =
          ap (λ (l : List Entry). filter test l) (sym (prefix_kept prefix back e rising))
          ∙ filters_in_turn test (λ d. precedes d e) (prefix ++ e ∷ back)
          ∙ ap (λ (l : List Entry). filter (λ d. precedes d e) l) writes
          ∙ sym (filters_in_turn test (λ d. precedes d e) (own ++ e ∷ more))
          ∙ ap (λ (l : List Entry). filter test l) (prefix_kept own more e own_rising)

  pub merged_legal : Legal (merged journals)
  merged_legal =
      legal_from [] (merged journals)
      (λ prefix back e is. by_journal prefix back e is (all_at InOne e (merged journals) (in_a_journal journals) (prefix, back, is)))
    where
      InOne : Entry → Type 0
      InOne x = (journal : List Entry) × IsIn journal journals × IsIn x journal

      by_journal : (prefix back : List Entry) (e : Entry) → merged journals ≡ prefix ++ e ∷ back → InOne e → Follows prefix e
      by_journal prefix back e is (journal, (before, after, split), (own, more, parts)) =
          follows_here prefix back e is before after own more (split ∙ ap (λ (j : List Entry). before ++ j ∷ after) parts)

-- a legal history rises

follow_it : (earlier later : List Entry) (e : Entry) → IsIn e earlier → LegalAfter earlier later → AllByRecursion (λ d. IsBefore e d) later
follow_it earlier [] e i legal = tt
follow_it earlier (d ∷ later) e i legal =
    (all_at (λ (c : Entry). IsBefore c d) e earlier legal.0.rises i, follow_it (earlier ++ d ∷ []) later e (in_prefix e earlier (d ∷ []) i) legal.1)

legal_rises : (earlier later : List Entry) → LegalAfter earlier later → IsRising later
legal_rises earlier [] legal = tt
legal_rises earlier (e ∷ later) legal =
    (follow_it (earlier ++ e ∷ []) later e (in_back e earlier (e ∷ []) (in_first e [])) legal.1, legal_rises (earlier ++ e ∷ []) later legal.1)

pub legal_journal : (shard : ℕ) (journal : List Entry) → AllByRecursion (λ (e : Entry). e.shard ≡ shard) journal → Legal journal → IsJournalOf shard journal
legal_journal shard journal own legal = record { own = own; rising = legal_rises [] journal legal }
