-- Entries that rise are a legal history where those of each key are one, and each without a key is one alone.
use Rattle.std.proofs.Common.{◌≡◌, ℕ, List, [], ◌∷◌, ◌++◌, refl, sym, ap, subst, ◌∙◌}
use Rattle.std.specs.Prelude.{Bool, true, false, Option, Some, None, if◌then◌else◌, filter}
use Rattle.std.specs.Str.{bytes_eq}
use Rattle.std.proofs.lemmas.List.Elements.{filter-append}
use Rattle.std.proofs.lemmas.Slice.Eq.{bytes_eq-Decides}
use Rattle.bson_model.specs.Tree.{Datum}
use Rattle.bson_model.proofs.Booleans.{both, is_false}
use Rattle.value_model.proofs.Spans.{same_value_equivalence}
use Rattle.query_model.specs.Edits.{same_key}
use Rattle.history_model.specs.History.{Entry, IsIn, Follows, Legal, key_written, writes_to}
use Rattle.history_model.proofs.LegalHistories.{follows_prefix}
use Rattle.history_laws.specs.Merged.{IsRising}
use Rattle.history_laws.proofs.Documents.{writes_its_own}
use Rattle.history_laws.proofs.MergedLegal.{legal_from, rising_prefix, follows_as}

filter_again : (test : Entry → Bool) (entries : List Entry) → filter test entries ≡ filter test (filter test entries)
filter_again test [] = refl
filter_again test (e ∷ entries) = by_test (test e) refl (filter_again test entries)
  where
    by_test : (kept : Bool) → test e ≡ kept → filter test entries ≡ filter test (filter test entries) →
        (if kept then e ∷ filter test entries else filter test entries) ≡ filter test (if kept then e ∷ filter test entries else filter test entries)
    by_test true is same =
        ap (λ (l : List Entry). e ∷ l) same
        ∙ sym (ap (λ (b : Bool). if b then e ∷ filter test (filter test entries) else filter test (filter test entries)) is)
    by_test false is same = same

none_passes : (test : Entry → Bool) (entries : List Entry) → ((d : Entry) → test d ≡ false) → filter test entries ≡ []
none_passes test [] none = refl
none_passes test (e ∷ entries) none = rw (none e) (none_passes test entries none)

no_key : (key : Option Datum) → key ≡ None → same_key key key ≡ true → ⊥
no_key None none same = absurd cc
no_key (Some key) none same = cc

a_key : (key : Option Datum) (own : Datum) → key ≡ Some own → same_key key key ≡ true
a_key None own is = absurd cc
a_key (Some key) own is = same_value_equivalence.refl key

module _ (history : List Entry) (rising : IsRising history)
    (keyless : (e : Entry) → IsIn e history → key_written e.operation ≡ None → Legal (e ∷ []))
    (keyed : (namespace : List ℕ) (key : Datum) → Legal (filter (λ e. writes_to namespace (Some key) e) history)) where
  follows_by_key : (prefix back : List Entry) (e : Entry) → history ≡ prefix ++ e ∷ back →
      (key : Option Datum) → key_written e.operation ≡ key → Follows prefix e
  follows_by_key prefix back e is None none =
      follows_as prefix [] e (rising_prefix prefix back e (subst (λ (l : List Entry). IsRising l) is rising)) (none_passes test prefix never)
      (keyless e (prefix, back, is) none).0
    where
      test : Entry → Bool
      test d = writes_to e.namespace (key_written e.operation) d

      never : (d : Entry) → writes_to e.namespace (key_written e.operation) d ≡ false
      never d =
          is_false (writes_to e.namespace (key_written e.operation) d)
          (λ hit. no_key (key_written e.operation) none
          (both (bytes_eq e.namespace e.namespace) (same_key (key_written e.operation) (key_written e.operation)) (writes_its_own e d hit)).1)
  follows_by_key prefix back e is (Some key) some =
      follows_as prefix (filter test prefix) e (rising_prefix prefix back e (subst (λ (l : List Entry). IsRising l) is rising)) (filter_again test prefix)
      (follows_prefix (filter test prefix) (filter test back) e
      (subst (λ (l : List Entry). Legal l) split
      (subst (λ (k : Option Datum). Legal (filter (λ d. writes_to e.namespace k d) history)) (sym some) (keyed e.namespace key))))
    where
      test : Entry → Bool
      test d = writes_to e.namespace (key_written e.operation) d

      own : writes_to e.namespace (key_written e.operation) e ≡ true
      own = rw ((bytes_eq-Decides e.namespace e.namespace).1 refl) (a_key (key_written e.operation) key some)

      split : filter test history ≡ filter test prefix ++ e ∷ filter test back
      split =
          ap (λ (l : List Entry). filter test l) is
          ∙ filter-append test prefix (e ∷ back)
          ∙ ap (λ (b : Bool). filter test prefix ++ (if b then e ∷ filter test back else filter test back)) own

  pub legal_by_keys : Legal history
  legal_by_keys = legal_from [] history (λ prefix back e is. follows_by_key prefix back e is (key_written e.operation) refl)
