-- The document under a key depends on the entries that write it alone.
use Rattle.std.proofs.Common.{◌≡◌, ℕ, List, [], ◌∷◌, ◌++◌, refl, sym, ap, ◌∙◌}
use Rattle.std.specs.Prelude.{Bool, true, false, Option, Some, None, if◌then◌else◌, filter, nat_le}
use Rattle.std.specs.List.{AllByRecursion}
use Rattle.std.specs.Str.{bytes_eq}
use Rattle.std.proofs.lemmas.Slice.Eq.{bytes_eq-Decides}
use Rattle.bson_model.specs.Tree.{Datum, Fields}
use Rattle.bson_model.proofs.Booleans.{both, is_false}
use Rattle.value_model.proofs.Spans.{same_value_equivalence}
use Rattle.query_model.specs.Edits.{same_key}
use Rattle.history_model.specs.History.{Entry, IsIn, key_written, effect, writes_to, document_after, document_left, document_at}
use Rattle.history_model.proofs.Lists.{all_at, all_from, all_weaken}
use Rattle.history_model.proofs.LegalHistories.{same_writes}
use Rattle.history_laws.specs.Merged.{merged, IsRising, ShareNoKey, AreApart, WriteNone}
use Rattle.history_laws.proofs.Merging.{own_merged}

pub differ : (b : Bool) → b ≡ false → b ≡ true → ⊥
differ true p q = cc
differ false p q = cc

pub filters_in_turn : (f g : Entry → Bool) (entries : List Entry) → filter f (filter g entries) ≡ filter g (filter f entries)
filters_in_turn f g [] = refl
filters_in_turn f g (e ∷ entries) = by_tests (f e) refl (g e) refl (filters_in_turn f g entries)
  where
    by_tests : (a : Bool) → f e ≡ a → (b : Bool) → g e ≡ b → filter f (filter g entries) ≡ filter g (filter f entries) →
        filter f (if b then e ∷ filter g entries else filter g entries) ≡ filter g (if a then e ∷ filter f entries else filter f entries)
    by_tests true p true q same = rw (p, q) (ap (λ (l : List Entry). e ∷ l) same)
    by_tests true p false q same = rw q same
    by_tests false p true q same = rw p same
    by_tests false p false q same = same

after_hit : (namespace : List ℕ) (key : Option Datum) (before : Option Fields) (e : Entry) (entries : List Entry) → writes_to namespace key e ≡ true →
    document_after namespace key before (e ∷ entries) ≡ document_after namespace key (effect e.operation before).0 entries
after_hit namespace key before e entries is = rw is refl

after_filter : (namespace : List ℕ) (key : Option Datum) (before : Option Fields) (entries : List Entry) →
    document_after namespace key before entries ≡ document_after namespace key before (filter (λ e. writes_to namespace key e) entries)
after_filter namespace key before [] = refl
after_filter namespace key before (e ∷ entries) = by_test (writes_to namespace key e) refl (λ document. after_filter namespace key document entries)
  where
    by_test : (hit : Bool) → writes_to namespace key e ≡ hit →
        ((document : Option Fields) → document_after namespace key document entries
        ≡ document_after namespace key document (filter (λ d. writes_to namespace key d) entries)) →
        document_after namespace key (if hit then (effect e.operation before).0 else before) entries
        ≡ document_after namespace key before
        (if hit then e ∷ filter (λ d. writes_to namespace key d) entries else filter (λ d. writes_to namespace key d) entries)
    by_test true is rest = rest (effect e.operation before).0 ∙ sym (after_hit namespace key before e (filter (λ d. writes_to namespace key d) entries) is)
    by_test false is rest = rest before

-- lists with the same writes of a key have the same document under it
pub same_document : (namespace : List ℕ) (key : Option Datum) (a b : List Entry) →
    filter (λ e. writes_to namespace key e) a ≡ filter (λ e. writes_to namespace key e) b → document_left namespace key a ≡ document_left namespace key b
same_document namespace key a b same =
    after_filter namespace key None a ∙ ap (λ (l : List Entry). document_after namespace key None l) same ∙ sym (after_filter namespace key None b)

pub same_document_at : (namespace : List ℕ) (key : Option Datum) (time : ℕ) (a b : List Entry) →
    filter (λ e. writes_to namespace key e) a ≡ filter (λ e. writes_to namespace key e) b → document_at a namespace key time ≡ document_at b namespace key time
same_document_at namespace key time a b same =
    same_document namespace key (filter (λ (e : Entry). nat_le e.time time) a) (filter (λ (e : Entry). nat_le e.time time) b)
    (filters_in_turn (λ (e : Entry). writes_to namespace key e) (λ (e : Entry). nat_le e.time time) a
    ∙ ap (λ (l : List Entry). filter (λ (e : Entry). nat_le e.time time) l) same
    ∙ sym (filters_in_turn (λ (e : Entry). writes_to namespace key e) (λ (e : Entry). nat_le e.time time) b))

-- the merged entries that write a key are those of the journal that has it
pub own_writes : (namespace : List ℕ) (key : Option Datum) (before after : List (List Entry)) (journal : List Entry) → IsRising journal →
    WriteNone namespace key (before ++ after) →
    filter (λ e. writes_to namespace key e) (merged (before ++ journal ∷ after)) ≡ filter (λ e. writes_to namespace key e) journal
own_writes namespace key before after journal rising none = own_merged (λ (e : Entry). writes_to namespace key e) before after journal rising none

pub own_document : (namespace : List ℕ) (key : Option Datum) (time : ℕ) (before after : List (List Entry)) (journal : List Entry) → IsRising journal →
    WriteNone namespace key (before ++ after) →
    document_at (merged (before ++ journal ∷ after)) namespace key time ≡ document_at journal namespace key time
own_document namespace key time before after journal rising none =
    same_document_at namespace key time (merged (before ++ journal ∷ after)) journal (own_writes namespace key before after journal rising none)

-- a key of an entry is written by no other journal

apart_others : (before after : List (List Entry)) (journal : List Entry) → AreApart (before ++ journal ∷ after) →
    AllByRecursion (λ other. ShareNoKey journal other) (before ++ after)
apart_others [] after journal apart = apart.0
apart_others (other ∷ before) after journal apart = (
  (λ namespace key d e i j p q.
      all_at (λ (l : List Entry). ShareNoKey other l) journal (before ++ journal ∷ after) apart.0 (before, after, refl) namespace key e d j i q p),
  apart_others before after journal apart.1,
)

pub written_once : (namespace : List ℕ) (key : Option Datum) (before after : List (List Entry)) (journal : List Entry) (e : Entry) →
    AreApart (before ++ journal ∷ after) → IsIn e journal →
    ((d : Entry) → writes_to namespace key d ≡ true → writes_to namespace key e ≡ true) → WriteNone namespace key (before ++ after)
written_once namespace key before after journal e apart i own =
    all_weaken (λ (other : List Entry). ShareNoKey journal other)
    (λ (other : List Entry). AllByRecursion (λ d. writes_to namespace key d ≡ false) other) (before ++ after)
    (λ other share. all_from (λ (d : Entry). writes_to namespace key d ≡ false) other
    (λ d j. is_false (writes_to namespace key d) (λ hit. share namespace key e d i j (own d hit) hit)))
    (apart_others before after journal apart)

key_itself : (written key : Option Datum) → same_key written key ≡ true → same_key key key ≡ true
key_itself None key same = absurd cc
key_itself (Some a) None same = absurd cc
key_itself (Some a) (Some b) same = same_value_equivalence.refl b

-- an entry whose key another writes writes it too
pub writes_its_own : (e d : Entry) → writes_to e.namespace (key_written e.operation) d ≡ true → writes_to e.namespace (key_written e.operation) e ≡ true
writes_its_own e d hit =
    let p = both (bytes_eq d.namespace e.namespace) (same_key (key_written d.operation) (key_written e.operation)) hit in
    rw ((bytes_eq-Decides e.namespace e.namespace).1 refl) (key_itself (key_written d.operation) (key_written e.operation) p.1)

-- entries share no key where none of the one writes the key of one of the other
pub apart_by_own : (some others : List Entry) →
    AllByRecursion (λ d. AllByRecursion (λ e. writes_to d.namespace (key_written d.operation) e ≡ false) others) some → ShareNoKey some others
apart_by_own some others none namespace key d e i j p q =
    let other : writes_to d.namespace (key_written d.operation) e ≡ false =
    all_at (λ (y : Entry). writes_to d.namespace (key_written d.operation) y ≡ false) e others
    (all_at (λ (x : Entry). AllByRecursion (λ y. writes_to x.namespace (key_written x.operation) y ≡ false) others) d some none i) j in
    let hit = both (bytes_eq d.namespace namespace) (same_key (key_written d.operation) key) p in
    differ (writes_to d.namespace (key_written d.operation) e) other
    (ap (λ (n : List ℕ). writes_to n (key_written d.operation) e) ((bytes_eq-Decides d.namespace namespace).0 hit.0)
    ∙ same_writes namespace (key_written d.operation) key hit.1 e ∙ q)

pub in_own_journal : (namespace : List ℕ) (key : Option Datum) (e : Entry) (before after : List (List Entry)) (journal : List Entry) →
    AreApart (before ++ journal ∷ after) → IsIn e journal → writes_to namespace key e ≡ true → WriteNone namespace key (before ++ after)
in_own_journal namespace key e before after journal apart i hits = written_once namespace key before after journal e apart i (λ d hit. hits)
