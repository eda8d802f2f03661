-- Where all entries are inserts, documents stay once they are there.
use Rattle.std.proofs.Common.{◌≡◌, ◌≢◌, ℕ, ◌≤◌, inl, inr, List, [], ◌∷◌, ◌++◌, refl, sym, ap, subst, ◌∙◌, arith}
use Rattle.std.specs.Prelude.{true, false, Option, Some, None, Bool, Ok, if◌then◌else◌, filter, nat_le}
use Rattle.std.specs.List.{AllByRecursion}
use Rattle.std.specs.Str.{bytes_eq}
use Rattle.std.proofs.lemmas.Bool.{le-leb}
use Rattle.std.proofs.lemmas.List.Elements.{filter-append}
use Rattle.bson_model.specs.Tree.{Datum, Fields}
use Rattle.base_model.specs.Errors.{object_too_large}
use Rattle.value_model.specs.Keys.{valid_key}
use Rattle.history_model.specs.History.{Operation, insert_operation, Outcome, is_too_large, key_written, same_key, effect, Entry, writes_to, document_after, document_left, document_at, IsBefore, Legal, IsIn}
use Rattle.history_model.proofs.Lists.{all_filter, all_from, all_weaken, in_back, in_first, in_later}
use Rattle.history_model.proofs.LegalHistories.{document_after_append, effect_leaves, effect_stays, follows_prefix, insert_again, insert_new, key_inserted, put_in, told_under}
use Rattle.bson_model.proofs.Booleans.{both}

-- the entry inserts a document
abbrev pub IsInsert : Entry → Type 0
IsInsert e = (document : Fields) × (e.operation ≡ insert_operation document)

-- all these entries do
abbrev pub AreInserts : List Entry → Type 0
AreInserts es = (e : Entry) → IsIn e es → IsInsert e

-- once there, the same for good
never_changed : (namespace : List ℕ) (key : Option Datum) (document : Fields) (es : List Entry) → AllByRecursion IsInsert es
    → document_after namespace key (Some document) es ≡ Some document
never_changed namespace key document [] inserts = refl
never_changed namespace key document (e ∷ es) inserts =
    ap (λ (o : Option Fields). document_after namespace key o es) (by_hit (writes_to namespace key e)) ∙ never_changed namespace key document es inserts.1
  where
    by_hit : (hit : Bool) → (if hit then (effect e.operation (Some document)).0 else Some document) ≡ Some document
    by_hit true = ap (λ (o : Operation). (effect o (Some document)).0) inserts.0.1 ∙ effect_stays inserts.0.0 document
    by_hit false = refl

-- and never gone
never_gone : (namespace : List ℕ) (key : Option Datum) (before : Option Fields) (es : List Entry) → AllByRecursion IsInsert es → before ≢ None
    → document_after namespace key before es ≢ None
never_gone namespace key None es inserts there none = there refl
never_gone namespace key (Some document) es inserts there none =
    absurd (let both : Some document ≡ None = sym (never_changed namespace key document es inserts) ∙ none in cc)

-- all these entries are of a time
filter_whole : (time : ℕ) (es : List Entry) → AllByRecursion (λ e. e.time ≤ time) es → filter (λ (e : Entry). nat_le e.time time) es ≡ es
filter_whole time [] all = refl
filter_whole time (e ∷ es) all = rw (le-leb e.time time all.0) (ap (λ l. e ∷ l) (filter_whole time es all.1))

pub no_later : (d e : Entry) → IsBefore d e → d.time ≤ e.time
no_later d e (inl less) = omega arith
no_later d e (inr equal) = omega arith

-- the entries up to a time
abbrev pub up_to : ℕ → List Entry → List Entry
up_to time es = filter (λ (d : Entry). nat_le d.time time) es

up_to_whole : (prefix back : List Entry) (e : Entry) (time : ℕ) → Legal (prefix ++ e ∷ back) → e.time ≤ time
    → up_to time (prefix ++ e ∷ back) ≡ prefix ++ e ∷ up_to time back
up_to_whole prefix back e time legal early =
    filter-append (λ (d : Entry). nat_le d.time time) prefix (e ∷ back)
    ∙ rw (
      le-leb e.time time early,
      filter_whole time prefix (all_weaken (λ (d : Entry). IsBefore d e) (λ (d : Entry). d.time ≤ time) prefix
          (λ d is. omega (arith, no_later d e is, early)) (follows_prefix prefix back e legal).rises),
    ) refl

-- the document at a time is what an entry up to then results in, and what is written after it
from_entry : (prefix back : List Entry) (e : Entry) (namespace : List ℕ) (key : Option Datum) (time : ℕ) → Legal (prefix ++ e ∷ back)
    → e.time ≤ time → writes_to namespace key e ≡ true → document_at (prefix ++ e ∷ back) namespace key time
    ≡ document_after namespace key (effect e.operation (document_left namespace key prefix)).0 (up_to time back)
from_entry prefix back e namespace key time legal early hits =
    let before : Option Fields = document_left namespace key prefix in
    ap (λ (l : List Entry). document_left namespace key l) (up_to_whole prefix back e time legal early)
    ∙ document_after_append namespace key None prefix (e ∷ up_to time back)
    ∙ ap (λ (hit : Bool). document_after namespace key (if hit then (effect e.operation before).0 else before) (up_to time back)) hits

later_inserts : (prefix back : List Entry) (e : Entry) (time : ℕ) → AreInserts (prefix ++ e ∷ back) → AllByRecursion IsInsert (up_to time back)
later_inserts prefix back e time inserts =
    all_filter IsInsert (λ (d : Entry). nat_le d.time time) back (all_from IsInsert back (λ d i. inserts d (in_back d prefix (e ∷ back) (in_later d e back i))))

-- an insert that writes a key has a document with a key
keyed : (e : Entry) (document : Fields) (namespace : List ℕ) (key : Option Datum) → e.operation ≡ insert_operation document → writes_to namespace key e ≡ true
    → (own : Datum) × (valid_key document ≡ Ok own)
keyed e document namespace key is hits =
    key_inserted document key
    (subst (λ (o : Operation). same_key (key_written o) key ≡ true) is (both (bytes_eq e.namespace namespace) (same_key (key_written e.operation) key) hits).1)

-- an entry up to a time that put a document in, or found one, leaves one under its key at that time
pub there_after : (prefix back : List Entry) (e : Entry) (namespace : List ℕ) (key : Option Datum) (time : ℕ) → Legal (prefix ++ e ∷ back)
    → AreInserts (prefix ++ e ∷ back) → e.outcome.error ≢ Some object_too_large → e.time ≤ time → writes_to namespace key e ≡ true
    → document_at (prefix ++ e ∷ back) namespace key time ≢ None
there_after prefix back e namespace key time legal inserts small early hits none =
    never_gone namespace key (effect e.operation before).0 (up_to time back) (later_inserts prefix back e time inserts) stands
    (sym (from_entry prefix back e namespace key time legal early hits) ∙ none)
  where
    before : Option Fields
    before = document_left namespace key prefix

    own : IsInsert e
    own = inserts e (in_back e prefix (e ∷ back) (in_first e back))

    told : e.outcome ≡ (effect (insert_operation own.0) before).1
    told = told_under prefix e namespace key (follows_prefix prefix back e legal) hits ∙ ap (λ (o : Operation). (effect o before).1) own.1

    stands : (effect e.operation before).0 ≢ None
    stands =
        let k = keyed e own.0 namespace key own.1 hits in
        subst (λ (o : Operation). (effect o before).0 ≢ None) (sym own.1)
        (effect_leaves own.0 k.0 before k.1 (λ large. small (ap (λ (o : Outcome). o.error) told ∙ large)))

-- an insert of a document with a key that returns no error results in this document
effect_puts : (document : Fields) (key : Datum) (before : Option Fields) → valid_key document ≡ Ok key
    → (effect (insert_operation document) before).1.error ≡ None → (effect (insert_operation document) before).0 ≡ Some document
effect_puts document key None valid =
    subst (λ (w : Option Fields × Outcome). w.1.error ≡ None → w.0 ≡ Some document) (sym (insert_new document key valid)) (by_size (is_too_large document))
  where
    by_size : (large : Bool) → (put_in document large).1.error ≡ None → (put_in document large).0 ≡ Some document
    by_size true none = absurd (cc)
    by_size false none = refl
effect_puts document key (Some before) valid =
    subst (λ (w : Option Fields × Outcome). w.1.error ≡ None → w.0 ≡ Some document) (sym (insert_again document key before valid)) (λ none. absurd (cc))

-- the document of an entry that put it in is there from its time on
pub put_in_stays : (prefix back : List Entry) (e : Entry) (document : Fields) (namespace : List ℕ) (key : Option Datum) (time : ℕ)
    → Legal (prefix ++ e ∷ back) → AreInserts (prefix ++ e ∷ back) → e.operation ≡ insert_operation document → e.outcome.error ≡ None
    → e.time ≤ time → writes_to namespace key e ≡ true → document_at (prefix ++ e ∷ back) namespace key time ≡ Some document
put_in_stays prefix back e document namespace key time legal inserts is none early hits =
    from_entry prefix back e namespace key time legal early hits
    ∙ ap (λ (o : Option Fields). document_after namespace key o (up_to time back)) left
    ∙ never_changed namespace key document (up_to time back) (later_inserts prefix back e time inserts)
  where
    before : Option Fields
    before = document_left namespace key prefix

    told : e.outcome ≡ (effect (insert_operation document) before).1
    told = told_under prefix e namespace key (follows_prefix prefix back e legal) hits ∙ ap (λ (o : Operation). (effect o before).1) is

    left : (effect e.operation before).0 ≡ Some document
    left =
        let k = keyed e document namespace key is hits in
        ap (λ (o : Operation). (effect o before).0) is ∙ effect_puts document k.0 before k.1 (sym (ap (λ (o : Outcome). o.error) told) ∙ none)
