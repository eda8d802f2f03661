-- Documents that are copied from an array, and lists of documents.
use Rattle.std.proofs.Common.{◌≡◌, ℕ, suc, ◌+◌, ◌<◌, ◌≤◌, List, [], ◌∷◌, ◌++◌, length, get_or, drop, refl, sym, ◌∙◌, ap, add-one, drop-cons, Option, Some, None, append_assoc, append-nil, true, false, arith}
use Rattle.std.specs.Option.{is_some}
use Rattle.std.proofs.lemmas.List.{drop_all}
use Rattle.bson_model.specs.Tree.{Datum, document_value, Items, no_items, item, Fields, get}
use Rattle.base_model.specs.Errors.{bad_value, type_mismatch}
use Rattle.bson_values.specs.Sizes.{items_count}
use Rattle.bson_values.specs.declared.value.Value.{Value}
use Rattle.bson_values.specs.View.{datum_of, items_of}
use Rattle.command_model.specs.Checks.{unless_passes}
use Rattle.opmsg_frames.specs.declared.lists.Sequence.{Sequence}
use Rattle.opmsg_frames.specs.Lists.{pairs_of}
use Rattle.command_model.specs.Statements.{StatementForm}
use Rattle.command_model.specs.Writes.{check_documents, documents_asked, documents_in, documents_of_value, is_statement_count}

abbrev pub with_prefix : List Fields → Option (List Fields) → Option (List Fields)
with_prefix prefix None = None
with_prefix prefix (Some documents) = Some (prefix ++ documents)

one_more : (prefix : List Fields) (ms : Fields) (more : Option (List Fields)) → with_prefix (prefix ++ ms ∷ []) more ≡ with_prefix prefix (elim more [ None ↦ None | Some documents ↦ Some (ms ∷ documents) ])
one_more prefix ms None = refl
one_more prefix ms (Some documents) = ap (λ (l : List Fields). Some l) (append_assoc prefix (ms ∷ []) documents)

cut_of : (values : List Value) (i : ℕ) (v : Value) → i < length values → v ≡ get_or values i v → drop i values ≡ v ∷ drop (i + 1) values
cut_of values i v inside is = rw add-one (drop-cons values i v inside ∙ ap (λ (first : Value). first ∷ drop (suc i) values) (sym is))

-- one more document is copied
pub one_copied : (all : Option (List Fields)) (prefix new : List Fields) (values : List Value) (i : ℕ) (v : Value) (ms : Fields) → with_prefix prefix (documents_in (items_of (drop i values))) ≡ all → i < length values → v ≡ get_or values i v → datum_of v ≡ document_value ms → new ≡ prefix ++ ms ∷ [] → with_prefix new (documents_in (items_of (drop (i + 1) values))) ≡ all
one_copied all prefix new values i v ms whole inside is doc new_is =
    let cut : drop i values ≡ v ∷ drop (i + 1) values = cut_of values i v inside is in
    let left : with_prefix prefix (documents_in (item (datum_of v) (items_of (drop (i + 1) values)))) ≡ all = rw cut at whole in
    let seen : with_prefix prefix (documents_in (item (document_value ms) (items_of (drop (i + 1) values)))) ≡ all = rw doc at left in
    rw new_is (one_more prefix ms (documents_in (items_of (drop (i + 1) values))) ∙ seen)

pub all_copied : (all : Option (List Fields)) (prefix : List Fields) (values : List Value) (i : ℕ) → with_prefix prefix (documents_in (items_of (drop i values))) ≡ all → length values ≤ i → Some prefix ≡ all
all_copied all prefix values i whole outside =
    let left : with_prefix prefix (Some []) ≡ all = rw (drop_all i values outside) at whole in
    ap (λ (l : List Fields). Some l) (sym (append-nil prefix)) ∙ left

-- the documents of a list that were copied
pub one_listed : (all prefix new documents : List Fields) (i : ℕ) (ms : Fields) → prefix ++ drop i documents ≡ all → i < length documents → ms ≡ get_or documents i ms → new ≡ prefix ++ ms ∷ [] → new ++ drop (i + 1) documents ≡ all
one_listed all prefix new documents i ms whole inside is new_is =
    let cut : drop i documents ≡ ms ∷ drop (i + 1) documents = rw add-one (drop-cons documents i ms inside ∙ ap (λ (first : Fields). first ∷ drop (suc i) documents) (sym is)) in
    let left : prefix ++ ms ∷ drop (i + 1) documents ≡ all = rw cut at whole in
    rw new_is (append_assoc prefix (ms ∷ []) (drop (i + 1) documents) ∙ left)

pub all_listed : (all prefix documents : List Fields) (i : ℕ) → prefix ++ drop i documents ≡ all → length documents ≤ i → prefix ≡ all
all_listed all prefix documents i whole outside =
    let left : prefix ++ [] ≡ all = rw (drop_all i documents outside) at whole in
    sym (append-nil prefix) ∙ left

-- an array of documents has as many documents as values
counted : (o : Option (List Fields)) (n : ℕ) (ms : Fields) → ((documents : List Fields) → o ≡ Some documents → length documents ≡ n) → (documents : List Fields) → elim o [ None ↦ None | Some more ↦ Some (ms ∷ more) ] ≡ Some documents → length documents ≡ n + 1
counted None n ms h documents e = cc
counted (Some more) n ms h documents e =
    let same : ms ∷ more ≡ documents = cc in
    let size : length more ≡ n = h more refl in
    rw (← same) (omega (arith, size))

count_of : (ds : Items) (documents : List Fields) → documents_in ds ≡ Some documents → length documents ≡ items_count ds
count_of no_items documents e = let same : [] ≡ documents = cc in rw (← same) refl
count_of (item (document_value ms) ds) documents e = counted (documents_in ds) (items_count ds) ms (count_of ds) documents e
count_of (item d ds) documents e = cc

by_count : (o : Option (List Fields)) (n : ℕ) → ((documents : List Fields) → o ≡ Some documents → length documents ≡ n) → is_some o ≡ true → check_documents o ≡ unless_passes (is_statement_count n) bad_value
by_count None n h e = cc
by_count (Some documents) n h e = ap (λ k. unless_passes (is_statement_count k) bad_value) (h documents refl)

pub documents_counted : (ds : Items) → is_some (documents_in ds) ≡ true → check_documents (documents_in ds) ≡ unless_passes (is_statement_count (items_count ds)) bad_value
documents_counted ds e = by_count (documents_in ds) (items_count ds) (count_of ds) e

none_counted : (o : Option (List Fields)) → is_some o ≡ false → check_documents o ≡ Some type_mismatch
none_counted None e = refl
none_counted (Some documents) e = cc

pub not_documents : (ds : Items) → is_some (documents_in ds) ≡ false → check_documents (documents_in ds) ≡ Some type_mismatch
not_documents ds e = none_counted (documents_in ds) e

-- there are documents in a sequence
there : (o : Option Datum) (documents : List Fields) → o ≡ None → true ≡ is_some (elim o [ Some value ↦ documents_of_value value | None ↦ Some documents ])
there None documents e = refl
there (Some value) documents e = absurd cc

pub some_sequence : (form : StatementForm) (document : Fields) (sequences : List Sequence) → 1 ≤ length sequences → get form.identifier document ≡ None → true ≡ is_some (documents_asked form document (pairs_of sequences))
some_sequence form document [] some none = absurd (omega arith)
some_sequence form document (s ∷ more) some none = there (get form.identifier document) s.documents none
