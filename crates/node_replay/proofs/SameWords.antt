-- The test for the same data is true of equal data, and of no other.
use Rattle.std.proofs.Common.{◌≡◌, refl, ap, ◌∙◌}
use Rattle.std.specs.Prelude.{Bool, true, false, ◌&&◌, ◌==◌, Option, Some, None}
use Rattle.std.specs.Ordering.{int_eq}
use Rattle.std.specs.Str.{bytes_eq}
use Rattle.std.proofs.lemmas.Bool.{and_from}
use Rattle.std.proofs.lemmas.Bool.Decides.{Decides-eqb, Decides-int_eq}
use Rattle.std.proofs.lemmas.Slice.Eq.{bytes_eq-Decides}
use Rattle.bson_model.specs.Tree.{Datum, string_value, document_value, array_value, binary_value, object_id_value, boolean_value, date_value, null_value, int32_value, timestamp_value, int64_value, min_key_value, max_key_value, Items, no_items, item, Fields, no_fields, field}
use Rattle.bson_model.proofs.Booleans.{both}
use Rattle.record_model.specs.Records.{OutcomeWords}
use Rattle.node_replay.specs.SameData.{same_truth, same_datum, same_items, same_fields, same_key_data, same_words}

truth_itself : (a : Bool) → same_truth a a ≡ true
truth_itself true = refl
truth_itself false = refl

mutual
  pub datum_itself : (a : Datum) → same_datum a a ≡ true
  datum_itself (string_value a) = (bytes_eq-Decides a a).1 refl
  datum_itself (document_value a) = fields_itself a
  datum_itself (array_value a) = items_itself a
  datum_itself (binary_value kind a) = and_from (kind == kind) (bytes_eq a a) ((Decides-eqb kind kind).1 refl) ((bytes_eq-Decides a a).1 refl)
  datum_itself (object_id_value a) = (bytes_eq-Decides a a).1 refl
  datum_itself (boolean_value a) = truth_itself a
  datum_itself (date_value a) = (Decides-int_eq a a).1 refl
  datum_itself null_value = refl
  datum_itself (int32_value a) = (Decides-int_eq a a).1 refl
  datum_itself (timestamp_value a) = (Decides-eqb a a).1 refl
  datum_itself (int64_value a) = (Decides-int_eq a a).1 refl
  datum_itself min_key_value = refl
  datum_itself max_key_value = refl

  pub items_itself : (a : Items) → same_items a a ≡ true
  items_itself no_items = refl
  items_itself (item a items) = and_from (same_datum a a) (same_items items items) (datum_itself a) (items_itself items)

  pub fields_itself : (a : Fields) → same_fields a a ≡ true
  fields_itself no_fields = refl
  fields_itself (field name a fields) =
      and_from (bytes_eq name name) (same_datum a a && same_fields fields fields) ((bytes_eq-Decides name name).1 refl)
      (and_from (same_datum a a) (same_fields fields fields) (datum_itself a) (fields_itself fields))

truth_is : (a b : Bool) → same_truth a b ≡ true → a ≡ b
truth_is true true e = refl
truth_is true false e = absurd cc
truth_is false true e = absurd cc
truth_is false false e = refl

mutual
  pub datum_is : (a b : Datum) → same_datum a b ≡ true → a ≡ b
  datum_is (string_value a) (string_value b) e = ap (λ s. string_value s) ((bytes_eq-Decides a b).0 e)
  datum_is (document_value a) (document_value b) e = ap (λ s. document_value s) (fields_is a b e)
  datum_is (array_value a) (array_value b) e = ap (λ s. array_value s) (items_is a b e)
  datum_is (binary_value kind a) (binary_value other b) e =
      let h = both (kind == other) (bytes_eq a b) e in
      ap (λ k. binary_value k a) ((Decides-eqb kind other).0 h.0) ∙ ap (λ s. binary_value other s) ((bytes_eq-Decides a b).0 h.1)
  datum_is (object_id_value a) (object_id_value b) e = ap (λ s. object_id_value s) ((bytes_eq-Decides a b).0 e)
  datum_is (boolean_value a) (boolean_value b) e = ap (λ s. boolean_value s) (truth_is a b e)
  datum_is (date_value a) (date_value b) e = ap (λ s. date_value s) ((Decides-int_eq a b).0 e)
  datum_is null_value null_value e = refl
  datum_is (int32_value a) (int32_value b) e = ap (λ s. int32_value s) ((Decides-int_eq a b).0 e)
  datum_is (timestamp_value a) (timestamp_value b) e = ap (λ s. timestamp_value s) ((Decides-eqb a b).0 e)
  datum_is (int64_value a) (int64_value b) e = ap (λ s. int64_value s) ((Decides-int_eq a b).0 e)
  datum_is min_key_value min_key_value e = refl
  datum_is max_key_value max_key_value e = refl
  datum_is a b e = absurd cc

  pub items_is : (a b : Items) → same_items a b ≡ true → a ≡ b
  items_is no_items no_items e = refl
  items_is (item a items) (item b others) e =
      let h = both (same_datum a b) (same_items items others) e in
      ap (λ x. item x items) (datum_is a b h.0) ∙ ap (λ x. item b x) (items_is items others h.1)
  items_is a b e = absurd cc

  pub fields_is : (a b : Fields) → same_fields a b ≡ true → a ≡ b
  fields_is no_fields no_fields e = refl
  fields_is (field name a fields) (field other b others) e =
      let h = both (bytes_eq name other) (same_datum a b && same_fields fields others) e in
      let k = both (same_datum a b) (same_fields fields others) h.1 in
      ap (λ x. field x a fields) ((bytes_eq-Decides name other).0 h.0)
      ∙ ap (λ x. field other x fields) (datum_is a b k.0)
      ∙ ap (λ x. field other b x) (fields_is fields others k.1)
  fields_is a b e = absurd cc

key_itself : (a : Option Datum) → same_key_data a a ≡ true
key_itself None = refl
key_itself (Some a) = datum_itself a

key_is : (a b : Option Datum) → same_key_data a b ≡ true → a ≡ b
key_is None None e = refl
key_is (Some a) (Some b) e = ap (λ x. Some x) (datum_is a b e)
key_is None (Some b) e = absurd cc
key_is (Some a) None e = absurd cc

pub words_itself : (a : OutcomeWords) → same_words a a ≡ true
words_itself a =
    and_from (a.count == a.count) (a.modified == a.modified && (same_key_data a.upserted a.upserted && int_eq a.code a.code))
    ((Decides-eqb a.count a.count).1 refl)
    (and_from (a.modified == a.modified) (same_key_data a.upserted a.upserted && int_eq a.code a.code) ((Decides-eqb a.modified a.modified).1 refl)
    (and_from (same_key_data a.upserted a.upserted) (int_eq a.code a.code) (key_itself a.upserted) ((Decides-int_eq a.code a.code).1 refl)))

words_from : (a b : OutcomeWords) → a.count ≡ b.count → a.modified ≡ b.modified → a.upserted ≡ b.upserted → a.code ≡ b.code → a ≡ b
words_from a b counts changes keys codes = λ i. record { count = counts i; modified = changes i; upserted = keys i; code = codes i }

pub words_is : (a b : OutcomeWords) → same_words a b ≡ true → a ≡ b
words_is a b e =
    let h = both (a.count == b.count) (a.modified == b.modified && (same_key_data a.upserted b.upserted && int_eq a.code b.code)) e in
    let k = both (a.modified == b.modified) (same_key_data a.upserted b.upserted && int_eq a.code b.code) h.1 in
    let l = both (same_key_data a.upserted b.upserted) (int_eq a.code b.code) k.1 in
    words_from a b ((Decides-eqb a.count b.count).0 h.0) ((Decides-eqb a.modified b.modified).0 k.0) (key_is a.upserted b.upserted l.0)
    ((Decides-int_eq a.code b.code).0 l.1)
