-- Documents alone, as they are in an array.
use Rattle.std.proofs.Common.{◌≡◌, List, [], ◌∷◌, refl, ap}
use Rattle.std.specs.Prelude.{Some, None, Option, true, is_some, filter_map, option_map}
use Rattle.bson_values.specs.Tree.{Datum, string_value, document_value, array_value, binary_value, object_id_value, boolean_value, date_value, null_value, int32_value, timestamp_value, int64_value, min_key_value, max_key_value, Fields}
use Rattle.query_model.specs.Paths.{as_document}
use Rattle.query_model.specs.Reading.{all_documents}

one_more : (ms : Fields) (found : Option (List Fields)) (ds : List Fields) → (is_some found ≡ true → found ≡ Some ds) →
    is_some (option_map (λ documents. ms ∷ documents) found) ≡ true → option_map (λ documents. ms ∷ documents) found ≡ Some (ms ∷ ds)
one_more ms None ds on h = absurd cc
one_more ms (Some found) ds on h = ap (λ (o : Option (List Fields)). option_map (λ documents. ms ∷ documents) o) (on refl)

pub documents_alone : (ds : List Datum) → is_some (all_documents ds) ≡ true → all_documents ds ≡ Some (filter_map as_document ds)
documents_alone [] h = refl
documents_alone (document_value ms ∷ ds) h = one_more ms (all_documents ds) (filter_map as_document ds) (documents_alone ds) h
documents_alone (array_value es ∷ ds) h = absurd cc
documents_alone (string_value s ∷ ds) h = absurd cc
documents_alone (binary_value n s ∷ ds) h = absurd cc
documents_alone (object_id_value s ∷ ds) h = absurd cc
documents_alone (boolean_value b ∷ ds) h = absurd cc
documents_alone (date_value z ∷ ds) h = absurd cc
documents_alone (null_value ∷ ds) h = absurd cc
documents_alone (int32_value z ∷ ds) h = absurd cc
documents_alone (timestamp_value n ∷ ds) h = absurd cc
documents_alone (int64_value z ∷ ds) h = absurd cc
documents_alone (min_key_value ∷ ds) h = absurd cc
documents_alone (max_key_value ∷ ds) h = absurd cc
