-- How the documents of a batch are compared with others: as their keys and documents.
use Rattle.std.specs.Prelude.{List, Option, refl}
use Rattle.std.specs.Coded.{Coded, code_by, coded×, coded_list, coded_option}
use Rattle.bson_model.specs.Tree.{Datum, Fields}
use Rattle.bson_values.specs.Code.{fields_code}
use Rattle.value_compare.specs.Code.{datum_code}
use Rattle.record_model.specs.Moves.{MovedDocument}

abbrev pub moved_code : Coded MovedDocument
moved_code =
    code_by (Datum × Option Fields) (coded× datum_code (coded_option fields_code)) (λ m. (m.key, m.document)) (λ p. record { key = p.0; document = p.1 }) (λ m. refl)

abbrev pub moved_list_code : Coded (List MovedDocument)
moved_list_code = coded_list moved_code
