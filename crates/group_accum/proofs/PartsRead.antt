-- Reading operands and accumulators.
use Rattle.std.proofs.Common.{◌≡◌, ◌≢◌, ℕ, ◌≤◌, List, [], ◌∷◌, length, Ok, Err, refl, arith}
use Rattle.bson_values.specs.declared.value.Field.{Field}
use Rattle.bson_model.specs.Tree.{document_value, string_value}
use Rattle.bson_values.specs.View.{fields_of}
use Rattle.query_model.specs.Queries.{bad_operand}
use Rattle.pipeline_model.specs.Operands.{constant_operand, read_operand}
use Rattle.pipeline_model.specs.GroupSpecs.{accumulate, count_name, read_accumulator}
use Rattle.projection.proofs.RulesRead.{no_dollar}

-- a text without a leading $ is a constant
pub plain_text : (bs : List ℕ) → ((rest : List ℕ) → bs ≢ 36 ∷ rest) → read_operand (string_value bs) ≡ Ok (constant_operand (string_value bs))
plain_text bs h = rw (no_dollar bs h, read_operand) refl

pub some_fields : (fs : List Field) → 2 ≤ length fs → read_accumulator (document_value (fields_of fs)) ≡ Err bad_operand
some_fields [] h = absurd (omega arith)
some_fields (f ∷ []) h = absurd (omega arith)
some_fields (f ∷ g ∷ fs) h = refl

pub some_field : (fs : List Field) → length fs ≢ 0 → accumulate count_name (document_value (fields_of fs)) ≡ Err bad_operand
some_field [] h = absurd (h refl)
some_field (f ∷ fs) h = refl
