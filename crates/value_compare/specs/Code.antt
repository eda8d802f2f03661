-- How a value is compared with others: as the document that holds it alone. And so bounds, ranges and spans.
use Rattle.std.specs.Prelude.{◌≡◌, ◌⊎◌, ℕ, List, [], refl, ◌==◌, if◌then◌else◌}
use Rattle.std.proofs.Common.{inl, inr}
use Rattle.std.specs.Coded.{Coded, code_by, coded×, coded⊎, coded_list, coded_ℕ}
use Rattle.value_model.specs.Tree.{Datum, null_value, Fields, no_fields, field}
use Rattle.value_model.specs.Keys.{Bound, min_bound, key_bound, max_bound, Range, Span, range_span, point_span}
use Rattle.bson_values.specs.Code.{fields_code}

abbrev pub first_value : Fields → Datum
first_value no_fields = null_value
first_value (field name d ms) = d

abbrev pub datum_code : Coded Datum
datum_code = code_by Fields fields_code (λ d. field [] d no_fields) (λ ms. first_value ms) (λ d. refl)

-- a bound as its place and the key there, if any
abbrev pub bound_parts : Bound → ℕ × Datum
bound_parts min_bound = (0, null_value)
bound_parts (key_bound key) = (1, key)
bound_parts max_bound = (2, null_value)

abbrev pub bound_from : ℕ × Datum → Bound
bound_from parts = if parts.0 == 0 then min_bound else if parts.0 == 1 then key_bound parts.1 else max_bound

abbrev pub bound_back : (b : Bound) → bound_from (bound_parts b) ≡ b
bound_back min_bound = refl
bound_back (key_bound key) = refl
bound_back max_bound = refl

abbrev pub bound_code : Coded Bound
bound_code = code_by (ℕ × Datum) (coded× coded_ℕ datum_code) bound_parts bound_from bound_back

abbrev pub range_code : Coded Range
range_code =
    code_by (Bound × Bound) (coded× bound_code bound_code) (λ r. (r.min, r.max)) (λ p. record { min = p.0; max = p.1 }) (λ r. refl)

abbrev pub SpanParts : Type 0
SpanParts = Range ⊎ Datum

abbrev pub span_parts : Span → SpanParts
span_parts (range_span range) = inl range
span_parts (point_span key) = inr key

abbrev pub span_from : SpanParts → Span
span_from (inl range) = range_span range
span_from (inr key) = point_span key

abbrev pub span_back : (s : Span) → span_from (span_parts s) ≡ s
span_back (range_span range) = refl
span_back (point_span key) = refl

abbrev pub span_code : Coded Span
span_code = code_by SpanParts (coded⊎ range_code datum_code) span_parts span_from span_back

abbrev pub spans_code : Coded (List Span)
spans_code = coded_list span_code
