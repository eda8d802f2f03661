-- Reading the fields of a sort one after the other.
use Rattle.std.proofs.Common.{◌≡◌, ℕ, ◌<◌, ◌≤◌, List, ◌∷◌, Result, Ok, Err, refl, ap, ◌∙◌, arith}
use Rattle.std.specs.Prelude.{nat_lt, if◌then◌else◌}
use Rattle.std.proofs.lemmas.Bool.Decides.{nat_tests}
use Rattle.bson_values.specs.Sizes.{fields_count}
use Rattle.bson_model.specs.Tree.{Datum, Fields, no_fields, field}
use Rattle.field_paths.proofs.FieldLists.{read_each}
use Rattle.query_model.specs.Paths.{Path}
use Rattle.query_model.specs.Queries.{QueryFault, bad_operand}
use Rattle.query_model.specs.Reading.{◌>>=◌}
use Rattle.pipeline_model.specs.Operands.{read_name}
use Rattle.pipeline_model.specs.SortKeys.{Direction, SortField, SortSpec, field_count, read_direction, read_sort, read_sort_fields}
use Rattle.sort_keys.specs.FieldReading.{read_sort_field}

abbrev directed_path : Path → Direction → SortField
directed_path path direction = record { path = path; direction = direction }

grouped : (path : Result Path QueryFault) (direction : Result Direction QueryFault) (others : Result SortSpec QueryFault) →
    ((path >>= λ p. direction >>= λ d. Ok (directed_path p d)) >>= λ first. others >>= λ more. Ok (first ∷ more))
    ≡ (path >>= λ p. direction >>= λ d. others >>= λ more. Ok (directed_path p d ∷ more))
grouped (Err e) direction others = refl
grouped (Ok path) (Err e) others = refl
grouped (Ok path) (Ok d) others = refl

pub fields_each : (ms : Fields) → read_each read_sort_field ms ≡ read_sort_fields ms
fields_each no_fields = refl
fields_each (field name d ms) =
    grouped (read_name name) (read_direction d) (read_each read_sort_field ms)
    ∙ ap (λ (others : Result SortSpec QueryFault). read_name name >>= λ p. read_direction d >>= λ dir. others >>= λ more. Ok (directed_path p dir ∷ more))
    (fields_each ms)

counted : (ms : Fields) → fields_count ms ≡ field_count ms
counted no_fields = refl
counted (field name d ms) = omega (arith, counted ms)

by_count : (n : ℕ) (read : Result SortSpec QueryFault) → 32 < n → (if nat_lt 32 n then Err bad_operand else read) ≡ Err bad_operand
by_count n read h = grind (arith, nat_tests)

within_count : (n : ℕ) (read : Result SortSpec QueryFault) → n ≤ 32 → (if nat_lt 32 n then Err bad_operand else read) ≡ read
within_count n read h = grind (arith, nat_tests)

pub too_many : (ms : Fields) → 32 < fields_count ms → read_sort ms ≡ Err bad_operand
too_many ms h = by_count (field_count ms) (read_sort_fields ms) (omega (arith, counted ms))

pub few_enough : (ms : Fields) → fields_count ms ≤ 32 → read_sort ms ≡ read_sort_fields ms
few_enough ms h = within_count (field_count ms) (read_sort_fields ms) (omega (arith, counted ms))
