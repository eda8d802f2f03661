-- Reading stages one after the other.
use Rattle.std.proofs.Common.{◌≡◌, append_assoc, ℕ, ◌<◌, ◌≤◌, ◌+◌, List, [], ◌∷◌, ◌++◌, length, get_or, drop, map, Result, Ok, Err, refl, sym, ap, ◌∙◌, arith}
use Rattle.std.specs.Prelude.{Bool, true, false, not, ◌&&◌, ◌||◌, ◌==◌, nat_lt, if◌then◌else◌}
use Rattle.std.specs.List.{list_any}
use Rattle.std.specs.Str.{byte}
use Rattle.std.proofs.lemmas.Bool.Decides.{nat_tests}
use Rattle.std.proofs.lemmas.List.{drop_all, map-append}
use Rattle.bson_values.specs.declared.value.Field.{Field}
use Rattle.bson_values.specs.declared.value.Value.{Value}
use Rattle.bson_values.specs.Names.{has_no_zero}
use Rattle.bson_values.specs.Sizes.{items_count}
use Rattle.bson_model.specs.Tree.{Items, no_items, item, document_value}
use Rattle.bson_values.specs.View.{datum_of, fields_of, items_of}
use Rattle.field_paths.proofs.FieldLists.{next_one, nothing_before, nothing_left, with_front}
use Rattle.query_model.specs.Paths.{begins_with_dollar, elements}
use Rattle.query_model.specs.Queries.{QueryFault, bad_operand}
use Rattle.query_model.specs.Reading.{◌>>=◌}
use Rattle.pipeline_model.specs.Stages as model
use Rattle.pipeline_model.specs.Stages.{may_count, read_pipeline, read_stage, read_stages}
use Rattle.pipeline_lang.specs.declared.stage.Stage.{Stage}
use Rattle.pipeline_lang.specs.View.{stage_of}

-- a name under which a count may be returned has no 00
no_zero_by : (dot zero : Bool) (bs : List ℕ) → ((dot || zero) || list_any (λ b. (b == byte ".") || (b == 0)) bs) ≡ false →
    (list_any (λ b. (b == byte ".") || (b == 0)) bs ≡ false → has_no_zero bs ≡ true) → (if zero then false else has_no_zero bs) ≡ true
no_zero_by true zero bs e later = absurd cc
no_zero_by false true bs e later = absurd cc
no_zero_by false false bs e later = later e

no_zero : (bs : List ℕ) → list_any (λ b. (b == byte ".") || (b == 0)) bs ≡ false → has_no_zero bs ≡ true
no_zero [] e = refl
no_zero (b ∷ bs) e = no_zero_by (b == byte ".") (b == 0) bs e (no_zero bs)

last_not : (some dollar any : Bool) → (some && not dollar && not any) ≡ true → any ≡ false
last_not true false true e = absurd cc
last_not true true any e = absurd cc
last_not false dollar any e = absurd cc
last_not true false false e = refl

pub counting_name : (name : List ℕ) → may_count name ≡ true → has_no_zero name ≡ true
counting_name name e = no_zero name (last_not (nat_lt 0 (length name)) (begins_with_dollar name) (list_any (λ b. (b == byte ".") || (b == 0)) name) e)

counted : (ds : Items) → items_count ds ≡ length (elements ds)
counted no_items = refl
counted (item d ds) = omega (arith, counted ds)

by_count : (n : ℕ) (read : Result (List model.Stage) QueryFault) → 1000 < n → (if nat_lt 1000 n then Err bad_operand else read) ≡ Err bad_operand
by_count n read h = grind (arith, nat_tests)

within_count : (n : ℕ) (read : Result (List model.Stage) QueryFault) → n ≤ 1000 → (if nat_lt 1000 n then Err bad_operand else read) ≡ read
within_count n read h = grind (arith, nat_tests)

pub too_many : (ds : Items) → 1000 < items_count ds → read_pipeline ds ≡ Err bad_operand
too_many ds h = by_count (length (elements ds)) (read_stages (elements ds)) (omega (arith, counted ds))

pub few_enough : (ds : Items) → items_count ds ≤ 1000 → read_pipeline ds ≡ read_stages (elements ds)
few_enough ds h = within_count (length (elements ds)) (read_stages (elements ds)) (omega (arith, counted ds))

pub some_fields : (fs : List Field) → 2 ≤ length fs → read_stage (document_value (fields_of fs)) ≡ Err bad_operand
some_fields [] h = absurd (omega arith)
some_fields (f ∷ []) h = absurd (omega arith)
some_fields (f ∷ g ∷ fs) h = refl

one_behind : (stages : List Stage) (stage : Stage) (others : Result (List model.Stage) QueryFault) →
    with_front (map stage_of stages) (others >>= λ more. Ok (stage_of stage ∷ more)) ≡ with_front (map stage_of (stages ++ stage ∷ [])) others
one_behind stages stage (Ok more) =
    sym (ap (λ (l : List model.Stage). Ok (l ++ more)) (map-append stage_of stages (stage ∷ [])) ∙ ap (λ (l : List model.Stage). Ok l)
    (append_assoc (map stage_of stages) (stage_of stage ∷ []) more))
one_behind stages stage (Err e) = refl

one_read : (stages : List Stage) (stage : Stage) (read : Result model.Stage QueryFault) (others : Result (List model.Stage) QueryFault) → read ≡ Ok (stage_of stage) →
    with_front (map stage_of stages) (read >>= λ first. others >>= λ more. Ok (first ∷ more)) ≡ with_front (map stage_of (stages ++ stage ∷ [])) others
one_read stages stage read others e =
    ap (λ (r : Result model.Stage QueryFault). with_front (map stage_of stages) (r >>= λ first. others >>= λ more. Ok (first ∷ more))) e
    ∙ one_behind stages stage others

-- the next stage is valid
pub goes_on : (stages now : List Stage) (stage : Stage) (vs : List Value) (i : ℕ) (v : Value) (whole : Result (List model.Stage) QueryFault) →
    i < length vs → v ≡ get_or vs i v → now ≡ stages ++ stage ∷ [] → read_stage (datum_of v) ≡ Ok (stage_of stage) →
    with_front (map stage_of stages) (read_stages (elements (items_of (drop i vs)))) ≡ whole →
    with_front (map stage_of now) (read_stages (elements (items_of (drop (i + 1) vs)))) ≡ whole
goes_on stages now stage vs i v whole less is put read so_far =
    ap (λ (l : List Stage). with_front (map stage_of l) (read_stages (elements (items_of (drop (i + 1) vs))))) put
    ∙ sym (one_read stages stage (read_stage (datum_of v)) (read_stages (elements (items_of (drop (i + 1) vs)))) read)
    ∙ ap (λ (l : List Value). with_front (map stage_of stages) (read_stages (elements (items_of l)))) (sym (next_one vs i v less is))
    ∙ so_far

-- the next stage has a fault
pub fails_there : (stages : List Stage) (vs : List Value) (i : ℕ) (v : Value) (whole : Result (List model.Stage) QueryFault) (f : QueryFault) →
    i < length vs → v ≡ get_or vs i v → with_front (map stage_of stages) (read_stages (elements (items_of (drop i vs)))) ≡ whole →
    read_stage (datum_of v) ≡ Err f → whole ≡ Err f
fails_there stages vs i v whole f less is so_far read =
    sym so_far ∙ ap (λ (l : List Value). with_front (map stage_of stages) (read_stages (elements (items_of l)))) (next_one vs i v less is)
    ∙ ap (λ (r : Result model.Stage QueryFault). with_front (map stage_of stages) (r >>= λ first. read_stages (elements (items_of (drop (i + 1) vs))) >>= λ more. Ok (first ∷ more))) read

pub begins : (stages : List Stage) (vs : List Value) (array : Items) → stages ≡ [] → items_of vs ≡ array →
    with_front (map stage_of stages) (read_stages (elements (items_of vs))) ≡ read_stages (elements array)
begins stages vs array none is = rw none (nothing_before (read_stages (elements (items_of vs))) ∙ ap (λ (ds : Items). read_stages (elements ds)) is)

pub ends : (stages : List Stage) (vs : List Value) (i : ℕ) (whole : Result (List model.Stage) QueryFault) → length vs ≤ i →
    with_front (map stage_of stages) (read_stages (elements (items_of (drop i vs)))) ≡ whole → whole ≡ Ok (map stage_of stages)
ends stages vs i whole all so_far =
    sym so_far ∙ ap (λ (l : List Value). with_front (map stage_of stages) (read_stages (elements (items_of l)))) (drop_all i vs all)
    ∙ nothing_left (map stage_of stages)
