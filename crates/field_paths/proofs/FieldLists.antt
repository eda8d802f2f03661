-- Reading the fields of a document one after the other, as a loop does.
use Rattle.std.proofs.Common.{◌≡◌, ℕ, suc, ◌<◌, ◌≤◌, ◌+◌, List, [], ◌∷◌, ◌++◌, length, get_or, drop, Result, Ok, Err, refl, sym, ap, ◌∙◌, add-one, drop-cons, append_assoc, append-nil}
use Rattle.std.specs.Prelude.{map}
use Rattle.std.proofs.lemmas.List.{drop_all}
use Rattle.bson_values.specs.declared.value.Field.{Field}
use Rattle.bson_values.specs.View.{datum_of, fields_of}
use Rattle.bson_model.specs.Tree.{Datum, Fields, no_fields, field}
use Rattle.query_model.specs.Queries.{QueryFault}
use Rattle.query_model.specs.Reading.{◌>>=◌}
use Rattle.field_paths.specs.declared.path.ParseFault.{ParseFault}
use Rattle.field_paths.specs.declared.path.ParseFault.TheVariants as faults
use Rattle.field_paths.specs.declared.path.PathFault.TheVariants as path_faults
use Rattle.field_paths.specs.ReadFaults.{Fails}

-- a reader that runs after one that failed fails in the same way
pub passes_on : {A B : Type 0} (e : ParseFault) (r : Result A QueryFault) (s : Result B QueryFault) →
    ((f : QueryFault) → r ≡ Err f → s ≡ Err f) → Fails e r → Fails e s
passes_on faults.UnknownOperator r s on h = on _ h
passes_on faults.BadOperand r s on h = on _ h
passes_on (faults.Path path_faults.Empty) r s on h = on _ h
passes_on (faults.Path path_faults.Digits) r s on h = on _ h
passes_on (faults.Path path_faults.Dollar) r s on h = on _ h
passes_on (faults.Path path_faults.Long) r s on h = on _ h
passes_on (faults.Path path_faults.Memory) r s on h = absurd h
passes_on faults.Deep r s on h = on _ h
passes_on faults.Memory r s on h = tt

pub next_one : {A : Type 0} (xs : List A) (i : ℕ) (x : A) → i < length xs → x ≡ get_or xs i x → drop i xs ≡ x ∷ drop (i + 1) xs
next_one {A = A} xs i x less is = rw add-one (drop-cons xs i x less ∙ ap (λ (y : A). y ∷ drop (suc i) xs) (sym is))

pub next_field : (ms : List Field) (i : ℕ) (m : Field) → i < length ms → m ≡ get_or ms i m → drop i ms ≡ m ∷ drop (i + 1) ms
next_field = next_one

-- the list already read, and the result of reading the rest
abbrev pub with_front : {X : Type 0} → List X → Result (List X) QueryFault → Result (List X) QueryFault
with_front front read = read >>= λ others. Ok (front ++ others)

pub nothing_before : {X : Type 0} (read : Result (List X) QueryFault) → with_front [] read ≡ read
nothing_before (Ok others) = refl
nothing_before (Err e) = refl

pub nothing_left : {X : Type 0} (front : List X) → with_front front (Ok []) ≡ Ok front
nothing_left {X = X} front = ap (λ (x : List X). Ok x) (append-nil front)

-- the fields, each read by itself, up to the first fault
module _ {X : Type 0} (read_one : List ℕ → Datum → Result X QueryFault) where
  abbrev pub read_each : Fields → Result (List X) QueryFault
  read_each no_fields = Ok []
  read_each (field name d ms) = read_one name d >>= λ first. read_each ms >>= λ others. Ok (first ∷ others)

module _ {R X : Type 0} (view : R → X) where
  map-behind : (rs : List R) (r : R) (others : List X) → map view (rs ++ r ∷ []) ++ others ≡ map view rs ++ view r ∷ others
  map-behind [] r others = refl
  map-behind (first ∷ rs) r others = ap (λ (x : List X). view first ∷ x) (map-behind rs r others)

  one_behind : (rs : List R) (r : R) (read : Result (List X) QueryFault) →
      with_front (map view rs) (read >>= λ others. Ok (view r ∷ others)) ≡ with_front (map view (rs ++ r ∷ [])) read
  one_behind rs r (Ok others) = ap (λ (x : List X). Ok x) (sym (map-behind rs r others))
  one_behind rs r (Err e) = refl

  one_read : (rs : List R) (read : Result X QueryFault) (others : Result (List X) QueryFault) (r : R) → read ≡ Ok (view r) →
      with_front (map view rs) (read >>= λ first. others >>= λ more. Ok (first ∷ more)) ≡ with_front (map view (rs ++ r ∷ [])) others
  one_read rs read others r h = rw h (one_behind rs r others)

  one_fails : (rs : List R) (read : Result X QueryFault) (others : Result (List X) QueryFault) (f : QueryFault) → read ≡ Err f →
      with_front (map view rs) (read >>= λ first. others >>= λ more. Ok (first ∷ more)) ≡ Err f
  one_fails rs read others f h = rw h refl

  module _ (read_one : List ℕ → Datum → Result X QueryFault) where
    -- the next field is valid
    pub goes_on : (rs now : List R) (r : R) (ms : List Field) (i : ℕ) (m : Field) (whole : Result (List X) QueryFault) →
        i < length ms → m ≡ get_or ms i m → now ≡ rs ++ r ∷ [] → read_one m.name (datum_of m.value) ≡ Ok (view r) →
        with_front (map view rs) (read_each read_one (fields_of (drop i ms))) ≡ whole →
        with_front (map view now) (read_each read_one (fields_of (drop (i + 1) ms))) ≡ whole
    goes_on rs now r ms i m whole less is put h so_far =
        ap (λ (x : List R). with_front (map view x) (read_each read_one (fields_of (drop (i + 1) ms)))) put
        ∙ sym (one_read rs (read_one m.name (datum_of m.value)) (read_each read_one (fields_of (drop (i + 1) ms))) r h)
        ∙ ap (λ (x : List Field). with_front (map view rs) (read_each read_one (fields_of x))) (sym (next_field ms i m less is))
        ∙ so_far

    -- the next field has a fault
    pub fails_there : (rs : List R) (ms : List Field) (i : ℕ) (m : Field) (whole : Result (List X) QueryFault) (f : QueryFault) →
        i < length ms → m ≡ get_or ms i m → with_front (map view rs) (read_each read_one (fields_of (drop i ms))) ≡ whole →
        read_one m.name (datum_of m.value) ≡ Err f → whole ≡ Err f
    fails_there rs ms i m whole f less is so_far h =
        sym so_far ∙ ap (λ (x : List Field). with_front (map view rs) (read_each read_one (fields_of x))) (next_field ms i m less is)
        ∙ one_fails rs (read_one m.name (datum_of m.value)) (read_each read_one (fields_of (drop (i + 1) ms))) f h

    pub begins : (rs : List R) (ms : List Field) (document : Fields) → rs ≡ [] → fields_of ms ≡ document →
        with_front (map view rs) (read_each read_one (fields_of ms)) ≡ read_each read_one document
    begins rs ms document none is = rw none (nothing_before (read_each read_one (fields_of ms)) ∙ ap (λ (x : Fields). read_each read_one x) is)

    pub ends : (rs : List R) (ms : List Field) (i : ℕ) (whole : Result (List X) QueryFault) → length ms ≤ i →
        with_front (map view rs) (read_each read_one (fields_of (drop i ms))) ≡ whole → whole ≡ Ok (map view rs)
    ends rs ms i whole less so_far =
        sym so_far
        ∙ ap (λ (x : List Field). with_front (map view rs) (read_each read_one (fields_of x))) (drop_all i ms less)
        ∙ nothing_left (map view rs)
