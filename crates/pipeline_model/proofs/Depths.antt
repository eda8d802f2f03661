-- No value at a path is deeper than what it is in, and no document gets deeper by a projection.
use Rattle.std.proofs.Common.{ℕ, suc, ◌≤◌, List, [], ◌∷◌, arith}
use Rattle.std.specs.Prelude.{Bool, true, false, Option, Some, None, option_and_then, filter_map, if◌then◌else◌}
use Rattle.std.specs.Str.{bytes_eq}
use Rattle.std.specs.List.{cons_option}
use Rattle.bson_model.specs.Tree.{Datum, document_value, array_value, Items, no_items, item, Fields, no_fields, field, get, joined, value_depth, array_depth, document_depth}
use Rattle.query_model.specs.Paths.{Path, elements, as_document}
use Rattle.pipeline_model.specs.Operands.{items_of, value_from, value_at}
use Rattle.pipeline_model.specs.Projections.{Treatment, include_it, exclude_it, compute_it, NameRule, Projection, fields_named, with_computed, computed_value, computed_fields, stays, project}
use Rattle.query_model.proofs.Levels.{some_depth}

-- a value, if there is one, is within so many levels
abbrev pub IsWithin : ℕ → Option Datum → Type 0
IsWithin n None = Unit {0}
IsWithin n (Some d) = value_depth d ≤ n

-- a value that is one level deeper in what has n levels
abbrev pub IsInside : ℕ → Option Datum → Type 0
IsInside n None = Unit {0}
IsInside n (Some d) = suc (value_depth d) ≤ n

array_level : (ds : Items) → 1 ≤ array_depth ds
array_level no_items = omega arith
array_level (item d ds) = omega (arith, array_level ds)

pub inside_more : (n m : ℕ) (o : Option Datum) → n ≤ m → IsInside n o → IsInside m o
inside_more n m None le h = tt
inside_more n m (Some d) le h = omega arith

get_either : (b : Bool) (d : Datum) (rest : Option Datum) (n m : ℕ) → suc (value_depth d) ≤ n → IsInside m rest → m ≤ n →
    IsInside n (if b then Some d else rest)
get_either true d rest n m h k le = h
get_either false d rest n m h k le = inside_more m n rest le k

get_inside : (name : List ℕ) (ms : Fields) → IsInside (document_depth ms) (get name ms)
get_inside name no_fields = tt
get_inside name (field first d ms) =
    get_either (bytes_eq first name) d (get name ms) (document_depth (field first d ms)) (document_depth ms) (omega arith) (get_inside name ms) (omega arith)

inside_from : (n m : ℕ) (o : Option Datum) → suc m ≤ n → IsWithin m o → IsInside n o
inside_from n m None le h = tt
inside_from n m (Some d) le h = omega arith

then_inside : (f : Datum → Option Datum) → ((d : Datum) → IsWithin (value_depth d) (f d)) → (n : ℕ) (o : Option Datum) → IsInside n o →
    IsInside n (option_and_then f o)
then_inside f within n None h = tt
then_inside f within n (Some d) h = inside_from n (value_depth d) (f d) h (within d)

within_from : (n : ℕ) (o : Option Datum) → IsInside n o → IsWithin n o
within_from n None h = tt
within_from n (Some d) h = omega arith

with_one : (n m : ℕ) (o : Option Datum) (ds : List Datum) → IsInside m o → suc m ≤ n → array_depth (items_of ds) ≤ n →
    array_depth (items_of (cons_option o ds)) ≤ n
with_one n m None ds h le k = k
with_one n m (Some d) ds h le k = omega arith

-- the array of what the documents among the elements have
array_within : (f : Fields → Option Datum) → ((ms : Fields) → IsInside (document_depth ms) (f ms)) → (ds : Items) →
    array_depth (items_of (filter_map f (filter_map as_document (elements ds)))) ≤ array_depth ds
array_within f inside no_items = omega arith
array_within f inside (item (document_value ms) ds) =
    with_one (array_depth (item (document_value ms) ds)) (document_depth ms) (f ms) (filter_map f (filter_map as_document (elements ds))) (inside ms)
    (omega arith)
    (omega (arith, array_within f inside ds))
array_within f inside (item d ds) = omega (arith, array_within f inside ds)

pub value_within : (path : Path) (d : Datum) → IsWithin (value_depth d) (value_from path d)
value_within [] d = omega arith
value_within (part ∷ parts) (document_value ms) =
    within_from (document_depth ms) (option_and_then (value_from parts) (get part ms))
    (then_inside (value_from parts) (value_within parts) (document_depth ms) (get part ms) (get_inside part ms))
value_within (part ∷ parts) (array_value ds) =
    array_within (λ ms. option_and_then (value_from parts) (get part ms))
    (λ ms. then_inside (value_from parts) (value_within parts) (document_depth ms) (get part ms) (get_inside part ms)) ds
value_within (part ∷ parts) d = tt

pub value_inside : (path : Path) (document : Fields) → IsInside (document_depth document) (value_at path document)
value_inside [] document = tt
value_inside (part ∷ parts) document = then_inside (value_from parts) (value_within parts) (document_depth document) (get part document)
    (get_inside part document)

named_either : (b : Bool) (name : List ℕ) (d : Datum) (ms ns : Fields) → document_depth ms ≤ document_depth ns →
    document_depth (if b then field name d ms else ms) ≤ document_depth (field name d ns)
named_either true name d ms ns h = omega arith
named_either false name d ms ns h = omega arith

named_within : (test : List ℕ → Bool) (ms : Fields) → document_depth (fields_named test ms) ≤ document_depth ms
named_within test no_fields = omega arith
named_within test (field name d ms) = named_either (test name) name d (fields_named test ms) ms (named_within test ms)

computed_inside : (t : Treatment) (document : Fields) → IsInside (document_depth document) (computed_value t document)
computed_inside (compute_it path) document = value_inside path document
computed_inside include_it document = tt
computed_inside exclude_it document = tt

with_within : (rule : NameRule) (n : ℕ) (o : Option Datum) (ms : Fields) → IsInside n o → document_depth ms ≤ n → document_depth (with_computed rule o ms) ≤ n
with_within rule n None ms h k = k
with_within rule n (Some d) ms h k = omega arith

computed_within : (rules : Projection) (document : Fields) → document_depth (computed_fields rules document) ≤ document_depth document
computed_within [] document = some_depth document
computed_within (rule ∷ rules) document =
    with_within rule (document_depth document) (computed_value rule.treatment document) (computed_fields rules document)
    (computed_inside rule.treatment document) (computed_within rules document)

joined_within : (n : ℕ) (ms ns : Fields) → document_depth ms ≤ n → document_depth ns ≤ n → document_depth (joined ms ns) ≤ n
joined_within n no_fields ns h k = k
joined_within n (field name d ms) ns h k = omega (arith, joined_within n ms ns (omega arith) k)

pub project_within : (rules : Projection) (document : Fields) → document_depth (project rules document) ≤ document_depth document
project_within rules document =
    joined_within (document_depth document) (fields_named (stays rules) document) (computed_fields rules document)
    (named_within (stays rules) document) (computed_within rules document)
