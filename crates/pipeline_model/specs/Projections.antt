-- Projections (MongoDB manual, "$project", "Project Fields to Return from Query"). A projection includes fields or excludes them;
-- `_id` stays unless it is excluded. Own: a name is one part; a computed value at a path through an array is an array; a stored
-- field whose name is computed is left out, and the computed ones come last.
use Rattle.std.specs.Prelude.{ℕ, pos, List, [], ◌∷◌, Bool, true, false, not, ◌&&◌, ◌||◌, Option, Some, None, Result, Ok, Err, codes, if◌then◌else◌}
use Rattle.std.specs.List.{list_any, list_all}
use Rattle.std.specs.Ordering.{int_eq}
use Rattle.std.specs.Str.{bytes_eq}
use Rattle.bson_model.specs.Tree.{Datum, string_value, boolean_value, int32_value, int64_value, Fields, no_fields, field, joined}
use Rattle.query_model.specs.Paths.{Path}
use Rattle.query_model.specs.Queries.{QueryFault, bad_operand}
use Rattle.query_model.specs.Reading.{◌>>=◌}
use Rattle.pipeline_model.specs.Operands.{value_at, named_path, read_name}

-- what a projection does with a name
pub data Treatment : Type 0 where
  include_it : Treatment
  exclude_it : Treatment
  -- the value at a path takes its place
  compute_it : Path → Treatment

pub record NameRule : Type 0 where
  pub name : List ℕ
  pub treatment : Treatment

abbrev pub Projection : Type 0
Projection = List NameRule

abbrev pub excludes : Treatment → Bool
excludes exclude_it = true
excludes t = false

abbrev pub includes : Treatment → Bool
includes include_it = true
includes t = false

abbrev pub computes : Treatment → Bool
computes (compute_it path) = true
computes t = false

-- some rule of that name has such a treatment
abbrev pub has_rule : (Treatment → Bool) → Projection → List ℕ → Bool
has_rule test rules name = list_any (λ rule. bytes_eq rule.name name && test rule.treatment) rules

abbrev pub is_excluding : Projection → Bool
is_excluding rules = list_all (λ rule. excludes rule.treatment) rules

-- a stored field of that name stays
abbrev pub stays : Projection → List ℕ → Bool
stays rules name =
    if is_excluding rules then not (has_rule excludes rules name)
    else not (has_rule computes rules name) && (has_rule includes rules name || (bytes_eq name (codes "_id") && not (has_rule excludes rules name)))

-- the fields whose name passes, all of a name
abbrev pub fields_named : (List ℕ → Bool) → Fields → Fields
fields_named test no_fields = no_fields
fields_named test (field name d ms) = if test name then field name d (fields_named test ms) else fields_named test ms

abbrev pub with_computed : NameRule → Option Datum → Fields → Fields
with_computed rule None ms = ms
with_computed rule (Some d) ms = field rule.name d ms

abbrev pub computed_value : Treatment → Fields → Option Datum
computed_value (compute_it path) document = value_at path document
computed_value t document = None

-- the computed fields in the order of the projection, of the document as it came; without a value there is none
abbrev pub computed_fields : Projection → Fields → Fields
computed_fields [] document = no_fields
computed_fields (rule ∷ rules) document = with_computed rule (computed_value rule.treatment document) (computed_fields rules document)

-- the document that a projection leaves
abbrev pub project : Projection → Fields → Fields
project rules document = joined (fields_named (stays rules) document) (computed_fields rules document)

abbrev pub switch : Bool → Treatment
switch b = if b then include_it else exclude_it

abbrev pub read_treatment : Datum → Result Treatment QueryFault
read_treatment (boolean_value b) = Ok (switch b)
read_treatment (int32_value z) = Ok (switch (not (int_eq z (pos 0))))
read_treatment (int64_value z) = Ok (switch (not (int_eq z (pos 0))))
read_treatment (string_value s) = elim (named_path s) [ None ↦ Err bad_operand | Some name ↦ read_name name >>= λ path. Ok (compute_it path) ]
read_treatment d = Err bad_operand

abbrev pub one_part : Path → Result (List ℕ) QueryFault
one_part (part ∷ []) = Ok part
one_part path = Err bad_operand

abbrev pub read_rules : Fields → Result Projection QueryFault
read_rules no_fields = Ok []
read_rules (field name d ms) = do
  path ← read_name name
  part ← one_part path
  treatment ← read_treatment d
  others ← read_rules ms
  Ok (record { name = part; treatment = treatment } ∷ others)

-- beside names that stay or are computed, a name may be excluded only if it is `_id`, and has no other rule
abbrev pub may_stand : Projection → NameRule → Bool
may_stand rules rule =
    not (excludes rule.treatment)
    || (bytes_eq rule.name (codes "_id") && not (has_rule includes rules rule.name || has_rule computes rules rule.name))

abbrev pub is_projection : Projection → Bool
is_projection [] = false
is_projection (rule ∷ rules) = is_excluding (rule ∷ rules) || list_all (may_stand (rule ∷ rules)) (rule ∷ rules)

-- the projection that a document is, or the first fault: of the rules in order, of each the name before the value; then of the whole
abbrev pub read_projection : Fields → Result Projection QueryFault
read_projection document = read_rules document >>= λ rules. if is_projection rules then Ok rules else Err bad_operand
