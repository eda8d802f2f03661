-- One element of a loop, and those after it, until there is none.
use Rattle.std.proofs.Common.{◌≡◌, ℕ, ◌<◌, ◌≤◌, ◌+◌, List, length, get_or, drop, sym, ap, ◌∙◌}
use Rattle.std.proofs.lemmas.List.{drop_all}
use Rattle.bson_model.proofs.Joined.{joined_none, joined_items_none}
use Rattle.bson_model.specs.Tree.{Fields, no_fields, joined, field, document_depth, Items, no_items, item, joined_items}
use Rattle.bson_values.specs.View.{datum_of, fields_of, items_of}
use Rattle.bson_values.specs.declared.value.Field.{Field}
use Rattle.bson_values.specs.declared.value.Value.{Value}
use Rattle.field_paths.proofs.FieldLists.{next_field, next_one}
use Rattle.pipeline_model.specs.Projections.{Projection, computed_fields, project}
use Rattle.pipeline_model.proofs.Depths.{project_within}
use Rattle.projection.specs.declared.rules.NameRule.{NameRule}
use Rattle.projection.specs.View.{rules_of}

-- the next field is appended
pub put_field : (of : Fields → Fields) (before now whole : Fields) (ms : List Field) (i : ℕ) (m : Field) → i < length ms → m ≡ get_or ms i m →
    ((rest : Fields) → joined now (of rest) ≡ joined before (of (field m.name (datum_of m.value) rest))) →
    joined before (of (fields_of (drop i ms))) ≡ whole → joined now (of (fields_of (drop (i + 1) ms))) ≡ whole
put_field of before now whole ms i m less is put so_far =
    put (fields_of (drop (i + 1) ms)) ∙ ap (λ (x : List Field). joined before (of (fields_of x))) (sym (next_field ms i m less is)) ∙ so_far

-- the next value is appended
pub put_value : (of : Items → Items) (before now whole : Items) (vs : List Value) (i : ℕ) (v : Value) → i < length vs → v ≡ get_or vs i v →
    ((rest : Items) → joined_items now (of rest) ≡ joined_items before (of (item (datum_of v) rest))) →
    joined_items before (of (items_of (drop i vs))) ≡ whole → joined_items now (of (items_of (drop (i + 1) vs))) ≡ whole
put_value of before now whole vs i v less is put so_far =
    put (items_of (drop (i + 1) vs)) ∙ ap (λ (x : List Value). joined_items before (of (items_of x))) (sym (next_one vs i v less is)) ∙ so_far

-- all fields were visited
pub all_fields : (of : Fields → Fields) (before whole : Fields) (ms : List Field) (i : ℕ) → of no_fields ≡ no_fields → length ms ≤ i →
    joined before (of (fields_of (drop i ms))) ≡ whole → before ≡ whole
all_fields of before whole ms i none less so_far =
    sym (joined_none before)
    ∙ ap (λ (x : Fields). joined before x) (sym none)
    ∙ ap (λ (x : List Field). joined before (of (fields_of x))) (sym (drop_all i ms less))
    ∙ so_far

-- all values were visited
pub all_values : (of : Items → Items) (before whole : Items) (vs : List Value) (i : ℕ) → of no_items ≡ no_items → length vs ≤ i →
    joined_items before (of (items_of (drop i vs))) ≡ whole → before ≡ whole
all_values of before whole vs i none less so_far =
    sym (joined_items_none before)
    ∙ ap (λ (x : Items). joined_items before x) (sym none)
    ∙ ap (λ (x : List Value). joined_items before (of (items_of x))) (sym (drop_all i vs less))
    ∙ so_far

-- all rules were visited
pub all_rules : (document before whole : Fields) (rules : List NameRule) (i : ℕ) → length rules ≤ i →
    joined before (computed_fields (rules_of (drop i rules)) document) ≡ whole → before ≡ whole
all_rules document before whole rules i less so_far =
    sym (joined_none before)
    ∙ ap (λ (x : List NameRule). joined before (computed_fields (rules_of x) document)) (sym (drop_all i rules less))
    ∙ so_far

pub no_deeper : (left : Fields) (rules : Projection) (document : Fields) → left ≡ project rules document → document_depth left ≤ document_depth document
no_deeper left rules document is = rw is (project_within rules document)
