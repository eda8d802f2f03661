use Rattle.std.proofs.Common.{◌≡◌, ◌-◌, ◌^◌, ◌≤◌, max, min, drop}
use Rattle.bson_model.specs.Tree.{array_depth, document_depth}
use Rattle.bson_values.specs.View.{items_of, fields_of}
use Rattle.bson_values.proofs.value.+levels.Given as goal

abbrev pub invariant-Array::levels-loop-value : goal.invariant-Array::levels-loop-value
invariant-Array::levels-loop-value l = record {
  some : 1 ≤ l.levels;
  fits : l.levels ≤ 2 ^ 64 - 1;
  deepest : min (max l.levels (array_depth (items_of (drop l.value-index l.value-items)))) (2 ^ 64 - 1) ≡ min (array_depth l.self) (2 ^ 64 - 1);
}

abbrev pub invariant-Document::levels-loop-field : goal.invariant-Document::levels-loop-field
invariant-Document::levels-loop-field l = record {
  some : 1 ≤ l.levels;
  fits : l.levels ≤ 2 ^ 64 - 1;
  deepest : min (max l.levels (document_depth (fields_of (drop l.field-index l.field-items)))) (2 ^ 64 - 1) ≡ min (document_depth l.self) (2 ^ 64 - 1);
}
