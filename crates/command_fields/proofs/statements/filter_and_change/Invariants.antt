use Rattle.std.proofs.Common.{◌≡◌, codes}
use Rattle.std.specs.Option.{option_map}
use Rattle.std.specs.Vec.Iter.{into_iter_items}
use Rattle.bson_model.specs.Tree.{get}
use Rattle.bson_values.specs.View.{datum_of, fields_of}
use Rattle.command_fields.proofs.Named.{found_or_left}
use Rattle.command_fields.proofs.statements.filter_and_change.Given as goal

abbrev pub invariant-loop-field : goal.invariant-loop-field
invariant-loop-field l = record {
  filter : found_or_left (option_map datum_of l.filter) (codes "q") (into_iter_items l.field-iterator) ≡ get (codes "q") (fields_of l.fn.fields.items);
  change : found_or_left (option_map datum_of l.change) (codes "u") (into_iter_items l.field-iterator) ≡ get (codes "u") (fields_of l.fn.fields.items);
}
