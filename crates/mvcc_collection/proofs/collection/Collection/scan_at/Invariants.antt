-- What lists the documents of the spans that are left, after those that are there, lists those of all; and the spans that are left ascend.
use Rattle.std.proofs.Common.{◌++◌, drop, map, List, None, if◌then◌else◌}
use Rattle.std.specs.Arc.{arc_value}
use Rattle.bson_values.specs.Tree.{Fields}
use Rattle.value_compare.specs.Keys.{AreAscending, inside_some}
use Rattle.value_compare.specs.Spans.{span_of}
use Rattle.history_model.specs.Documents.{ListsDocuments}
use Rattle.mvcc_collection.specs.Collections.{at_in}
use Rattle.mvcc_collection.proofs.collection.Collection.scan_at.Given as goal

abbrev pub invariant-loop-span : goal.invariant-loop-span
invariant-loop-span l = record {
  listed : (found : List Fields) →
      ListsDocuments (λ k. if inside_some (map span_of (drop l.span-index l.span-items)) k then at_in l.self k l.time.0 else None) found →
      ListsDocuments (λ k. if inside_some l.spans k then at_in l.self k l.time.0 else None) (map (λ d. arc_value d.now) l.documents.items ++ found);
  ascending : AreAscending (map span_of (drop l.span-index l.span-items));
}
