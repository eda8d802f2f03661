use Rattle.std.proofs.Common.{arith, drop, map}
use Rattle.std.specs.Arc.{arc_value}
use Rattle.std.proofs.lemmas.List.{drop_all}
use Rattle.value_compare.specs.Spans.{span_of}
use Rattle.mvcc_collection.specs.Collections.{at_in}
use Rattle.mvcc_collection.proofs.SpanLists.{later_ascend, lists_all, lists_next}
use Rattle.mvcc_collection.proofs.collection.Collection.scan_at.Goals as goal

pub loop-span-preserved : goal.loop-span-preserved
loop-span-preserved c =
    let items = c.spans-span-items.result.now in
    let i = c.loop-span.span-index in
    let item = c.span-item.result in
    record {
      listed = lists_next span_of items i item c.loop-span-test.true c.span-item.is (λ k. at_in c.args.self.now k c.args.time.0) _
          (map (λ d. arc_value d.now) c.loop-span.documents.items) _ c.loop-span.invariant.ascending c.loop-span.invariant.listed c.in_ok-scan_span.ensures;
      ascending = later_ascend span_of items i item c.loop-span-test.true c.span-item.is c.loop-span.invariant.ascending;
    }

pub returns : goal.returns
returns c =
    let left = drop c.loop-span.span-index c.spans-span-items.result.now in
    lists_all span_of left (λ k. at_in c.args.self.now k c.args.time.0) _ (map (λ d. arc_value d.now) c.loop-span.documents.items)
    (drop_all c.loop-span.span-index c.spans-span-items.result.now (omega (arith, c.loop-span-test.false))) c.loop-span.invariant.listed
