-- A search between edges meets the first document, or none.
use Rattle.std.proofs.Common.{◌≡◌, ◌∙◌, ◌∷◌, ◌++◌, Option, Some, sym, ap, subst}
use Rattle.std.specs.Arc.{arc_value}
use Rattle.std.specs.Bound.{IsForward, bound_map}
use Rattle.std.specs.BTreeMap.Range.{IsLeBy, IsLtBy, entries_between}
use Rattle.std.specs.List.{slice_get}
use Rattle.std.specs.declared.ops.Bound as edges
use Rattle.bson_values.specs.Tree.{Datum, Fields}
use Rattle.value_compare.specs.Order.{order}
use Rattle.mvcc_collection.specs.Collections.{at_in, document_in}
use Rattle.mvcc_collection.specs.Edges.{upper_edge}
use Rattle.mvcc_collection.specs.Present.{newest, row_of, rows_in, rows_of}
use Rattle.mvcc_collection.proofs.Rows.{Entries, rows_found, rows_ordered}
use Rattle.mvcc_collection.proofs.Walk.{least_is, walk_ends, walk_meets, walk_nowhere}
use Rattle.mvcc_collection.proofs.collection.Collection.next_document.Goals as goal

pub range-key-items-requires : goal.range-key-items-requires
range-key-items-requires c =
    let range = c.args.range.now in
    let least : edges.Bound Datum = bound_map (λ x. x.now) c.in_ok-least.least in
    let end : bound_map (λ x. x.now) c.upper_edge-greatest.result ≡ upper_edge range.max = c.upper_edge-greatest.ensures ∙ ap upper_edge c.max.ensures.max in
    subst (λ (b : edges.Bound Datum). IsForward (IsLeBy order) (IsLtBy order) least b) (sym end)
    (least_is range c.max.ensures.below _ least (sym c.in_ok-least.ensures)).forward

pub returns-in_err-least-clause-next : goal.returns-in_err-least-clause-next
unfolding rows_of
returns-in_err-least-clause-next c =
    let self = c.args.self.now in
    rw c.from_residual.ensures
    (walk_nowhere c.args.range.now _ c.max.ensures.below (sym c.in_err-least.ensures) (rows_in self.chains.items newest self.places.entries))

pub returns-in_err-least-clause-ordered : goal.returns-in_err-least-clause-ordered
unfolding rows_of
returns-in_err-least-clause-ordered c =
    let self = c.args.self.now in
    rows_ordered self.chains.items newest self.places.entries c.len-places.ensures.ordered

pub returns-in_err-least-clause-present : goal.returns-in_err-least-clause-present
unfolding at_in rows_of
returns-in_err-least-clause-present c = λ k.
    let self = c.args.self.now in
    rows_found k self.chains.items newest self.places.entries c.len-places.ensures.ordered

pub returns-in-Some-document_at-clause-next : goal.returns-in-Some-document_at-clause-next
unfolding rows_of
returns-in-Some-document_at-clause-next c =
    let range = c.args.range.now in
    let cs = c.args.self.now.chains.items in
    let es = c.args.self.now.places.entries in
    let all = c.into_iter-key-iterator.result in
    let rest : Entries = c.next.new.self in
    let key : Datum = c.in-Some.key.now in
    let document : Fields = arc_value c.in-Some-document_at.document.now in
    let least : edges.Bound Datum = bound_map (λ x. x.now) c.in_ok-least.least in
    let end : bound_map (λ x. x.now) c.upper_edge-greatest.result ≡ upper_edge range.max = c.upper_edge-greatest.ensures ∙ ap upper_edge c.max.ensures.max in
    let between : all ≡ entries_between order least (upper_edge range.max) es = c.into_iter-key-iterator.ensures.into_iter_gives
    ∙ c.range-key-items.ensures.between tt ∙ ap (λ (b : edges.Bound Datum). entries_between order least b es) end in
    let found : document_in (slice_get cs c.in-Some.place.now) newest ≡ Some document = sym c.in-Some-document_at.ensures in
    let meets : rows_in cs newest all ≡ (key, document) ∷ rows_in cs newest rest = sym c.loop-key.invariant
    ∙ ap (λ (l : Entries). rows_in cs newest l) c.in-Some.ensures.steps
    ∙ ap (λ (d : Option Fields). row_of key d ++ rows_in cs newest rest) found in
    walk_meets range _ least c.max.ensures.below (sym c.in_ok-least.ensures) cs newest es all between (key, document) (rows_in cs newest rest) meets
    c.value-value.ensures.key

pub returns-in-Some-document_at-clause-ordered : goal.returns-in-Some-document_at-clause-ordered
unfolding rows_of
returns-in-Some-document_at-clause-ordered c =
    let self = c.args.self.now in
    rows_ordered self.chains.items newest self.places.entries c.len-places.ensures.ordered

pub returns-in-Some-document_at-clause-present : goal.returns-in-Some-document_at-clause-present
unfolding at_in rows_of
returns-in-Some-document_at-clause-present c = λ k.
    let self = c.args.self.now in
    rows_found k self.chains.items newest self.places.entries c.len-places.ensures.ordered

pub returns-clause-next : goal.returns-clause-next
unfolding rows_of
returns-clause-next c =
    let range = c.args.range.now in
    let cs = c.args.self.now.chains.items in
    let es = c.args.self.now.places.entries in
    let all = c.into_iter-key-iterator.result in
    let least : edges.Bound Datum = bound_map (λ x. x.now) c.in_ok-least.least in
    let end : bound_map (λ x. x.now) c.upper_edge-greatest.result ≡ upper_edge range.max = c.upper_edge-greatest.ensures ∙ ap upper_edge c.max.ensures.max in
    let between : all ≡ entries_between order least (upper_edge range.max) es = c.into_iter-key-iterator.ensures.into_iter_gives
    ∙ c.range-key-items.ensures.between tt ∙ ap (λ (b : edges.Bound Datum). entries_between order least b es) end in
    walk_ends range _ least c.max.ensures.below (sym c.in_ok-least.ensures) cs newest es all between
    (sym c.loop-key.invariant ∙ ap (λ (l : Entries). rows_in cs newest l) c.in-None.ensures.steps.0)

pub returns-clause-ordered : goal.returns-clause-ordered
unfolding rows_of
returns-clause-ordered c =
    let self = c.args.self.now in
    rows_ordered self.chains.items newest self.places.entries c.len-places.ensures.ordered

pub returns-clause-present : goal.returns-clause-present
unfolding at_in rows_of
returns-clause-present c = λ k.
    let self = c.args.self.now in
    rows_found k self.chains.items newest self.places.entries c.len-places.ensures.ordered
