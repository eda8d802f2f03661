-- A document that finds room is one more; the walk ends at one that finds none, or after the last.
use Rattle.std.proofs.Common.{◌≡◌, ◌∙◌, sym}
use Rattle.std.specs.Arc.{arc_value}
use Rattle.bson_values.specs.Tree.{Datum, Fields}
use Rattle.mvcc_collection.specs.Present.{rows_of}
use Rattle.migration_source.specs.Filled.{members_in}
use Rattle.migration_source.specs.Givings.{source_of}
use Rattle.migration_source.proofs.Nexts.{none_past_greatest, reach_all, reach_cut, reach_more, reach_none, step_fewer}
use Rattle.migration_source.proofs.giving.Giving.add_documents.Goals as goal

pub returns-in_default : goal.returns-in_default
returns-in_default c =
    rw c.requires (none_past_greatest (source_of c.args.self.now) (rows_of c.args.c.now) c.in_default.ensures)

pub loop-key-init : goal.loop-key-init
loop-key-init c = rw c.requires (reach_none (source_of c.args.self.now) (rows_of c.args.c.now) _ c.in-Some.ensures)

pub loop-key-preserved : goal.loop-key-preserved
loop-key-preserved c =
    let s = source_of c.args.self.now in
    let rows = rows_of c.args.c.now in
    let r : Datum × Fields = (c.in-Some-next_document.key.now, arc_value c.in-Some-next_document.document.now) in
    let more = reach_more s rows _ _ (members_in c.loop-key.filling) c.loop-key.invariant c.next_document.ensures.ordered r c.in-Some-next_document.ensures.next
    c.value-value.ensures.key in
    rw (c.in_ok-found.ensures.members, c.if-not-found.false) more

pub loop-key-smaller : goal.loop-key-smaller
loop-key-smaller c =
    let r : Datum × Fields = (c.in-Some-next_document.key.now, arc_value c.in-Some-next_document.document.now) in
    step_fewer c.args.self.now.range _ (rows_of c.args.c.now) r c.next_document.ensures.ordered c.in-Some-next_document.ensures.next

pub returns-then-not-found : goal.returns-then-not-found
returns-then-not-found c =
    let s = source_of c.args.self.now in
    let rows = rows_of c.args.c.now in
    let r : Datum × Fields = (c.in-Some-next_document.key.now, arc_value c.in-Some-next_document.document.now) in
    let cut = reach_cut s rows _ _ (members_in c.loop-key.filling) c.loop-key.invariant c.next_document.ensures.ordered c.in-Some.ensures r
    c.in-Some-next_document.ensures.next c.value-value.ensures.key (sym c.in_ok-found.ensures.room ∙ c.if-not-found.true) in
    rw (c.in_ok-found.ensures.members, c.if-not-found.true, c.in_ok-bound_at.ensures) cut

pub returns : goal.returns
returns c =
    reach_all (source_of c.args.self.now) (rows_of c.args.c.now) _ _ (members_in c.loop-key.filling) c.loop-key.invariant c.next_document.ensures.ordered
    c.in-Some.ensures c.in_default-next_document.ensures.next
