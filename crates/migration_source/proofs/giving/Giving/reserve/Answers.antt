-- A new key has a place, and is not changed.
use Rattle.std.proofs.Common.{◌≡◌, ◌∙◌, List, false, sym, ap}
use Rattle.std.specs.BTreeMap.{insert_entry}
use Rattle.bson_values.specs.Tree.{Datum}
use Rattle.value_compare.specs.Bounds.{bound_of}
use Rattle.value_compare.specs.Order.{order}
use Rattle.move_model.specs.Sources.{Source}
use Rattle.migration_source.specs.Changed.{changed_among}
use Rattle.migration_source.proofs.Changes.{none_is, placed}
use Rattle.migration_source.proofs.giving.Giving.reserve.Goals as goal

pub returns-clause-source : goal.returns-clause-source
returns-clause-source c =
    let g = c.args.self.now in
    let key = c.args.key.now in
    let none = none_is _ (sym c.contains_key.ensures ∙ c.if-contains_key.false) in
    let same : changed_among c.insert.new.self.entries ≡ changed_among g.marks.entries =
    ap changed_among c.in_ok-insert.ensures.entries ∙ ap (λ (k : Datum). changed_among (insert_entry order g.marks.entries k false)) c.in_ok-copy.ensures
    ∙ placed key g.marks.entries none in
    let with_changed : List Datum → Source =
    λ keys. record { range = g.range; number = g.number; cursor = bound_of g.cursor; changed = keys; unanswered = g.unanswered } in
    ap with_changed same
