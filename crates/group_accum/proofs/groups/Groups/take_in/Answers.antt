use Rattle.std.proofs.Common.{◌≡◌, List, [], ◌∷◌, ◌++◌, sym, ap, ◌∙◌, subst, map, None}
use Rattle.std.specs.Arc.{arc_value}
use Rattle.std.specs.Prelude.{OnOk}
use Rattle.std.specs.BTreeMap.{get_by}
use Rattle.value_model.specs.Order.{order}
use Rattle.pipeline_model.specs.GroupSpecs.{GroupField, GroupSpec}
use Rattle.pipeline_model.specs.Groups as groups
use Rattle.pipeline_model.specs.Groups.{IsJoined}
use Rattle.pipeline_model.proofs.Absorbed.{absorb_row, empty_row}
use Rattle.group_accum.specs.GroupParts.{rows_in, spec_in}
use Rattle.group_accum.specs.Rows.{rows_of}
use Rattle.group_accum.specs.View.{cell_of}
use Rattle.group_accum.proofs.TakenIn.{new_in, on_ok, taken_in}
use Rattle.group_accum.proofs.groups.Groups.take_in.Goals as goal

pub returns-in-Some-clause-rows : goal.returns-in-Some-clause-rows
unfolding rows_in spec_in
returns-in-Some-clause-rows c =
    on_ok c.absorb_row.result _ _
    (λ absorbed rows joined.
    subst (λ es. IsJoined (arc_value c.args.self.now.spec) (rows ++ record { key = c.args.key; cells = map cell_of c.args.cells.items } ∷ []) (rows_of es))
    (sym (c.get_mut.follows.holds c.absorb_row.new.kept).0)
    (taken_in (arc_value c.args.self.now.spec) rows c.args.key (map cell_of c.args.cells.items) c.args.self.now.rows.entries c.in-Some.kept.now c.absorb_row.new.kept
    (sym c.in-Some.ensures.value) absorbed joined))
    (subst (λ (s : GroupSpec). OnOk c.absorb_row.result
    (map cell_of c.absorb_row.new.kept.items ≡ absorb_row s.fields (map cell_of c.in-Some.kept.now.items) (map cell_of c.args.cells.items)))
    c.deref.ensures c.absorb_row.ensures)

pub returns-clause-rows : goal.returns-clause-rows
unfolding rows_in spec_in
returns-clause-rows c = λ rows joined.
    let old = c.get_mut.follows.lender-at-none in
    let as_before = c.get_mut.follows.holds-at-none in
    let none : get_by (order c.args.key) old ≡ None = rw as_before (sym c.in_default.ensures.value) in
    let own : map cell_of c.in_ok-own.own.items ≡ empty_row (arc_value c.args.self.now.spec).fields =
    c.in_ok-own.ensures ∙ ap (λ (fields : List GroupField). empty_row fields) c.fields.ensures ∙ ap (λ (s : GroupSpec). empty_row s.fields) c.deref-2.ensures in
    let fields = (arc_value c.args.self.now.spec).fields in
    let absorbed : map cell_of c.absorb_row-2.new.kept.items ≡ absorb_row fields (empty_row fields) (map cell_of c.args.cells.items) =
    c.in_ok-absorb_row.ensures
    ∙ ap (λ (s : GroupSpec). absorb_row s.fields (map cell_of c.in_ok-own.own.items) (map cell_of c.args.cells.items)) c.deref-3.ensures
    ∙ ap (λ (cells : List groups.Cell). absorb_row fields cells (map cell_of c.args.cells.items)) own in
    subst (λ es. IsJoined (arc_value c.args.self.now.spec) (rows ++ record { key = c.args.key; cells = map cell_of c.args.cells.items } ∷ []) (rows_of es))
    (sym c.in_ok-insert.ensures.entries)
    (new_in (arc_value c.args.self.now.spec) rows c.args.key (map cell_of c.args.cells.items) old.entries c.absorb_row-2.new.kept none absorbed
    (subst (λ m. IsJoined (arc_value c.args.self.now.spec) rows (rows_of m.entries)) (sym as_before) joined))
