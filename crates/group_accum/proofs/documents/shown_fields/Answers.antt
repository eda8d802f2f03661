use Rattle.std.proofs.Common.{inl, inr, ℕ, List, ap, ◌∙◌, map, arith}
use Rattle.std.proofs.lemmas.List.{drop_all}
use Rattle.bson_model.specs.Tree.{no_fields, field, joined}
use Rattle.bson_values.specs.View.{datum_of}
use Rattle.group_accum.specs.declared.spec.GroupField.{GroupField}
use Rattle.group_accum.specs.View.{cell_of, group_field_of}
use Rattle.group_accum.proofs.Steps.{none_mapped, shown_all, shown_first, shown_next}
use Rattle.group_accum.proofs.documents.shown_fields.Goals as goal

pub loop-field-preserved : goal.loop-field-preserved
loop-field-preserved c =
    shown_next c.loop-field.shown c.push.new.self (datum_of c.in_ok-value-in-Some.value) (cell_of c.in-Some.cell) (map cell_of c.pop_front.new.self.items)
    c.args.fields.now c.loop-field.field-index c.field-item.result _ c.loop-field-test.true c.field-item.is
    (c.in_ok-push-in-Some.ensures.ok ∙ ap (λ (n : List ℕ). joined c.loop-field.shown (field n (datum_of c.in_ok-value-in-Some.value) no_fields)) c.in_ok-name-in-Some.ensures)
    c.in_ok-value-in-Some.ensures.shows (rw c.in-Some.ensures.items at c.loop-field.invariant)

pub returns-in-None : goal.returns-in-None
returns-in-None c = record {
  shows =
      shown_first c.args.document _ _ _ c.from-rest.ensures.0 ∙ shown_all c.loop-field.shown _ _ _
      (inr (none_mapped cell_of c.loop-field.rest.items (omega (arith, c.in-None.ensures.cases.0, c.loop-field.rest.ok)))) c.loop-field.invariant;
}

pub returns : goal.returns
returns c = record {
  shows =
      shown_first c.args.document _ _ _ c.from-rest.ensures.0 ∙ shown_all c.loop-field.shown _ _ _
      (inl (ap (λ (l : List GroupField). map group_field_of l) (drop_all c.loop-field.field-index c.args.fields.now c.loop-field-test.false))) c.loop-field.invariant;
}
