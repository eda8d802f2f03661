use Rattle.std.proofs.Common.{◌≡◌, ap, rules, ◌∙◌, refl}
use Rattle.std.specs.Prelude.{Some}
use Rattle.std.specs.Arc.{arc_value}
use Rattle.std.specs.Option.{option_map}
use Rattle.chunk_model.specs.Changes.{known_table}
use Rattle.chunk_model.specs.Tables.{Table}
use Rattle.config_node.proofs.Planned.{create_planned, tell_planned}
use Rattle.config_node.proofs.Rows.{same_changes}
use Rattle.config_node.specs.State.{catalogue_of}
use Rattle.config_node.specs.declared.plan.Answer.TheVariants.{Table as TableFound}
use Rattle.config_node.proofs.state.ConfigNode.plan_table.Goals as goal

pub returns-in-Ok-clause-planned : goal.returns-in-Ok-clause-planned
returns-in-Ok-clause-planned c = λ m late is here.
    let n = catalogue_of c.args.self.now in
    let x = c.in-Some.change in
    let made = c.make.ensures in
    let requested = rw c.in-Some.is at c.in_ok-change.ensures.requested in
    let answered = rw c.in-Some.is at c.in_ok-change.ensures.answer in
    let known = rw c.in-Some.is at c.in_ok-change.ensures.table in
    let shared : arc_value x.table ≡ arc_value c.in-Ok.table = search rules in
    create_planned n m c.args.heard late here c.args.ask.now (Some (arc_value c.in-Ok.table)) is (TableFound (Some c.in-Ok.table)) refl x _ c.make.result
    refl requested answered (known ∙ ap (λ (t : Table). Some t) shared) made.time made.change made.answer made.records made.readable

pub returns-in_ok-records-in-None-clause-planned : goal.returns-in_ok-records-in-None-clause-planned
returns-in_ok-records-in-None-clause-planned c = λ m late is here.
    let n = catalogue_of c.args.self.now in
    let table = c.in_ok-table-in-None.table in
    let told = c.tell.ensures in
    let stored = c.in_ok-records-in-None.ensures in
    let same = same_changes (catalogue_of c.creation.new.self) n c.creation.ensures.same in
    tell_planned n m c.args.heard late here c.args.ask.now (option_map (λ t. arc_value t) table) is (TableFound table) refl c.tell.result
    (c.in_ok-change.ensures.none c.in-None.is) (c.in_ok-table-in-None.ensures ∙ ap (λ xs. known_table c.args.ask.now.namespace xs) same)
    told.time told.change told.answer (told.records ∙ stored.records) stored.readable
