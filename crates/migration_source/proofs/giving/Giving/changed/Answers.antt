-- A key that was handed out is marked, and another changes nothing.
use Rattle.std.proofs.Common.{◌≡◌, ◌∙◌, true, false, refl, sym, ap}
use Rattle.std.specs.Prelude.{is_some}
use Rattle.std.specs.BTreeMap.{is_at}
use Rattle.std.specs.Map.{lookup}
use Rattle.value_compare.specs.Bounds.{bound_of}
use Rattle.value_compare.specs.Keys.{inside, range_span}
use Rattle.value_compare.specs.Order.{order}
use Rattle.move_model.specs.Sources.{is_handed_out, is_up_to}
use Rattle.migration_source.specs.Givings.{source_of}
use Rattle.migration_source.proofs.Changes.{Entries, marks_handed, marks_nothing, places_stay}
use Rattle.migration_source.proofs.giving.Giving.changed.Goals.{else-contains-via-then-contains+else-is_up_to, else-contains-via-else-contains}
use Rattle.migration_source.proofs.giving.Giving.changed.Goals as goal

pub returns-in-Some-clause-marks : goal.returns-in-Some-clause-marks
returns-in-Some-clause-marks c =
    let g = c.args.self.now in
    let key = c.args.key.now in
    let holds = c.get_mut.follows.holds true in
    let near : inside (range_span g.range) key ≡ true = sym c.contains.ensures ∙ c.if-contains.true in
    let up : is_up_to (bound_of g.cursor) key ≡ true = sym c.is_up_to.ensures ∙ c.if-is_up_to.true in
    let handed : is_handed_out (source_of g) key ≡ true = rw (near, up) refl in
    marks_handed key (source_of g) g.marks.entries (c.get_mut.follows.lender true).entries refl holds.0 holds.4 c.requires.room handed

pub returns-in-Some-clause-rooms : goal.returns-in-Some-clause-rooms
returns-in-Some-clause-rooms c = λ k.
    let g = c.args.self.now in
    let holds = c.get_mut.follows.holds true in
    ap (λ (l : Entries). is_some (lookup (is_at (order k)) l)) holds.0 ∙ places_stay c.args.key.now k true g.marks.entries

pub returns-else-contains-clause-marks : goal.returns-else-contains-clause-marks
returns-else-contains-clause-marks c =
    let g = c.args.self.now in
    let key = c.args.key.now in
    let none : is_handed_out (source_of g) key ≡ false =
    elim c.else-contains.branch [
      | else-contains-via-then-contains+else-is_up_to w ↦
          let near : inside (range_span g.range) key ≡ true = sym c.contains.ensures ∙ w.if-contains.true in
          let past : is_up_to (bound_of g.cursor) key ≡ false = sym w.is_up_to.ensures ∙ w.if-is_up_to.false in
          rw (near, past) refl
      | else-contains-via-else-contains w ↦
          let far : inside (range_span g.range) key ≡ false = sym c.contains.ensures ∙ w.if-contains.false in
          rw far refl
    ] in
    marks_nothing key (source_of g) g.marks.entries refl c.len-places.ensures.ordered none
