use Rattle.std.proofs.Common.{◌≡◌, ◌∙◌, IsTrue, refl, arith}
use Rattle.std.specs.Prelude.{Some}
use Rattle.std.specs.List.{slice_get}
use Rattle.std.proofs.lemmas.Option.{slice_get_within}
use Rattle.outside.specs.Logs.{IsDurable}
use Rattle.driver_steps.proofs.DiskNotes.{each_next, noted_next}
use Rattle.driver_steps.proofs.notes.note_disks.Goals as goal

pub hosts-preserved : goal.hosts-preserved
hosts-preserved g c = record {
  noted = λ tells. noted_next g.L.Log.facts _ c.deref-seat-items.result.now c.hosts.seat-index c.seat-item.result _ _ _ _ c.hosts-test.true c.seat-item.is
      (c.hosts.invariant.noted tells) (c.note.ensures.noted tells) (rw (c.device.ensures.place, c.device.ensures.moment, c.hosts.invariant.held) refl);
  held = c.note.ensures.held ∙ c.hosts.invariant.held;
  faults = c.note.ensures.faults ∙ c.hosts.invariant.faults;
  durable = λ at z below got.
      each_next (λ y. IsTrue (g.L.Log.facts.is_open y.log) → IsDurable g.L.Log.facts y.log) c.deref-seat-items.result.now c.hosts.seat-index
      c.seat-item.result c.seat-item.is (λ is_open. c.device.ensures.durable is_open) c.hosts.invariant.durable at z (omega (arith, below)) got;
}

pub returns-clause-durable : goal.returns-clause-durable
returns-clause-durable g c = λ at s got.
    let there : slice_get c.deref-seat-items.result.now at ≡ Some s = rw c.deref-seat-items.ensures.value got in
    c.hosts.invariant.durable at s (omega (arith, slice_get_within c.deref-seat-items.result.now at s there, c.hosts-test.false)) there
