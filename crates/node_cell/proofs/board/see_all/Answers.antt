use Rattle.std.proofs.Common.{◌≡◌, ◌∙◌, IsTrue, refl, arith}
use Rattle.std.specs.Prelude.{Some}
use Rattle.std.specs.List.{slice_get}
use Rattle.std.proofs.lemmas.Option.{slice_get_within}
use Rattle.outside.specs.Logs.{IsDurable}
use Rattle.driver_steps.proofs.DiskNotes.{all_durable, each_next}
use Rattle.node_cell.proofs.Boards.{seen_next}
use Rattle.node_cell.proofs.board.see_all.Goals as goal

pub seats-preserved : goal.seats-preserved
seats-preserved g c = record {
  seen = seen_next g.L.Log.facts _ c.seats.seat-index c.seat-item.result c.seats.seen.items c.push_reserved.new.self.items c.of.result c.seats-test.true
      c.seat-item.is c.seats.invariant.seen c.push_reserved.ensures.items (rw (c.of.ensures, c.device.ensures.place, c.device.ensures.moment) refl);
  len = omega (arith, c.seats.invariant.len, c.push_reserved.ensures.len);
  capacity = c.push_reserved.ensures.capacity ∙ c.seats.invariant.capacity;
  durable = λ at z below got.
      each_next (λ y. IsTrue (g.L.Log.facts.is_open y.log) → IsDurable g.L.Log.facts y.log) c.deref-seat-items.result.now c.seats.seat-index
      c.seat-item.result c.seat-item.is (λ is_open. c.device.ensures.durable is_open) c.seats.invariant.durable at z (omega (arith, below)) got;
}

pub returns-clause-durable : goal.returns-clause-durable
returns-clause-durable g c =
    all_durable g.L.Log.facts c.args.seats.now.items c.requires.«open» (λ at s got.
    let there : slice_get c.deref-seat-items.result.now at ≡ Some s = rw c.deref-seat-items.ensures.value got in
    c.seats.invariant.durable at s (omega (arith, slice_get_within c.deref-seat-items.result.now at s there, c.seats-test.false)) there)
