use Rattle.std.proofs.Common.{◌≤◌, ◌<◌, ◌∙◌, length, ap, subst, sym, arith, List}
use Rattle.std.specs.Prelude.{Bool}
use Rattle.sim_driver.specs.Scripts.{AreDelivered, marked}
use Rattle.sim_driver.proofs.Marks.{kept_marked, kept_more, marked_more, marked_set}
use Rattle.sim_driver.proofs.delivered.mark.Goals as goal

pub places-preserved : goal.places-preserved
places-preserved c =
    let past : length c.places.flags.items ≤ c.args.place = omega (arith, c.places-test.true, c.len.ensures, c.places.flags.ok.0) in
    record {
      same = ap (λ (l : List Bool). marked c.args.place l) c.in_ok-push.ensures.items ∙ (marked_more c.args.place c.places.flags.items past
          ∙ c.places.invariant.same);
      kept = λ before all. subst (λ (l : List Bool). AreDelivered before l) (sym c.in_ok-push.ensures.items)
          (kept_more before c.places.flags.items (c.places.invariant.kept before all));
    }

pub returns-clause-marked : goal.returns-clause-marked
returns-clause-marked c =
    let within : c.args.place < length c.places.flags.items = omega (arith, c.places-test.false, c.len.ensures, c.places.flags.ok.0) in
    sym (marked_set c.args.place c.places.flags.items within) ∙ c.places.invariant.same

pub returns-clause-kept : goal.returns-clause-kept
returns-clause-kept c before all =
    let within : c.args.place < length c.places.flags.items = omega (arith, c.places-test.false, c.len.ensures, c.places.flags.ok.0) in
    subst (λ (l : List Bool). AreDelivered before l) (marked_set c.args.place c.places.flags.items within)
    (kept_marked before c.args.place c.places.flags.items (c.places.invariant.kept before all))
