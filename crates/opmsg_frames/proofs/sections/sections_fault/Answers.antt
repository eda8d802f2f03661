use Rattle.std.proofs.Common.{◌-◌, refl, ◌∙◌, arith}
use Rattle.opmsg_frames.proofs.SectionWalk.{behind_body, behind_sequence, all_seen, kind_unknown, size_bad}
use Rattle.opmsg_frames.proofs.sections.sections_fault.Goals as goal

pub sections-init : goal.sections-init
sections-init c = record { room = omega arith; same = λ n enough. (n, record { enough = enough; same = refl }) }

pub returns-in-Nothing : goal.returns-in-Nothing
returns-in-Nothing c = λ n enough.
    let so_far = c.sections.invariant.same n enough in
    c.ended_fault.ensures ∙ all_seen c.sections.bodies c.sections.bad c.sections.rest.now c.args.bytes.now n so_far.0 so_far.1 c.in-Nothing.ensures.next

pub returns-in-UnknownKind : goal.returns-in-UnknownKind
returns-in-UnknownKind c = λ n enough.
    let so_far = c.sections.invariant.same n enough in
    kind_unknown c.sections.bodies c.sections.bad c.sections.rest.now c.args.bytes.now n so_far.0 so_far.1 c.in-UnknownKind.ensures.next

pub returns-in-BadSize : goal.returns-in-BadSize
returns-in-BadSize c = λ n enough.
    let so_far = c.sections.invariant.same n enough in
    size_bad c.sections.bodies c.sections.bad c.sections.rest.now c.args.bytes.now n so_far.0 so_far.1 c.in-BadSize.ensures.next

pub sections-preserved-in-Body : goal.sections-preserved-in-Body
sections-preserved-in-Body c = record {
  room = omega (arith, c.in-Body.ensures.shorter, c.sections.invariant.room);
  same = λ n enough.
      let so_far = c.sections.invariant.same n enough in
      (so_far.0 - 1, behind_body c.sections.bodies c.sections.bad c.sections.rest.now c.args.bytes.now n so_far.0 so_far.1 c.in-Body.document.now c.in-Body.behind.now c.in-Body.ensures.next c.in-Body.ensures.shorter);
}

pub sections-preserved-then-bad : goal.sections-preserved-then-bad
sections-preserved-then-bad c = record {
  room = omega (arith, c.in-Sequence.ensures.shorter, c.sections.invariant.room);
  same = λ n enough.
      let so_far = c.sections.invariant.same n enough in (
        so_far.0 - 1,
        let next = behind_sequence c.sections.bodies c.sections.bad c.sections.rest.now c.args.bytes.now n so_far.0 so_far.1 c.in-Sequence.content.now c.in-Sequence.behind.now c.in-Sequence.ensures.next c.in-Sequence.ensures.shorter in
            rw c.if-bad.true (rw c.if-bad.true at next),
      );
}

pub sections-preserved : goal.sections-preserved
sections-preserved c = record {
  room = omega (arith, c.in-Sequence.ensures.shorter, c.sections.invariant.room);
  same = λ n enough.
      let so_far = c.sections.invariant.same n enough in (
        so_far.0 - 1,
        let next = behind_sequence c.sections.bodies c.sections.bad c.sections.rest.now c.args.bytes.now n so_far.0 so_far.1 c.in-Sequence.content.now c.in-Sequence.behind.now c.in-Sequence.ensures.next c.in-Sequence.ensures.shorter in
            rw c.is_sequence.ensures (rw c.if-bad.false at next),
      );
}
