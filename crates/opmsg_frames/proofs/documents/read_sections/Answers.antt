use Rattle.std.proofs.Common.{◌∙◌, arith}
use Rattle.std.proofs.lemmas.Result.{err_from_is_err_and}
use Rattle.opmsg_frames.proofs.SectionReads.{next_left, at_body, at_sequence, at_end, no_other_kind, no_bad_size}
use Rattle.opmsg_frames.proofs.SectionWalk.{content_within}
use Rattle.opmsg_frames.proofs.documents.read_sections.Goals as goal

pub returns-in-Nothing : goal.returns-in-Nothing
returns-in-Nothing c = λ sections split each one.
    let so_far = c.sections.invariant.left sections split each one in
    at_end sections so_far.0 c.sections.rest.now c.sections.doc c.sections.sequences (c.in-Nothing.ensures.next ∙ next_left sections so_far.0 c.sections.rest.now c.sections.doc c.sections.sequences so_far.1) so_far.1

pub returns-in-UnknownKind : goal.returns-in-UnknownKind
returns-in-UnknownKind c = λ sections split each one.
    let so_far = c.sections.invariant.left sections split each one in
    absurd (no_other_kind so_far.0 (c.in-UnknownKind.ensures.next ∙ next_left sections so_far.0 c.sections.rest.now c.sections.doc c.sections.sequences so_far.1))

pub returns-in-BadSize : goal.returns-in-BadSize
returns-in-BadSize c = λ sections split each one.
    let so_far = c.sections.invariant.left sections split each one in
    absurd (no_bad_size so_far.0 (c.in-BadSize.ensures.next ∙ next_left sections so_far.0 c.sections.rest.now c.sections.doc c.sections.sequences so_far.1))

pub returns-in_err-doc-in-Body : goal.returns-in_err-doc-in-Body
returns-in_err-doc-in-Body c = λ sections split each one.
    let so_far = c.sections.invariant.left sections split each one in
    let at = at_body sections so_far.0 c.sections.rest.now c.sections.doc c.sections.sequences c.in-Body.document.now c.in-Body.behind.now (c.in-Body.ensures.next ∙ next_left sections so_far.0 c.sections.rest.now c.sections.doc c.sections.sequences so_far.1) so_far.1 in
    let p = err_from_is_err_and c.from_residual.result c.from_residual.ensures.1 in
    rw (p.1, p.2) (λ known. let h = c.in_err-doc-in-Body.ensures.kept at.stated known in (h.0, h.1, h.2, at.faulty h.0 h.1 h.3))

pub sections-preserved-in-Body : goal.sections-preserved-in-Body
sections-preserved-in-Body c = record {
  short = omega (arith, c.sections.invariant.short, c.in-Body.ensures.shorter);
  left = λ sections split each one.
      let so_far = c.sections.invariant.left sections split each one in
      let at = at_body sections so_far.0 c.sections.rest.now c.sections.doc c.sections.sequences c.in-Body.document.now c.in-Body.behind.now (c.in-Body.ensures.next ∙ next_left sections so_far.0 c.sections.rest.now c.sections.doc c.sections.sequences so_far.1) so_far.1 in
      at.kept c.in_ok-doc-in-Body.doc (c.in_ok-doc-in-Body.ensures.kept at.stated);
}

pub returns-in_err-take_sequence-in-Sequence :
    goal.returns-in_err-take_sequence-in-Sequence
returns-in_err-take_sequence-in-Sequence c = λ sections split each one.
    let so_far = c.sections.invariant.left sections split each one in
    let at = at_sequence sections so_far.0 c.sections.rest.now c.sections.doc c.sections.sequences c.in-Sequence.content.now c.in-Sequence.behind.now (c.in-Sequence.ensures.next ∙ next_left sections so_far.0 c.sections.rest.now c.sections.doc c.sections.sequences so_far.1) so_far.1 in
    let p = err_from_is_err_and c.from_residual-in_err-take_sequence-in-Sequence.result c.from_residual-in_err-take_sequence-in-Sequence.ensures.1 in
    rw (p.1, p.2) (λ known. let h = c.in_err-take_sequence-in-Sequence.ensures at.identifier at.documents at.split at.section known in (h.0, h.1, h.2, at.faulty h.0 h.1 h.3))

pub sections-preserved : goal.sections-preserved
sections-preserved c = record {
  short = omega (arith, c.sections.invariant.short, c.in-Sequence.ensures.shorter);
  left = λ sections split each one.
      let so_far = c.sections.invariant.left sections split each one in
      let at = at_sequence sections so_far.0 c.sections.rest.now c.sections.doc c.sections.sequences c.in-Sequence.content.now c.in-Sequence.behind.now (c.in-Sequence.ensures.next ∙ next_left sections so_far.0 c.sections.rest.now c.sections.doc c.sections.sequences so_far.1) so_far.1 in
      let h = c.in_ok-take_sequence-in-Sequence.ensures at.identifier at.documents at.split at.section in
      rw h.2 (at.kept h.0 h.1);
}

pub take_sequence-requires : goal.take_sequence-requires
take_sequence-requires c = omega (arith, c.sections.invariant.short, content_within c.sections.rest.now c.in-Sequence.content.now c.in-Sequence.behind.now c.in-Sequence.ensures.next)
