use Rattle.std.proofs.Common.{sym, ◌∙◌, arith}
use Rattle.std.proofs.lemmas.Result.{err_from_is_err_and}
use Rattle.opmsg_frames.proofs.DocumentReads.{first, all_read}
use Rattle.opmsg_frames.proofs.documents.read_documents.Goals as goal

pub returns-in_err-read_whole : goal.returns-in_err-read_whole
returns-in_err-read_whole c = λ documents split stated.
    let so_far = c.loop-rest.invariant.left documents split stated in
    let f = first documents so_far.0 c.loop-rest.rest.now c.loop-rest.list c.number_at.result c.split_at.result.0.now c.split_at.result.1.now c.number_at.ensures c.split_at.ensures.front c.split_at.ensures.back (sym c.has_stated.ensures ∙ c.loop-rest-test.true) so_far.1 in
    let p = err_from_is_err_and c.from_residual.result c.from_residual.ensures.1 in
    rw (p.1, p.2)
    (λ known. let h = c.in_err-read_whole.ensures.kept f.stated known in (h.0, h.1, h.2, f.faulty h.0 h.1 h.3))

pub loop-rest-preserved : goal.loop-rest-preserved
loop-rest-preserved c = record {
  short = omega (arith, c.loop-rest.invariant.short, c.split_at.ensures.back_len);
  left = λ documents split stated.
      let so_far = c.loop-rest.invariant.left documents split stated in
      let f = first documents so_far.0 c.loop-rest.rest.now c.loop-rest.list c.number_at.result c.split_at.result.0.now c.split_at.result.1.now c.number_at.ensures c.split_at.ensures.front c.split_at.ensures.back (sym c.has_stated.ensures ∙ c.loop-rest-test.true) so_far.1 in
      rw c.in_ok-push.ensures.ok (f.kept c.in_ok-read_whole.field-0 (c.in_ok-read_whole.ensures.kept f.stated));
}

pub returns : goal.returns
returns c = λ documents split stated.
    let so_far = c.loop-rest.invariant.left documents split stated in
    all_read documents so_far.0 c.loop-rest.rest.now c.loop-rest.list (sym c.has_stated.ensures ∙ c.loop-rest-test.false) so_far.1
