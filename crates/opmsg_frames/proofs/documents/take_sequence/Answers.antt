use Rattle.std.proofs.lemmas.Result.{err_from_is_err_and}
use Rattle.opmsg_frames.proofs.SectionPrefixes.{parts_read, some_parts}
use Rattle.opmsg_frames.proofs.documents.take_sequence.Goals as goal

pub returns-in_err-documents-in-Some : goal.returns-in_err-documents-in-Some
returns-in_err-documents-in-Some c = λ identifier documents split section.
    let r = parts_read c.args.content.now c.in-Some.identifier.now c.in-Some.documents.now identifier documents c.in-Some.ensures.parts split section in
    let p = err_from_is_err_and c.from_residual-in_err-documents-in-Some.result c.from_residual-in_err-documents-in-Some.ensures.1 in
    rw (p.1, p.2) (λ known. c.in_err-documents-in-Some.ensures documents r.1 section.2 known)

pub returns-in_ok-push-in-Some : goal.returns-in_ok-push-in-Some
returns-in_ok-push-in-Some c = λ identifier documents split section.
    let r = parts_read c.args.content.now c.in-Some.identifier.now c.in-Some.documents.now identifier documents c.in-Some.ensures.parts split section in
    (c.in_ok-documents-in-Some.documents, c.in_ok-documents-in-Some.ensures documents r.1 section.2, rw (c.in_ok-identifier-in-Some.ensures, r.0) at c.in_ok-push-in-Some.ensures.ok)

pub returns-in-None : goal.returns-in-None
returns-in-None c = λ identifier documents split section. absurd (some_parts c.args.content.now identifier documents c.in-None.ensures.parts split section)
