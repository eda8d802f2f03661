use Rattle.std.proofs.Common.{◌-◌, refl, sym, ◌∙◌, arith}
use Rattle.std.proofs.lemmas.Bool.Decides.{nat_tests}
use Rattle.opmsg_frames.proofs.StatedDocuments.{goes_on, stops, ends}
use Rattle.opmsg_frames.proofs.sections.are_documents.Goals as goal

pub loop-rest-init : goal.loop-rest-init
loop-rest-init c = λ n enough. (n, record { enough = enough; same = refl })

pub returns-then-not-has_stated : goal.returns-then-not-has_stated
returns-then-not-has_stated c = λ n enough.
    let so_far = c.loop-rest.invariant n enough in
    stops c.loop-rest.rest.now c.args.bytes.now n so_far.0 so_far.1 (grind (arith, nat_tests)) (sym c.has_stated.ensures ∙ c.if-not-has_stated.true)

pub loop-rest-preserved : goal.loop-rest-preserved
loop-rest-preserved c = λ n enough.
    let so_far = c.loop-rest.invariant n enough in
    let next = goes_on c.loop-rest.rest.now c.args.bytes.now n so_far.0 so_far.1 (grind (arith, nat_tests)) (sym c.has_stated.ensures ∙ c.if-not-has_stated.false) in
    (so_far.0 - 1, rw (c.split_at.ensures.back, c.number_at.ensures) next)

pub returns : goal.returns
returns c = λ n enough.
    let so_far = c.loop-rest.invariant n enough in
    ends c.loop-rest.rest.now c.args.bytes.now n so_far.0 so_far.1 (grind (arith, nat_tests))
