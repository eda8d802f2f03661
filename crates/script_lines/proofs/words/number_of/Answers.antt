use Rattle.std.proofs.Common.{◌≡◌, ◌∙◌, sym, ap}
use Rattle.std.specs.Fmt.{decimal}
use Rattle.std.proofs.lemmas.Bool.Decides.{Decides-eqb}
use Rattle.std.proofs.lemmas.Fmt.{parse-decimal}
use Rattle.std.proofs.lemmas.Slice.Eq.{slice_eq-Decides}
use Rattle.script_lines.proofs.Cuts.{number_utf8}
use Rattle.script_lines.proofs.words.number_of.Goals as goal

pub returns-in_default-clause-only : goal.returns-in_default-clause-only
returns-in_default-clause-only c n is = absurd (c.in_default.ensures.cases.0 (number_utf8 c.args.word.now n is))

pub returns-in_default-parse-clause-only : goal.returns-in_default-parse-clause-only
returns-in_default-parse-clause-only c n is =
    let read = parse-decimal 64 n c.in-Ok.text.now c.parse.result is.fits is.fits (c.in-Ok.ensures.cases.0 ∙ is.digits) c.parse.ensures.value.0 in
    absurd (c.in_default-parse.not-Ok n read)

pub returns-then-eq-clause-only : goal.returns-then-eq-clause-only
returns-then-eq-clause-only c n is =
    let read = parse-decimal 64 n c.in-Ok.text.now c.parse.result is.fits is.fits (c.in-Ok.ensures.cases.0 ∙ is.digits) c.parse.ensures.value.0 in
    cc (read, c.in-Ok-parse.is)

pub returns-else-eq-clause-only : goal.returns-else-eq-clause-only
returns-else-eq-clause-only c n is =
    let read = parse-decimal 64 n c.in-Ok.text.now c.parse.result is.fits is.fits (c.in-Ok.ensures.cases.0 ∙ is.digits) c.parse.ensures.value.0 in
    let same : c.in-Ok-parse.n ≡ n = cc (read, c.in-Ok-parse.is) in
    let written : c.as_bytes.result.now ≡ c.args.word.now = c.as_bytes.ensures.value ∙ (c.format.ensures.text ∙ (ap decimal same ∙ sym is.digits)) in
    let yes = (slice_eq-Decides Decides-eqb _ _ _ c.eq.ensures).1 written in
    absurd (cc (yes, c.if-eq.false))
