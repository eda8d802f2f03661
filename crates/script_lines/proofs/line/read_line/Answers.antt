use Rattle.std.proofs.Common.{◌∙◌, sym}
use Rattle.std.proofs.lemmas.Bool.Decides.{Decides-eqb}
use Rattle.std.proofs.lemmas.Slice.Eq.{slice_eq-Decides}
use Rattle.script_lines.proofs.Reading.{word_refused}
use Rattle.script_lines.proofs.line.read_line.Goals as goal

pub returns-clause-refused : goal.returns-clause-refused
returns-clause-refused c e other =
    word_refused c.args.line.now _ _ c.in-Some.ensures.found
    (λ same. let yes = (slice_eq-Decides Decides-eqb _ _ _ c.eq.ensures).1 (same ∙ sym c.as_slice.ensures) in absurd (cc (yes, c.if-eq.false)))
    (λ same. let yes = (slice_eq-Decides Decides-eqb _ _ _ c.eq-2.ensures).1 (same ∙ sym c.as_slice-2.ensures) in absurd (cc (yes, c.if-eq-2.false)))
    (λ same. let yes = (slice_eq-Decides Decides-eqb _ _ _ c.eq-3.ensures).1 (same ∙ sym c.as_slice-3.ensures) in absurd (cc (yes, c.if-eq-3.false)))
    (λ same. let yes = (slice_eq-Decides Decides-eqb _ _ _ c.eq-4.ensures).1 (same ∙ sym c.as_slice-4.ensures) in absurd (cc (yes, c.if-eq-4.false)))
    (λ same. let yes = (slice_eq-Decides Decides-eqb _ _ _ c.eq-5.ensures).1 (same ∙ sym c.as_slice-5.ensures) in absurd (cc (yes, c.if-eq-5.false)))
    (λ same. let yes = (slice_eq-Decides Decides-eqb _ _ _ c.eq-6.ensures).1 (same ∙ sym c.as_slice-6.ensures) in absurd (cc (yes, c.if-eq-6.false)))
    other
