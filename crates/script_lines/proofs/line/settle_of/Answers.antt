use Rattle.std.proofs.Common.{◌∙◌, sym, subst, List, ℕ}
use Rattle.std.proofs.lemmas.Bool.Decides.{Decides-eqb}
use Rattle.std.proofs.lemmas.Slice.Eq.{slice_eq-Decides}
use Rattle.std.specs.Prelude.{None}
use Rattle.script_lines.specs.Lines.{Says, says_settle, settle_line}
use Rattle.script_lines.proofs.Reading.{settle_refused}
use Rattle.script_lines.proofs.line.settle_of.Goals as goal

pub returns-then-eq-clause-says : goal.returns-then-eq-clause-says
returns-then-eq-clause-says c =
    let same = (slice_eq-Decides Decides-eqb _ _ _ c.eq.ensures).0 c.if-eq.true ∙ c.as_slice.ensures in
    subst (λ (l : List ℕ). Says l (settle_line None)) (sym same) says_settle

pub returns-else-eq-clause-refused : goal.returns-else-eq-clause-refused
returns-else-eq-clause-refused c e other =
    settle_refused c.args.line.now c.requires
    (λ same. let yes = (slice_eq-Decides Decides-eqb _ _ _ c.eq.ensures).1 (same ∙ sym c.as_slice.ensures) in absurd (cc (yes, c.if-eq.false))) other
