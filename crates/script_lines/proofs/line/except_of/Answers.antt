use Rattle.std.proofs.Common.{◌∙◌, sym, rules}
use Rattle.std.proofs.lemmas.Bool.Decides.{Decides-eqb}
use Rattle.std.proofs.lemmas.Slice.Eq.{slice_eq-Decides}
use Rattle.script_lines.proofs.Reading.{except_one_word, except_refused, except_said}
use Rattle.script_lines.proofs.line.except_of.Goals as goal

pub returns-in_default-clause-refused : goal.returns-in_default-clause-refused
returns-in_default-clause-refused c e other = except_one_word c.args.rest.now (c.in_default.ensures.none (search rules)) other

pub returns-in-Ok-clause-says : goal.returns-in-Ok-clause-says
returns-in-Ok-clause-says c =
    except_said c.args.rest.now _ _ c.in-Ok.kind.items c.in-Some.ensures.found
    ((slice_eq-Decides Decides-eqb _ _ _ c.eq.ensures).0 c.if-eq.true ∙ c.as_slice.ensures) c.in-Ok.ensures.is.0 c.in-Ok.ensures.is.1

pub returns-in-Err-clause-refused : goal.returns-in-Err-clause-refused
returns-in-Err-clause-refused c e other =
    except_refused c.args.rest.now _ _ c.in-Some.ensures.found (λ same is. c.in-Err.ensures.refused (search rules) is) other

pub returns-clause-refused : goal.returns-clause-refused
returns-clause-refused c e other =
    except_refused c.args.rest.now _ _ c.in-Some.ensures.found
    (λ same is. let yes = (slice_eq-Decides Decides-eqb _ _ _ c.eq.ensures).1 (same ∙ sym c.as_slice.ensures) in absurd (cc (yes, c.if-eq.false))) other
