use Rattle.std.proofs.Common.{◌∷◌, ◌++◌, sym, subst, List, ℕ, rules}
use Rattle.std.specs.Prelude.{codes}
use Rattle.script_lines.specs.Lines.{Says, says_client, client_line}
use Rattle.script_lines.proofs.Reading.{client_one_word, client_refused}
use Rattle.script_lines.proofs.line.client_of.Goals as goal

pub returns-in_default-clause-refused : goal.returns-in_default-clause-refused
returns-in_default-clause-refused c e other = client_one_word c.args.rest.now (c.in_default.ensures.none (search rules)) other

pub returns-in_default-number_of-clause-refused : goal.returns-in_default-number_of-clause-refused
returns-in_default-number_of-clause-refused c e other =
    client_refused c.args.rest.now _ _ c.in-Some.ensures.found (λ router bytes n h. c.in_default-number_of.not-Some router
    (c.number_of.ensures.only router n)) other

pub returns-in-Err-clause-refused : goal.returns-in-Err-clause-refused
returns-in-Err-clause-refused c e other =
    client_refused c.args.rest.now _ _ c.in-Some.ensures.found (λ router bytes n h. c.in-Err.ensures.refused (search rules) bytes h) other

pub returns-in-Ok-clause-says : goal.returns-in-Ok-clause-says
returns-in-Ok-clause-says c =
    let cut = c.in-Some.ensures.found in
    subst (λ (l : List ℕ). Says (codes "client" ++ 32 ∷ l) (client_line c.in-Some-number_of.router c.in-Ok.bytes.items)) (sym cut.whole)
    (says_client _ _ c.in-Some-number_of.router c.in-Ok.bytes.items c.in-Some-number_of.ensures.is c.in-Ok.ensures.is)
