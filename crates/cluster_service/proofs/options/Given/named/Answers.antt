use Rattle.std.specs.Prelude.{Option}
use Rattle.std.proofs.Common.{◌∙◌, ap, arith}
use Rattle.std.proofs.lemmas.Str.Pattern.{split_once_first}
use Rattle.cluster_service.specs.Options.{assigned, awaited}
use Rattle.cluster_service.specs.declared.options.Name.{Name}
use Rattle.cluster_service.proofs.OptionWords.{with_sign, without_sign}
use Rattle.cluster_service.proofs.options.Given.named.Goals as goal

pub returns-in-Some : goal.returns-in-Some
returns-in-Some c =
    let cut = rw c.in-Some.is at (split_once_first 61 c.args.word.now c.split_once.result c.split_once.ensures.cases (omega arith)) in
    c.assign.ensures
    ∙ (ap (λ (n : Option Name). assigned n c.in-Some.value.now c.args.self) c.of.ensures
    ∙ with_sign c.args.word.now c.in-Some.name.now c.in-Some.value.now c.args.self cut)

pub returns-in-None : goal.returns-in-None
returns-in-None c =
    let none = rw c.in-None.is at (split_once_first 61 c.args.word.now c.split_once.result c.split_once.ensures.cases (omega arith)) in
    c.wait.ensures ∙ (ap (λ (n : Option Name). awaited n c.args.self) c.of-in-None.ensures ∙ without_sign c.args.word.now c.args.self none)
