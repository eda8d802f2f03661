use Rattle.std.proofs.Common.{lit<}
use Rattle.cluster_base.proofs.Splits.{cut_answer, uncut_answer}
use Rattle.cluster_base.proofs.namespace.is_namespace.Goals as goal

pub returns-in-Some : goal.returns-in-Some
returns-in-Some c =
    let cut = c.in-Some.ensures.byte (lit< tt) (λ w o h. h) in
    cut_answer _ _ _ _ cut.0 cut.1 cut.2 c.make_namespace.ensures

pub returns-in-None : goal.returns-in-None
returns-in-None c =
    let uncut = c.in-None.ensures.byte (lit< tt) (λ w o h. h) in
    (λ no. cc, λ n. absurd (uncut_answer _ uncut n))
