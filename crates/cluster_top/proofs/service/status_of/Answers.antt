use Rattle.std.proofs.Common.{inl, inr, refl}
use Rattle.cluster_top.proofs.service.status_of.Goals as goal

pub returns-in-Refused-clause-refused : goal.returns-in-Refused-clause-refused
returns-in-Refused-clause-refused c = λ is. (c.in-Refused.index, c.in-Refused.is)

pub returns-in-Refused-clause-two : goal.returns-in-Refused-clause-two
returns-in-Refused-clause-two c = inl refl

pub returns-in-Memory-clause-refused : goal.returns-in-Memory-clause-refused
returns-in-Memory-clause-refused c = λ is. absurd (cc is)

pub returns-in-Memory-clause-two : goal.returns-in-Memory-clause-two
returns-in-Memory-clause-two c = inr refl
