-- Their numbers differ.
use Rattle.std.proofs.Common.{subst}
use Rattle.reply_facts.proofs.Requests.{one_asked, once_told}
use Rattle.reply_laws.proofs.laws.one_answer.Goals as goal
use Rattle.reply_model.specs.OneHistory.{ids_told, AreDifferent}

pub returns-clause-once : goal.returns-clause-once
returns-clause-once c account prefix middle back s t one all same = once_told prefix middle back s t (subst (λ l. AreDifferent (ids_told l)) all one.once) same

pub returns-clause-number : goal.returns-clause-number
returns-clause-number c account a b one i j same = one_asked a b account.asked one.one i j same
