-- By the effect of one more entry.
use Rattle.history_model.proofs.LegalHistories.{others_untouched}
use Rattle.history_model.proofs.laws.others_untouched.Goals as goal

pub returns : goal.returns
returns c = others_untouched
