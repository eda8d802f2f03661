-- By the changes that fit.
use Rattle.reply_laws.proofs.CreatedNames.{one_creation}
use Rattle.reply_laws.proofs.chunk_laws.one_creation.Goals as goal

pub returns : goal.returns
returns a account c d one i j same = one_creation account.changes one.fitting c d i j same
