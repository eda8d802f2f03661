-- Each entry follows those before it that write its key.
use Rattle.history_laws.proofs.LegalByKeys.{legal_by_keys}
use Rattle.history_laws.proofs.laws.legal_by_keys.Goals as goal

pub returns : goal.returns
returns c = legal_by_keys
