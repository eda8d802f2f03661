-- Each entry follows those that it followed in its journal.
use Rattle.history_laws.proofs.MergedLegal.{merged_legal}
use Rattle.history_laws.proofs.laws.merged_is_legal.Goals as goal

pub returns : goal.returns
returns c = merged_legal
