use Rattle.group_accum.proofs.OwnRows.{of_documents}
use Rattle.group_accum.proofs.laws.rows_stand_for_documents.Goals as goal

pub returns : goal.returns
returns c = λ spec docs parts partials rows h joined. of_documents spec parts partials docs rows h joined
