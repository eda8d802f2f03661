-- No entry writes the key of another.
use Rattle.std.proofs.Common.{[], ◌∷◌, refl}
use Rattle.history_laws.specs.SampleJournals.{keyless_on}
use Rattle.history_laws.proofs.Documents.{apart_by_own}
use Rattle.history_laws.proofs.examples.keyless.Goals as goal

pub returns-clause-apart : goal.returns-clause-apart
returns-clause-apart c = ((apart_by_own (keyless_on 1 ∷ []) (keyless_on 2 ∷ []) ((refl, tt), tt), tt), (tt, tt))
