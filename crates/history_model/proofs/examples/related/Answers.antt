-- By the two example entries.
use Rattle.std.proofs.Common.{[], ◌∷◌}
use Rattle.history_model.specs.SampleEntries.{first_entry, second_entry}
use Rattle.history_model.proofs.Lists.{in_first, in_later, in_none}
use Rattle.history_model.proofs.examples.related.Goals as goal

pub returns-clause-kept : goal.returns-clause-kept
returns-clause-kept c = (in_later second_entry first_entry (second_entry ∷ []) (in_first second_entry []), in_none second_entry)
