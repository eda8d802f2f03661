use Rattle.std.proofs.Common.{◌∙◌, sym}
use Rattle.history_model.specs.Notes.{seen}
use Rattle.history_model.proofs.Merged.{both_itself, both_joined, new_by_both, seen_after_others}
use Rattle.history_model.proofs.laws.notes_of_both.Goals as goal

pub returns-clause-both : goal.returns-clause-both
returns-clause-both g c = seen_after_others

pub returns-clause-covered : goal.returns-clause-covered
returns-clause-covered g c = λ notes others number new. new_by_both (seen notes number) (seen others number) (sym (seen_after_others notes others number) ∙ new)

pub returns-clause-joined : goal.returns-clause-joined
returns-clause-joined g c = both_joined

pub returns-clause-itself : goal.returns-clause-itself
returns-clause-itself g c = both_itself
