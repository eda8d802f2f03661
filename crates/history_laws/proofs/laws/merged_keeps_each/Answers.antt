-- By the journal of each entry and of each key.
use Rattle.std.specs.Prelude.{List}
use Rattle.history_model.specs.History.{Entry, IsIn}
use Rattle.history_model.proofs.Lists.{all_at}
use Rattle.history_laws.specs.Merged.{merged}
use Rattle.history_laws.proofs.Merging.{merged_permutes, kept_merged, in_merged, in_a_journal}
use Rattle.history_laws.proofs.Documents.{own_writes, own_document, in_own_journal}
use Rattle.history_laws.proofs.laws.merged_keeps_each.Goals as goal

pub returns-clause-entries : goal.returns-clause-entries
returns-clause-entries c = merged_permutes

pub returns-clause-found : goal.returns-clause-found
returns-clause-found c = λ e before after journal i. in_merged e journal before after i

pub returns-clause-own : goal.returns-clause-own
returns-clause-own c = λ e journals i.
    all_at (λ (x : Entry). (journal : List Entry) × IsIn journal journals × IsIn x journal) e (merged journals) (in_a_journal journals) i

pub returns-clause-writes : goal.returns-clause-writes
returns-clause-writes c = own_writes

pub returns-clause-documents : goal.returns-clause-documents
returns-clause-documents c = own_document

pub returns-clause-others : goal.returns-clause-others
returns-clause-others c = in_own_journal

pub returns-clause-kept : goal.returns-clause-kept
returns-clause-kept c = kept_merged
