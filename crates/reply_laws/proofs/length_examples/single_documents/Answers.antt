-- One document is an answer.
use Rattle.std.proofs.Common.{List, arith, codes}
use Rattle.bson_model.specs.Tree.{Fields}
use Rattle.base_model.specs.Times.{timestamp}
use Rattle.history_model.specs.History.{Entry}
use Rattle.history_model.specs.Documents.{documents_at}
use Rattle.reply_laws.proofs.LongAnswers.{of_whole, whole_is, longer_is, only_longer}
use Rattle.reply_laws.proofs.length_examples.single_documents.Goals as goal

abbrev there : List Entry → List Fields
there history = documents_at history (codes "d.c") (timestamp 1000 4)

pub returns-clause-longest_kept : goal.returns-clause-longest_kept
returns-clause-longest_kept c history n held long =
    let is = of_whole history 16777216 1 n held (omega arith) long in
    let few = is.few in
    let more = is.more in
    omega arith

pub returns-clause-longer : goal.returns-clause-longer
returns-clause-longer c history held = whole_is history 16777217 1 0 held 16777217 (longer_is (there history) held.many held.long)

pub returns-clause-longer_alone : goal.returns-clause-longer_alone
returns-clause-longer_alone c history n held long = only_longer history n held long
