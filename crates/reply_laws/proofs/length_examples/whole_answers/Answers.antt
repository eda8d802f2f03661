-- Only seven such documents have more bytes than an answer may have.
use Rattle.std.proofs.Common.{◌≡◌, ℕ, ◌*◌, List, ap, ◌∙◌, arith, codes}
use Rattle.std.specs.Prelude.{Some}
use Rattle.bson_model.specs.Tree.{Fields}
use Rattle.base_model.specs.Times.{timestamp}
use Rattle.pipeline_model.specs.Lengths.{documents_length, excess_of_answer}
use Rattle.history_model.specs.History.{Entry}
use Rattle.history_model.specs.Documents.{documents_at}
use Rattle.reply_laws.proofs.LongAnswers.{IsLengthOf, excess_by, length_together, of_whole, of_first, whole_is}
use Rattle.reply_laws.proofs.length_examples.whole_answers.Goals as goal

abbrev there : List Entry → List Fields
there history = documents_at history (codes "d.c") (timestamp 1000 4)

pub returns-clause-seven : goal.returns-clause-seven
returns-clause-seven c history held =
    let many : documents_length (there history) ≡ 117440512 = length_together 16777216 (there history) held.long ∙ ap (λ k. k * 16777216) held.many in
    let is : excess_of_answer (there history) ≡ Some 117440512 = ap (λ k. excess_by (there history) k) many in
    whole_is history 16777216 7 0 held 117440512 is

only_seven : (n : ℕ) → IsLengthOf 16777216 7 n → n ≡ 117440512
only_seven n is =
    let few = is.few in
    let more = is.more in
    let same : is.some ≡ 7 = omega arith in
    is.length_of ∙ ap (λ k. k * 16777216) same

never_six : (n : ℕ) → IsLengthOf 16777216 6 n → ⊥
never_six n is =
    let few = is.few in
    let more = is.more in
    omega arith

pub returns-clause-seven_alone : goal.returns-clause-seven_alone
returns-clause-seven_alone c history n held long = only_seven n (of_whole history 16777216 7 n held (omega arith) long)

pub returns-clause-six : goal.returns-clause-six
returns-clause-six c history n held long = never_six n (of_whole history 16777216 6 n held (omega arith) long)

pub returns-clause-first_six : goal.returns-clause-first_six
returns-clause-first_six c history spec n held long = never_six n (of_first history 16777216 7 n held spec 6 (omega arith) long)
