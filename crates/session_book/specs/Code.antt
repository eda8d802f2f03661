-- How what is stored of a session is compared with others: as its numbers, and the keys in it as values.
use Rattle.std.specs.Prelude.{ℕ, ℤ, List, Option, refl}
use Rattle.std.specs.Coded.{Coded, code_by, coded×, coded_ℕ, coded_ℤ, coded_list, coded_option}
use Rattle.value_compare.specs.Code.{datum_code}
use Rattle.bson_model.specs.Tree.{Datum}
use Rattle.value_compare.specs.declared.words.Reply.{Reply}
use Rattle.statement_views.specs.declared.sessions.StatementRecord.{StatementRecord}
use Rattle.session_book.specs.Statements.{Statements}

abbrev pub ReplyParts : Type 0
ReplyParts = (ℕ × ℕ) × (Option Datum × ℤ)

abbrev pub reply_code : Coded Reply
reply_code = code_by ReplyParts (coded× (coded× coded_ℕ coded_ℕ) (coded× (coded_option datum_code) coded_ℤ))
    (λ r. ((r.n, r.modified), (r.upserted, r.code))) (λ p. record { n = p.0.0; modified = p.0.1; upserted = p.1.0; code = p.1.1 }) (λ _. refl)

abbrev pub NotedParts : Type 0
NotedParts = (ℕ × ℕ) × Reply

abbrev pub noted_code : Coded StatementRecord
noted_code = code_by NotedParts (coded× (coded× coded_ℕ coded_ℕ) reply_code)
    (λ n. ((n.index, n.time.0), n.reply)) (λ p. record { index = p.0.0; time = record { 0 = p.0.1 }; reply = p.1 }) (λ _. refl)

abbrev pub StatementsParts : Type 0
StatementsParts = (ℤ × ℕ) × List StatementRecord

abbrev pub statements_code : Coded Statements
statements_code = code_by StatementsParts (coded× (coded× coded_ℤ coded_ℕ) (coded_list noted_code))
    (λ s. ((s.transaction, s.room), s.notes)) (λ p. record { transaction = p.0.0; notes = p.1; room = p.0.1 }) (λ _. refl)
