-- What sessions, numbers of statements and the operands of statements are by the definitions of the history, and what is stored of sessions.
use Rattle.std.specs.Prelude.{List, map}
use Rattle.cluster_base.specs.declared.identity.Session.{Session}
use Rattle.cluster_base.specs.declared.identity.Session.TheVariants.{Client, Router}
use Rattle.cluster_base.specs.declared.identity.Stmt.{Stmt}
use Rattle.value_compare.specs.declared.words.OpWords.{OpWords}
use Rattle.value_compare.specs.declared.words.OpWords.TheVariants.{Insert, Update, Delete}
use Rattle.value_compare.specs.declared.words.Reply.{Reply}
use Rattle.statement_views.specs.declared.sessions.StatementRecord.{StatementRecord}
use Rattle.statement_views.specs.declared.sessions.SessionRecord.{SessionRecord}
use Rattle.statement_views.specs.declared.sessions.Sessions.{Sessions}
use Rattle.history_model.specs.History as history
use Rattle.history_model.specs.Sessions as sessions
use Rattle.history_model.specs.History.{client_session, router_session, StatementNumber, Operation, insert_operation, update_operation, delete_operation}

abbrev pub session_view : Session → history.Session
session_view (Client id) = client_session id
session_view (Router node life request) = router_session node.0 life request

abbrev pub number_view : Stmt → StatementNumber
number_view s = record { session = session_view s.session; transaction = s.txn; index = s.index }

abbrev pub operation_view : OpWords → Operation
operation_view (Insert document) = insert_operation document
operation_view (Update filter change upsert) = update_operation filter change upsert
operation_view (Delete filter) = delete_operation filter

abbrev pub outcome_view : Reply → sessions.OutcomeWords
outcome_view r = record { count = r.n; modified = r.modified; upserted = r.upserted; code = r.code }

abbrev pub statement_record_view : StatementRecord → sessions.StatementRecord
statement_record_view s = record { index = s.index; time = s.time.0; outcome = outcome_view s.reply }

abbrev pub session_record_view : SessionRecord → sessions.SessionRecord
session_record_view s = record { session = session_view s.session; transaction = s.txn; statements = map statement_record_view s.statements.items }

abbrev pub sessions_view : Sessions → List sessions.SessionRecord
sessions_view s = map session_record_view s.sessions.items
