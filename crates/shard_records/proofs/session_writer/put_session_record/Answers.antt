use Rattle.std.proofs.Common.{ℕ, List, ◌++◌, ◌∙◌, ap, map}
use Rattle.std.proofs.lemmas.Result.{on_ok_weaker}
use Rattle.statement_views.specs.Views.{session_view, statement_record_view}
use Rattle.record_model.specs.RecordFormat.{spelled_session, spelled_list}
use Rattle.record_model.specs.MoveFormat.{spelled_statement, spelled_transaction}
use Rattle.shard_records.proofs.Puts.{then}
use Rattle.shard_records.proofs.session_writer.put_session_record.Goals as goal

pub returns-clause-ok : goal.returns-clause-ok
returns-clause-ok c =
    let m = c.args.kept.now in
    let b1 : List ℕ = spelled_transaction m.txn ++ spelled_list spelled_statement (map statement_record_view m.statements.items) in
    on_ok_weaker c.put_statements.result
    (λ last. then c.args.out.now.items (spelled_session (session_view m.session)) b1 c.in_ok-put_session.ensures.ok
    (then c.put_session.new.out.items (spelled_transaction m.txn) (spelled_list spelled_statement (map statement_record_view m.statements.items)) c.in_ok-put_transaction.ensures.ok
    (last ∙ ap (λ (l : List _). c.put_transaction.new.out.items ++ spelled_list spelled_statement (map statement_record_view l)) c.deref.ensures.value)))
    c.put_statements.ensures.ok
