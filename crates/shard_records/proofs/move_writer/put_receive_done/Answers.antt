use Rattle.std.proofs.Common.{List, ◌++◌, ◌∙◌, ap, map}
use Rattle.std.proofs.lemmas.Result.{on_ok_weaker}
use Rattle.statement_views.specs.Views.{session_record_view}
use Rattle.record_model.specs.RecordFormat.{spelled_list}
use Rattle.record_model.specs.MoveFormat.{spelled_request, spelled_session_record}
use Rattle.shard_records.specs.MoveViews.{request_view}
use Rattle.shard_records.proofs.Puts.{then}
use Rattle.shard_records.proofs.move_writer.put_receive_done.Goals as goal

pub returns-clause-ok : goal.returns-clause-ok
returns-clause-ok c =
    let m = c.args.kept.now in
    on_ok_weaker c.put_sessions.result
    (λ last. then c.args.out.now.items (spelled_request (request_view m.id)) (spelled_list spelled_session_record (map session_record_view m.sessions.sessions.items)) c.in_ok-put_request.ensures.ok
    (last ∙ ap (λ (l : List _). c.put_request.new.out.items ++ spelled_list spelled_session_record (map session_record_view l)) c.deref.ensures.value))
    c.put_sessions.ensures.ok
