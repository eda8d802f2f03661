use Rattle.std.proofs.Common.{ℕ, List, ◌++◌}
use Rattle.std.proofs.lemmas.Result.{on_ok_weaker}
use Rattle.record_model.specs.RecordFormat.{eight, spelled_table}
use Rattle.record_model.specs.MoveFormat.{spelled_request, spelled_flag}
use Rattle.shard_records.specs.MoveViews.{request_view}
use Rattle.shard_records.proofs.Puts.{then}
use Rattle.shard_records.proofs.move_writer.put_move_end.Goals as goal

pub returns-clause-ok : goal.returns-clause-ok
returns-clause-ok c =
    let m = c.args.kept.now in
    let b3 : List ℕ = eight m.time.0 ++ eight m.due in
    let b2 : List ℕ = spelled_table m.table ++ b3 in
    let b1 : List ℕ = spelled_flag m.committed ++ b2 in
    on_ok_weaker c.put_u64-2.result
    (λ last. then c.args.out.now.items (spelled_request (request_view m.id)) b1 c.in_ok-put_request.ensures.ok
    (then c.put_request.new.out.items (spelled_flag m.committed) b2 c.in_ok-put_flag.ensures.ok
    (then c.put_flag.new.out.items (spelled_table m.table) b3 c.in_ok-put_table.ensures.ok
    (then c.put_table.new.out.items (eight m.time.0) (eight m.due) c.in_ok-put_u64.ensures.ok
    (last)))))
    c.put_u64-2.ensures.ok
