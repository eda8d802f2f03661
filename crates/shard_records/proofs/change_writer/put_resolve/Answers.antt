use Rattle.std.proofs.Common.{ℕ, List, ◌++◌}
use Rattle.std.proofs.lemmas.Result.{on_ok_weaker}
use Rattle.record_model.specs.RecordFormat.{eight, spelled_string}
use Rattle.record_model.specs.MoveFormat.{spelled_request, spelled_range}
use Rattle.shard_records.specs.MoveViews.{request_view}
use Rattle.shard_records.proofs.Puts.{then}
use Rattle.shard_records.proofs.change_writer.put_resolve.Goals as goal

pub returns-clause-ok : goal.returns-clause-ok
returns-clause-ok c =
    let m = c.args.kept.now in
    let b2 : List ℕ = spelled_range m.range ++ eight m.at.0 in
    let b1 : List ℕ = spelled_string m.namespace ++ b2 in
    on_ok_weaker c.put_u64.result
    (λ last. then c.args.out.now.items (spelled_request (request_view m.id)) b1 c.in_ok-put_request.ensures.ok
    (then c.put_request.new.out.items (spelled_string m.namespace) b2 c.in_ok-put_namespace.ensures.ok
    (then c.put_namespace.new.out.items (spelled_range m.range) (eight m.at.0) c.in_ok-put_range.ensures.ok
    (last))))
    c.put_u64.ensures.ok
