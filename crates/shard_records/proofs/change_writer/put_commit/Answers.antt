use Rattle.std.proofs.Common.{ℕ, List, ◌++◌}
use Rattle.std.proofs.lemmas.Result.{on_ok_weaker}
use Rattle.record_model.specs.RecordFormat.{four, eight, spelled_string}
use Rattle.record_model.specs.MoveFormat.{spelled_request, spelled_range}
use Rattle.shard_records.specs.MoveViews.{request_view}
use Rattle.shard_records.proofs.Puts.{then}
use Rattle.shard_records.proofs.change_writer.put_commit.Goals as goal

pub returns-clause-ok : goal.returns-clause-ok
returns-clause-ok c =
    let m = c.args.kept.now in
    let b4 : List ℕ = four m.to.0 ++ eight m.at.0 in
    let b3 : List ℕ = four m.from.0 ++ b4 in
    let b2 : List ℕ = spelled_range m.range ++ b3 in
    let b1 : List ℕ = spelled_string m.namespace ++ b2 in
    on_ok_weaker c.put_u64.result
    (λ last. then c.args.out.now.items (spelled_request (request_view m.id)) b1 c.in_ok-put_request.ensures.ok
    (then c.put_request.new.out.items (spelled_string m.namespace) b2 c.in_ok-put_namespace.ensures.ok
    (then c.put_namespace.new.out.items (spelled_range m.range) b3 c.in_ok-put_range.ensures.ok
    (then c.put_range.new.out.items (four m.from.0) b4 c.in_ok-put_u32.ensures.ok
    (then c.put_u32.new.out.items (four m.to.0) (eight m.at.0) c.in_ok-put_u32-2.ensures.ok
    (last))))))
    c.put_u64.ensures.ok

pub returns-clause-held : goal.returns-clause-held
returns-clause-held c = on_ok_weaker c.put_u64.result (λ last. (c.put_namespace.ensures.text, c.put_range.ensures.held)) c.put_u64.ensures.ok
