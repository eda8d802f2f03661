use Rattle.std.proofs.Common.{ℕ, List, ◌++◌, ◌∙◌, ap}
use Rattle.std.proofs.lemmas.Result.{on_ok_weaker}
use Rattle.value_compare.specs.Bounds.{bound_of}
use Rattle.record_model.specs.RecordFormat.{eight, spelled_list, spelled_bound}
use Rattle.record_model.specs.MoveFormat.{spelled_request, spelled_moved}
use Rattle.shard_records.specs.MoveViews.{request_view}
use Rattle.shard_records.proofs.Puts.{then}
use Rattle.shard_records.proofs.move_writer.put_received.Goals as goal

pub returns-clause-ok : goal.returns-clause-ok
returns-clause-ok c =
    let m = c.args.kept.now in
    let b3 : List ℕ = spelled_bound (bound_of m.batch.upto) ++ spelled_list spelled_moved m.batch.docs in
    let b2 : List ℕ = eight m.time.0 ++ b3 in
    let b1 : List ℕ = eight m.batch.number ++ b2 in
    on_ok_weaker c.put_docs.result
    (λ last. then c.args.out.now.items (spelled_request (request_view m.id)) b1 c.in_ok-put_request.ensures.ok
    (then c.put_request.new.out.items (eight m.batch.number) b2 c.in_ok-put_u64.ensures.ok
    (then c.put_u64.new.out.items (eight m.time.0) b3 c.in_ok-put_u64-2.ensures.ok
    (then c.put_u64-2.new.out.items (spelled_bound (bound_of m.batch.upto)) (spelled_list spelled_moved m.batch.docs) c.in_ok-put_bound.ensures.ok
    (last ∙ ap (λ (l : List _). c.put_bound.new.out.items ++ spelled_list spelled_moved l) c.as_slice.ensures)))))
    c.put_docs.ensures.ok
