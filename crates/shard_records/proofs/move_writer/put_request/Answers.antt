use Rattle.std.proofs.Common.{ℕ, List, ◌++◌}
use Rattle.std.proofs.lemmas.Result.{on_ok_weaker}
use Rattle.record_model.specs.RecordFormat.{four, eight}
use Rattle.shard_records.proofs.Puts.{then}
use Rattle.shard_records.proofs.move_writer.put_request.Goals as goal

pub returns-clause-ok : goal.returns-clause-ok
returns-clause-ok c =
    let m = c.args.id.now in
    let b1 : List ℕ = eight m.life ++ eight m.count in
    on_ok_weaker c.put_u64-2.result
    (λ last. then c.args.out.now.items (four m.router.0) b1 c.in_ok-put_u32.ensures.ok
    (then c.put_u32.new.out.items (eight m.life) (eight m.count) c.in_ok-put_u64.ensures.ok
    (last)))
    c.put_u64-2.ensures.ok
