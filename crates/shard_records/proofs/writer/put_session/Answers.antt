use Rattle.std.specs.Prelude.{[], ◌∷◌, ◌++◌}
use Rattle.std.proofs.lemmas.Result.{on_ok_weaker}
use Rattle.record_model.specs.RecordFormat.{four, eight}
use Rattle.shard_records.proofs.Puts.{then}
use Rattle.shard_records.proofs.writer.put_session.Goals as goal

pub returns-in_ok-put_u64-in-Router-clause-ok : goal.returns-in_ok-put_u64-in-Router-clause-ok
returns-in_ok-put_u64-in-Router-clause-ok c =
    let r = c.in-Router in
    rw c.in-Router.is
    (on_ok_weaker c.put_u64-in-Router.result
    (λ last. then c.args.out.now.items (1 ∷ []) (four r.node.0 ++ (eight r.life ++ eight r.request)) c.in_ok-put-in-Router.ensures.ok
    (then c.put-in-Router.new.out.items (four r.node.0) (eight r.life ++ eight r.request) c.in_ok-put_u32-in-Router.ensures.ok
    (then c.put_u32.new.out.items (eight r.life) (eight r.request) c.in_ok-put_u64-in-Router.ensures.ok last)))
    c.put_u64-in-Router.ensures.ok)
