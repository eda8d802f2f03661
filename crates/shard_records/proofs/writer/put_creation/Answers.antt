use Rattle.std.specs.Prelude.{◌++◌}
use Rattle.std.proofs.lemmas.Result.{on_ok_weaker}
use Rattle.record_model.specs.RecordFormat.{eight, spelled_string}
use Rattle.shard_records.proofs.Puts.{then}
use Rattle.shard_records.proofs.writer.put_creation.Goals as goal

pub returns-clause-ok : goal.returns-clause-ok
returns-clause-ok c =
    let namespace = spelled_string c.args.namespace.now in
    let epoch = eight c.args.epoch in
    let at = eight c.args.at.0 in
    on_ok_weaker c.put_u64-2.result
    (λ last. then c.args.out.now.items namespace (epoch ++ at) c.in_ok-put_namespace.ensures.ok
    (then c.put_namespace.new.out.items epoch at c.in_ok-put_u64.ensures.ok last))
    c.put_u64-2.ensures.ok
