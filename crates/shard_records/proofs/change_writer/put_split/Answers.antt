use Rattle.std.proofs.Common.{ℕ, List, ◌++◌}
use Rattle.std.proofs.lemmas.Result.{on_ok_weaker}
use Rattle.record_model.specs.RecordFormat.{eight, spelled_string}
use Rattle.record_model.specs.MoveFormat.{spelled_key_value}
use Rattle.shard_records.proofs.Puts.{then}
use Rattle.shard_records.proofs.change_writer.put_split.Goals as goal

pub returns-clause-ok : goal.returns-clause-ok
returns-clause-ok c =
    let m = c.args.kept.now in
    let b1 : List ℕ = spelled_key_value m.middle ++ eight m.at.0 in
    on_ok_weaker c.put_u64.result
    (λ last. then c.args.out.now.items (spelled_string m.namespace) b1 c.in_ok-put_namespace.ensures.ok
    (then c.put_namespace.new.out.items (spelled_key_value m.middle) (eight m.at.0) c.in_ok-put_some_key.ensures.ok
    (last)))
    c.put_u64.ensures.ok
