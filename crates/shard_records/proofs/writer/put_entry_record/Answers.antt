use Rattle.std.specs.Prelude.{[], ◌∷◌}
use Rattle.std.proofs.lemmas.Result.{on_ok_weaker}
use Rattle.record_model.specs.RecordFormat.{spelled_entry}
use Rattle.shard_records.specs.Meanings.{entry_view, operation_lent}
use Rattle.shard_records.proofs.Puts.{then, both_ok}
use Rattle.shard_records.proofs.writer.put_entry_record.Goals as goal

pub returns-clause-ok : goal.returns-clause-ok
returns-clause-ok c =
    let entry = entry_view c.args.time c.args.namespace.now c.args.statement.now (operation_lent c.args.words.now) c.args.reply.now in
    on_ok_weaker c.put_entry.result
    (λ last. then c.args.out.now.items (1 ∷ 0x02 ∷ []) (spelled_entry entry) c.in_ok-put_head.ensures.ok last)
    c.put_entry.ensures.ok

pub returns-clause-readable : goal.returns-clause-readable
returns-clause-readable c = both_ok _ _ c.put_entry.result c.put_entry.ensures.sound c.put_entry.ensures.held
