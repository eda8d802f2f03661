use Rattle.std.proofs.Common.{ap, ◌∙◌, ◌++◌, List, ℕ, subst}
use Rattle.std.proofs.lemmas.Result.{on_ok_weaker}
use Rattle.record_model.specs.RecordFormat.{eight, spelled_chunk, spelled_list, spelled_string}
use Rattle.shard_records.proofs.Puts.{then}
use Rattle.std.specs.Str.{IsUtf8}
use Rattle.shard_records.proofs.Held.{table_held}
use Rattle.shard_records.proofs.tables.put_table.Goals as goal

pub returns-clause-ok : goal.returns-clause-ok
returns-clause-ok c =
    let table = c.args.table.now in
    let head = c.args.out.now.items in
    let behind_name = c.put_namespace.new.out.items in
    let behind_epoch = c.put_u64.new.out.items in
    let behind_changes = c.put_u64-2.new.out.items in
    let behind_oldest = c.put_u64-3.new.out.items in
    let name = spelled_string table.namespace in
    let chunks = spelled_list spelled_chunk table.chunks in
    let times = eight table.oldest ++ chunks in
    let counts = eight table.changes ++ times in
    on_ok_weaker c.put_chunks.result
    (λ last. then head name (eight table.epoch ++ counts) (c.in_ok-put_namespace.ensures.ok ∙ ap (λ s. head ++ spelled_string s) c.namespace.ensures)
    (then behind_name (eight table.epoch) counts (c.in_ok-put_u64.ensures.ok ∙ ap (λ n. behind_name ++ eight n) c.epoch.ensures)
    (then behind_epoch (eight table.changes) times (c.in_ok-put_u64-2.ensures.ok ∙ ap (λ n. behind_epoch ++ eight n) c.changes.ensures)
    (then behind_changes (eight table.oldest) chunks (c.in_ok-put_u64-3.ensures.ok ∙ ap (λ n. behind_changes ++ eight n) c.oldest.ensures)
    (last ∙ ap (λ l. behind_oldest ++ spelled_list spelled_chunk l) c.chunks.ensures.chunks)))))
    c.put_chunks.ensures.ok

pub returns-clause-held : goal.returns-clause-held
returns-clause-held c =
    let name = subst (λ (s : List ℕ). IsUtf8 s) c.namespace.ensures c.put_namespace.ensures.text in
    on_ok_weaker c.put_chunks.result
    (λ last. table_held c.args.table.now name c.chunks.ensures.ranges c.chunks.ensures.follow c.chunks.ensures.writable)
    c.put_chunks.ensures.ok
