use Rattle.std.proofs.Common.{ap, ◌∙◌, ◌++◌, List, ℕ}
use Rattle.std.proofs.lemmas.Result.{on_ok_weaker}
use Rattle.chunk_table.specs.Meanings.{version_view}
use Rattle.record_model.specs.RecordFormat.{spelled_bound, spelled_version, spelled_list, spelled_owned}
use Rattle.shard_records.proofs.Puts.{then}
use Rattle.shard_records.proofs.tables.put_chunk.Goals as goal

pub returns-clause-ok : goal.returns-clause-ok
returns-clause-ok c =
    let chunk = c.args.chunk.now in
    let old = c.args.out.now.items in
    let behind_min = c.put_bound.new.out.items in
    let behind_version = c.put_version.new.out.items in
    let greatest = spelled_bound chunk.range.max in
    let version = spelled_version (version_view chunk.version) in
    let owners = spelled_list spelled_owned chunk.history in
    on_ok_weaker c.put_owners.result
    (λ last. then old (spelled_bound chunk.range.min) (greatest ++ (version ++ owners)) (c.in_ok-put_bound.ensures.ok ∙ ap (λ b. old ++ spelled_bound b) c.min.ensures.min)
    (then behind_min greatest (version ++ owners) (c.in_ok-put_bound-2.ensures.ok ∙ ap (λ b. behind_min ++ spelled_bound b) c.max.ensures.max)
    (then c.put_bound-2.new.out.items version owners c.in_ok-put_version.ensures.ok (last ∙ ap (λ l. behind_version ++ spelled_list spelled_owned l) c.as_slice.ensures))))
    c.put_owners.ensures.ok
