use Rattle.std.proofs.Common.{◌≡◌, ◌++◌, ◌∷◌, [], ◌∙◌, map, arith}
use Rattle.std.proofs.lemmas.Result.{err_from_is_err_and}
use Rattle.std.proofs.lemmas.List.{map_push}
use Rattle.chunk_table.specs.Meanings.{chunk_view}
use Rattle.shard_records.specs.Readable.{IsHeldChunk}
use Rattle.record_parts.specs.Readers.{chunk_at, items_at}
use Rattle.record_parts.proofs.Items.{counted, ends, failed, fails, goes_on}
use Rattle.record_parts.proofs.chunks.read_each_chunk.Goals as goal
use Rattle.history_model.proofs.Lists.{all_push}

pub returns-in_err-chunk-clause-found : goal.returns-in_err-chunk-clause-found
returns-in_err-chunk-clause-found c =
    let p = err_from_is_err_and c.from_residual.result c.from_residual.ensures.1 in
    rw (p.1, p.2) (failed c.in_err-chunk.field-0.0 (chunk_at c.loop.left.now) (items_at chunk_at c.args.count c.args.bytes.now)
    (λ none. fails chunk_at c.args.count c.loop.counter (map chunk_view c.loop.chunks.items) c.loop.left.now c.args.bytes.now c.loop-test.true none c.loop.invariant.so_far) c.in_err-chunk.ensures.found)

pub loop-preserved : goal.loop-preserved
loop-preserved c =
    let e : map chunk_view c.push.new.self.items ≡ map chunk_view c.loop.chunks.items ++ chunk_view c.in_ok-chunk.chunk ∷ [] = rw c.in_ok-push.ensures.items (map_push chunk_view c.loop.chunks.items c.in_ok-chunk.chunk) in
    rw e (record {
      so_far = goes_on chunk_at c.args.count c.loop.counter (map chunk_view c.loop.chunks.items) (chunk_view c.in_ok-chunk.chunk) c.loop.left.now c.in_ok-chunk.rest.now c.args.bytes.now c.loop-test.true c.in_ok-chunk.ensures.found c.loop.invariant.so_far;
      held = all_push IsHeldChunk (map chunk_view c.loop.chunks.items) (chunk_view c.in_ok-chunk.chunk) c.loop.invariant.held c.in_ok-chunk.ensures.held;
    })

pub returns-clause-found : goal.returns-clause-found
returns-clause-found c = ends chunk_at c.args.count c.loop.counter (map chunk_view c.loop.chunks.items) c.loop.left.now c.args.bytes.now c.loop-test.false c.loop.invariant.so_far

pub returns-clause-count : goal.returns-clause-count
returns-clause-count c = counted chunk_at chunk_view c.args.count c.loop.counter c.loop.chunks.items c.loop.left.now c.args.bytes.now c.loop-test.false c.loop.invariant.so_far

pub returns-clause-held : goal.returns-clause-held
returns-clause-held c = c.loop.invariant.held
