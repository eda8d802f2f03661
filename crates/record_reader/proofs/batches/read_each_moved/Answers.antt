use Rattle.std.proofs.Common.{◌≡◌, ◌++◌, ◌∷◌, [], ◌∙◌, map, arith}
use Rattle.std.proofs.lemmas.Result.{err_from_is_err_and}
use Rattle.std.proofs.lemmas.List.{map_push}
use Rattle.shard_records.specs.Batches.{moved_view}
use Rattle.shard_records.specs.Sizes.{IsWritableMoved}
use Rattle.record_parts.specs.Readers.{items_at}
use Rattle.record_reader.specs.RecordReaders.{moved_at}
use Rattle.record_parts.proofs.Items.{counted, ends, failed, fails, goes_on}
use Rattle.record_reader.proofs.batches.read_each_moved.Goals as goal
use Rattle.history_model.proofs.Lists.{all_push}

pub returns-in_err-moved-clause-found : goal.returns-in_err-moved-clause-found
returns-in_err-moved-clause-found c =
    let p = err_from_is_err_and c.from_residual.result c.from_residual.ensures.1 in
    rw (p.1, p.2) (failed c.in_err-moved.field-0.0 (moved_at c.loop.left.now) (items_at moved_at c.args.count c.args.bytes.now)
    (λ none. fails moved_at c.args.count c.loop.counter (map moved_view c.loop.docs.items) c.loop.left.now c.args.bytes.now c.loop-test.true none
    c.loop.invariant.so_far) c.in_err-moved.ensures.found)

pub loop-preserved : goal.loop-preserved
loop-preserved c =
    let e : map moved_view c.push.new.self.items ≡ map moved_view c.loop.docs.items ++ moved_view c.in_ok-moved.moved ∷ [] = rw c.in_ok-push.ensures.items
    (map_push moved_view c.loop.docs.items c.in_ok-moved.moved) in
    rw e (record {
      so_far = goes_on moved_at c.args.count c.loop.counter (map moved_view c.loop.docs.items) (moved_view c.in_ok-moved.moved) c.loop.left.now
          c.in_ok-moved.rest.now c.args.bytes.now c.loop-test.true c.in_ok-moved.ensures.found c.loop.invariant.so_far;
      held = all_push IsWritableMoved (map moved_view c.loop.docs.items) (moved_view c.in_ok-moved.moved) c.loop.invariant.held c.in_ok-moved.ensures.fits;
    })

pub returns-clause-found : goal.returns-clause-found
returns-clause-found c = ends moved_at c.args.count c.loop.counter (map moved_view c.loop.docs.items) c.loop.left.now c.args.bytes.now c.loop-test.false
    c.loop.invariant.so_far

pub returns-clause-count : goal.returns-clause-count
returns-clause-count c = counted moved_at moved_view c.args.count c.loop.counter c.loop.docs.items c.loop.left.now c.args.bytes.now c.loop-test.false
    c.loop.invariant.so_far

pub returns-clause-held : goal.returns-clause-held
returns-clause-held c = c.loop.invariant.held
