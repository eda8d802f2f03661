use Rattle.protocol_model.specs.Refusals.{try_view}
use Rattle.write_runs.proofs.Trying.{item_added}
use Rattle.write_runs.specs.Runs.{all_tries_view}
use Rattle.write_runs.proofs.tries.with_tries.Goals as goal

pub loop-index-preserved : goal.loop-index-preserved
loop-index-preserved c =
    item_added (try_view c.args.one) c.args.indices.now c.loop-index.index-index _ c.loop-index-test.true
    (all_tries_view c.loop-index.more.items) (all_tries_view c.add_try.new.tries.items) _ c.in_ok-add_try.ensures c.loop-index.invariant
