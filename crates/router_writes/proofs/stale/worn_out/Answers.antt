use Rattle.router_writes.proofs.Refusing.{first_worn, next_worn}
use Rattle.write_runs.specs.Runs.{all_tries_view, answers_view}
use Rattle.router_writes.proofs.stale.worn_out.Goals as goal

pub returns-then-ordered : goal.returns-then-ordered
returns-then-ordered c =
    first_worn (all_tries_view c.args.tries.now) c.args.ordered c.args.indices.now c.loop-index.index-index _ c.loop-index-test.true
    (answers_view c.loop-index.worn.items) (answers_view c.wear_out.new.answers.items) _ c.in_ok-wear_out.ensures c.loop-index.invariant c.if-ordered.true

pub loop-index-preserved : goal.loop-index-preserved
loop-index-preserved c =
    next_worn (all_tries_view c.args.tries.now) c.args.ordered c.args.indices.now c.loop-index.index-index _ c.loop-index-test.true
    (answers_view c.loop-index.worn.items) (answers_view c.wear_out.new.answers.items) _ c.in_ok-wear_out.ensures c.loop-index.invariant c.if-ordered.false
