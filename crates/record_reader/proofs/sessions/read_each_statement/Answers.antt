use Rattle.std.proofs.Common.{◌≡◌, ◌++◌, ◌∷◌, [], ◌∙◌, map, arith}
use Rattle.std.proofs.lemmas.Result.{err_from_is_err_and}
use Rattle.std.proofs.lemmas.List.{map_push}
use Rattle.statement_views.specs.Views.{statement_record_view}
use Rattle.shard_records.specs.Sizes.{IsWritableStatement}
use Rattle.record_parts.specs.Readers.{items_at}
use Rattle.record_reader.specs.RecordReaders.{statement_record_at}
use Rattle.record_parts.proofs.Items.{counted, ends, failed, fails, goes_on}
use Rattle.record_reader.proofs.sessions.read_each_statement.Goals as goal
use Rattle.history_model.proofs.Lists.{all_push}

pub returns-in_err-kept-clause-found : goal.returns-in_err-kept-clause-found
returns-in_err-kept-clause-found c =
    let p = err_from_is_err_and c.from_residual.result c.from_residual.ensures.1 in
    rw (p.1, p.2) (failed c.in_err-kept.field-0.0 (statement_record_at c.loop.left.now) (items_at statement_record_at c.args.count c.args.bytes.now)
    (λ none. fails statement_record_at c.args.count c.loop.counter (map statement_record_view c.loop.statements.items) c.loop.left.now c.args.bytes.now
    c.loop-test.true none c.loop.invariant.so_far) c.in_err-kept.ensures.found)

pub loop-preserved : goal.loop-preserved
loop-preserved c =
    let e : map statement_record_view c.push.new.self.items ≡ map statement_record_view c.loop.statements.items ++ statement_record_view c.in_ok-kept.kept
    ∷ [] = rw c.in_ok-push.ensures.items (map_push statement_record_view c.loop.statements.items c.in_ok-kept.kept) in
    rw e (record {
      so_far = goes_on statement_record_at c.args.count c.loop.counter (map statement_record_view c.loop.statements.items)
          (statement_record_view c.in_ok-kept.kept) c.loop.left.now c.in_ok-kept.rest.now c.args.bytes.now c.loop-test.true c.in_ok-kept.ensures.found
          c.loop.invariant.so_far;
      held = all_push IsWritableStatement (map statement_record_view c.loop.statements.items) (statement_record_view c.in_ok-kept.kept) c.loop.invariant.held
          c.in_ok-kept.ensures.fits;
    })

pub returns-clause-found : goal.returns-clause-found
returns-clause-found c = ends statement_record_at c.args.count c.loop.counter (map statement_record_view c.loop.statements.items) c.loop.left.now
    c.args.bytes.now c.loop-test.false c.loop.invariant.so_far

pub returns-clause-count : goal.returns-clause-count
returns-clause-count c = counted statement_record_at statement_record_view c.args.count c.loop.counter c.loop.statements.items c.loop.left.now
    c.args.bytes.now c.loop-test.false c.loop.invariant.so_far

pub returns-clause-held : goal.returns-clause-held
returns-clause-held c = c.loop.invariant.held
