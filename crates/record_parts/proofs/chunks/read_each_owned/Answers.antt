use Rattle.std.proofs.Common.{◌≡◌, ◌++◌, ◌∷◌, [], ◌∙◌, map, arith}
use Rattle.std.proofs.lemmas.Result.{err_from_is_err_and}
use Rattle.std.proofs.lemmas.List.{map_push}
use Rattle.chunk_table.specs.Meanings.{owned_view}
use Rattle.record_parts.specs.Readers.{owned_at, items_at}
use Rattle.record_parts.proofs.Items.{counted, ends, failed, fails, goes_on}
use Rattle.record_parts.proofs.chunks.read_each_owned.Goals as goal

pub returns-in_err-owned-clause-found : goal.returns-in_err-owned-clause-found
returns-in_err-owned-clause-found c =
    let p = err_from_is_err_and c.from_residual.result c.from_residual.ensures.1 in
    rw (p.1, p.2) (failed c.in_err-owned.field-0.0 (owned_at c.loop.left.now) (items_at owned_at c.args.count c.args.bytes.now)
    (λ none. fails owned_at c.args.count c.loop.counter (map owned_view c.loop.owners.items) c.loop.left.now c.args.bytes.now c.loop-test.true none c.loop.invariant) c.in_err-owned.ensures)

pub loop-preserved : goal.loop-preserved
loop-preserved c =
    let e : map owned_view c.push.new.self.items ≡ map owned_view c.loop.owners.items ++ owned_view c.in_ok-owned.owned ∷ [] = rw c.in_ok-push.ensures.items (map_push owned_view c.loop.owners.items c.in_ok-owned.owned) in
    rw e (goes_on owned_at c.args.count c.loop.counter (map owned_view c.loop.owners.items) (owned_view c.in_ok-owned.owned) c.loop.left.now c.in_ok-owned.rest.now c.args.bytes.now c.loop-test.true c.in_ok-owned.ensures c.loop.invariant)

pub returns-clause-found : goal.returns-clause-found
returns-clause-found c = ends owned_at c.args.count c.loop.counter (map owned_view c.loop.owners.items) c.loop.left.now c.args.bytes.now c.loop-test.false c.loop.invariant

pub returns-clause-count : goal.returns-clause-count
returns-clause-count c = counted owned_at owned_view c.args.count c.loop.counter c.loop.owners.items c.loop.left.now c.args.bytes.now c.loop-test.false c.loop.invariant
