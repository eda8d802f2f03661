use Rattle.std.proofs.Common.{◌≡◌, length, add-one, arith}
use Rattle.chunk_table.proofs.ShardPlaces.{none_at, some_at, end_at, go_on}
use Rattle.chunk_table.proofs.span_targets.place_of.Goals as goal

pub returns-then-own-shard : goal.returns-then-own-shard
returns-then-own-shard c = none_at c.args.shard.0 c.loop-place.place c.args.found.now c.loop-place.invariant (omega arith) c.if-own-shard.true

pub returns-then-shard-own : goal.returns-then-shard-own
returns-then-shard-own c = some_at c.args.shard.0 c.loop-place.place c.args.found.now c.loop-place.invariant (omega arith) c.if-shard-own.true

pub loop-place-preserved : goal.loop-place-preserved
loop-place-preserved c =
    rw add-one (go_on c.args.shard.0 c.loop-place.place c.args.found.now c.loop-place.invariant (omega arith) c.if-shard-own.false c.if-own-shard.false)

pub returns : goal.returns
returns c =
    let all : c.loop-place.place ≡ length c.args.found.now = omega arith in
    end_at c.args.shard.0 c.loop-place.place c.args.found.now c.loop-place.invariant all
