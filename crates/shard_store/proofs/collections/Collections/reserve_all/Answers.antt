use Rattle.std.proofs.Common.{◌∙◌, arith}
use Rattle.std.proofs.lemmas.List.{drop_all}
use Rattle.shard_store.proofs.Lists.{next_is}
use Rattle.shard_store.specs.Collections.{room_under}
use Rattle.shard_store.proofs.collections.Collections.reserve_all.Goals as goal

pub loop-entry-preserved : goal.loop-entry-preserved
loop-entry-preserved c =
    let was = c.loop-entry.invariant in
    let now = c.in_ok-reserve.ensures in
    record {
      rooms = λ n k. omega (arith, was.rooms n k, now.rooms n k);
      shown = λ n k t. now.shown n k t ∙ was.shown n k t;
      last = λ n k. now.last n k ∙ was.last n k;
      room = λ rooms within all.
          let key = c.entry-item.result.key in
          let next = next_is c.args.planned.now c.loop-entry.entry-index c.entry-item.result c.loop-entry-test.true c.entry-item.is in
          was.room rooms (λ k. omega (arith, now.rooms c.args.namespace.now k, within k)) (rw next (omega (arith, now.room, within key), all));
    }

pub returns-clause-room : goal.returns-clause-room
returns-clause-room c =
    c.loop-entry.invariant.room (λ k. room_under c.loop-entry.self c.args.namespace.now k) (λ k. omega arith)
    (rw (drop_all c.loop-entry.entry-index c.args.planned.now (omega (arith, c.loop-entry-test.false))) tt)
