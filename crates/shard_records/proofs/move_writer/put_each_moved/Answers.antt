use Rattle.std.proofs.Common.{◌<◌, length, arith}
use Rattle.shard_records.specs.Batches.{moved_view}
use Rattle.record_model.specs.MoveFormat.{IsSoundMoved, spelled_moved}
use Rattle.shard_records.specs.Sizes.{IsWritableMoved}
use Rattle.shard_records.proofs.Lists.{all_at, goes_on}
use Rattle.shard_records.proofs.move_writer.put_each_moved.Goals as goal

pub put_moved-requires : goal.put_moved-requires
put_moved-requires c =
    let within : c.loop-moved.moved-index < length c.args.docs.now = omega arith in
    all_at IsWritableMoved moved_view c.args.docs.now c.loop-moved.moved-index c.moved-item.result within c.moved-item.is c.requires

pub loop-moved-preserved : goal.loop-moved-preserved
loop-moved-preserved c =
    let within : c.loop-moved.moved-index < length c.args.docs.now = omega arith in
    goes_on spelled_moved IsSoundMoved moved_view c.args.docs.now c.loop-moved.moved-index c.moved-item.result c.args.out.now.items c.loop-moved.out.items c.put_moved.new.out.items within c.moved-item.is c.in_ok-put_moved.ensures.ok c.in_ok-put_moved.ensures.sound c.put_moved.ensures.kept c.loop-moved.invariant
