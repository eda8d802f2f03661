use Rattle.std.proofs.Common.{◌<◌, length, arith}
use Rattle.statement_views.specs.Views.{statement_record_view}
use Rattle.record_model.specs.MoveFormat.{IsSoundStatement, spelled_statement}
use Rattle.shard_records.specs.Sizes.{IsWritableStatement}
use Rattle.shard_records.proofs.Lists.{all_at, goes_on}
use Rattle.shard_records.proofs.session_writer.put_each_statement.Goals as goal

pub put_statement_record-requires : goal.put_statement_record-requires
put_statement_record-requires c =
    let within : c.loop-kept.kept-index < length c.args.records.now = omega arith in
    all_at IsWritableStatement statement_record_view c.args.records.now c.loop-kept.kept-index c.kept-item.result within c.kept-item.is c.requires

pub loop-kept-preserved : goal.loop-kept-preserved
loop-kept-preserved c =
    let within : c.loop-kept.kept-index < length c.args.records.now = omega arith in
    goes_on spelled_statement IsSoundStatement statement_record_view c.args.records.now c.loop-kept.kept-index c.kept-item.result c.args.out.now.items c.loop-kept.out.items c.put_statement_record.new.out.items within c.kept-item.is c.in_ok-put_statement_record.ensures.ok c.in_ok-put_statement_record.ensures.sound c.put_statement_record.ensures.kept c.loop-kept.invariant
