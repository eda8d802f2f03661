use Rattle.std.proofs.Common.{arith}
use Rattle.std.proofs.lemmas.List.{take_rest}
use Rattle.bson_values.proofs.NameScan.{goes_on, found, full, cut}
use Rattle.bson_values.proofs.scan.scan_name.Goals as goal

pub returns-then-bytes-i-eq0-clause-gives : goal.returns-then-bytes-i-eq0-clause-gives
returns-then-bytes-i-eq0-clause-gives c =
    rw take_rest
    (found c.args.total c.args.offset c.args.room c.loop-i.i c.args.bytes.now _ (omega arith) (omega arith) c.if-bytes-i-eq0.true c.loop-i.invariant.read)

pub loop-i-preserved : goal.loop-i-preserved
loop-i-preserved c = record {
  room = omega arith;
  read =
      goes_on c.args.total c.args.offset c.args.room c.loop-i.i c.args.bytes.now _ (omega arith) (omega arith) c.if-bytes-i-eq0.false c.loop-i.invariant.read;
}

pub returns-then-bytes-room-clause-gives : goal.returns-then-bytes-room-clause-gives
returns-then-bytes-room-clause-gives c =
    cut c.args.total c.args.offset c.args.room c.loop-i.i c.args.bytes.now _ (omega arith) (omega arith) c.loop-i.invariant.read

pub returns-clause-gives : goal.returns-clause-gives
returns-clause-gives c =
    full c.args.total c.args.offset c.args.room c.loop-i.i c.args.bytes.now _ (omega arith) c.loop-i.invariant.read
