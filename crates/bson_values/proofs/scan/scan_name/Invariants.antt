use Rattle.std.proofs.Common.{◌≡◌, ◌-◌, ◌≤◌, take, drop}
use Rattle.bson_values.specs.Readers.{name_from}
use Rattle.bson_values.proofs.NameScan.{after}
use Rattle.bson_values.proofs.scan.scan_name.Given as goal

abbrev pub invariant-loop-i : goal.invariant-loop-i
invariant-loop-i l = record {
  room : l.i ≤ l.room;
  read : after (take l.i l.bytes) (name_from l.total l.offset (l.room - l.i) (drop l.i l.bytes)) ≡ name_from l.total l.offset l.room l.bytes;
}
