use Rattle.std.proofs.Common.{rules}
use Rattle.outside_memory.specs.CallList.{start_of}
use Rattle.outside_memory.specs.declared.call.Call.TheVariants.{Cut}
use Rattle.outside_memory.proofs.Crashes.{cut_same, elapses_listed}
use Rattle.outside_memory.proofs.disk.MemDiskDisk.cut.Goals as goal

pub returns-then-fails-clause-crash : goal.returns-then-fails-clause-crash
returns-then-fails-clause-crash c =
    let list = c.self.inside.list in
    cut_same c.args.self.now.start (start_of list.start c.self.inside.bytes.items) c.args.self.now.calls list.calls c.args.len
    (search rules) (search rules)

pub returns-then-is_err-clause-crash : goal.returns-then-is_err-clause-crash
returns-then-is_err-clause-crash c =
    let list = c.make_room.new.self in
    cut_same c.args.self.now.start (start_of list.start c.self.inside.bytes.items) c.args.self.now.calls list.calls c.args.len
    (search rules) (search rules)

pub returns-clause-time : goal.returns-clause-time
returns-clause-time c =
    let list = c.push.new.self in
    elapses_listed c.args.self.now.start (start_of list.start c.truncate.new.self.items) c.args.self.now.calls list.calls
    (Cut c.args.len) (search rules) (search rules)
