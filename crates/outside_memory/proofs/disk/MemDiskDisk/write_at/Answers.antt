use Rattle.std.proofs.Common.{length, rules}
use Rattle.outside_memory.specs.CallList.{start_of}
use Rattle.outside_memory.specs.declared.call.Call.TheVariants.{Write}
use Rattle.outside_memory.proofs.Crashes.{torn_same, elapses_listed}
use Rattle.outside_memory.proofs.disk.MemDiskDisk.write_at.Goals as goal

pub returns-then-fails-clause-crash : goal.returns-then-fails-clause-crash
returns-then-fails-clause-crash c =
    let list = c.self.inside.list in
    torn_same c.args.self.now.start (start_of list.start c.self.inside.bytes.items) c.args.self.now.calls list.calls
    c.args.at (length c.args.piece.now) (search rules) (search rules)

pub returns-then-is_err-clause-crash : goal.returns-then-is_err-clause-crash
returns-then-is_err-clause-crash c =
    let left = c.then-is_err.self-inside in
    torn_same c.args.self.now.start (start_of left.list.start left.bytes.items) c.args.self.now.calls left.list.calls
    c.args.at (length c.args.piece.now) (search rules) (search rules)

pub returns-clause-time : goal.returns-clause-time
returns-clause-time c =
    let list = c.push_write.new.self in
    elapses_listed c.args.self.now.start (start_of list.start c.write_over.new.bytes.items) c.args.self.now.calls list.calls
    (Write c.args.at c.args.piece.now) (search rules) (search rules)
