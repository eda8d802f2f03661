use Rattle.std.proofs.Common.{rules}
use Rattle.outside_memory.specs.CallList.{start_of}
use Rattle.outside_memory.specs.declared.call.Call.TheVariants.{Sync}
use Rattle.outside_memory.proofs.Crashes.{elapses_listed, only_synced, stays_synced}
use Rattle.outside_memory.proofs.disk.MemDiskDisk.sync.Goals as goal

pub returns-clause-durable : goal.returns-clause-durable
returns-clause-durable c =
    let list = c.push.new.self in
    let bytes = c.self.inside.bytes.items in
    only_synced c.args.self.now.start (start_of list.start bytes) bytes c.args.self.now.calls list.calls
    (search rules) (search rules) (search rules)

pub returns-clause-stays : goal.returns-clause-stays
returns-clause-stays c =
    let list = c.push.new.self in
    let bytes = c.self.inside.bytes.items in
    stays_synced c.args.self.now.start (start_of list.start bytes) bytes c.args.self.now.calls list.calls
    (search rules) (search rules) (search rules)

pub returns-clause-time : goal.returns-clause-time
returns-clause-time c =
    let list = c.push.new.self in
    elapses_listed c.args.self.now.start (start_of list.start c.self.inside.bytes.items) c.args.self.now.calls list.calls
    Sync (search rules) (search rules)
