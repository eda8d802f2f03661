use Rattle.outside.specs.Disks.{Cut}
use Rattle.journal_frames.proofs.Torn.{change_run, cut_nothing, synced_run}
use Rattle.journal_frames.proofs.changes.cut_synced.Goals as goal

pub returns-in_err-cut-clause-any_moment : goal.returns-in_err-cut-clause-any_moment
returns-in_err-cut-clause-any_moment g c tells =
    change_run g.D.Disk.moment g.D.Disk.left_at g.D.Disk.may_leave (Cut c.args.len) c.args.disk.now c.cut.new.self (λ f left. g.met.D.Disk.only_now c.args.disk.now f left) (cut_nothing c.args.len) (c.cut.ensures.crash tells) (c.cut.ensures.time tells)

pub returns-clause-any_moment : goal.returns-clause-any_moment
returns-clause-any_moment g c tells =
    let first = change_run g.D.Disk.moment g.D.Disk.left_at g.D.Disk.may_leave (Cut c.args.len) c.args.disk.now c.cut.new.self (λ f left. g.met.D.Disk.only_now c.args.disk.now f left) (cut_nothing c.args.len) (c.cut.ensures.crash tells) (c.cut.ensures.time tells) in
    synced_run g.D.Disk.moment g.D.Disk.left_at g.D.Disk.may_leave (Cut c.args.len) c.args.disk.now c.cut.new.self c.sync.new.self first (c.cut.ensures.crash tells) (c.sync.ensures.crash tells) (c.sync.ensures.time tells)
