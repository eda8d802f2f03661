use Rattle.std.proofs.Common.{length, sym, subst}
use Rattle.outside.specs.Disks.{Torn}
use Rattle.journal_frames.proofs.Torn.{change_run, synced_run, torn_all, torn_nothing}
use Rattle.journal_frames.proofs.changes.write_synced.Goals as goal

pub returns-in_err-write_at-clause-any_moment : goal.returns-in_err-write_at-clause-any_moment
returns-in_err-write_at-clause-any_moment g c tells =
    change_run g.D.Disk.moment g.D.Disk.left_at g.D.Disk.may_leave (Torn c.args.at (length c.args.piece.now)) c.args.disk.now c.write_at.new.self (λ f left. g.met.D.Disk.only_now c.args.disk.now f left) (torn_nothing c.args.at (length c.args.piece.now)) (c.write_at.ensures.crash tells) (c.write_at.ensures.time tells)

pub returns-clause-torn : goal.returns-clause-torn
returns-clause-torn g c tells =
    subst (λ f. Torn c.args.at (length c.args.piece.now) (g.D.Disk.content c.args.disk.now) f) (sym (c.sync.ensures.same tells)) (torn_all c.args.at c.args.piece.now (g.D.Disk.content c.args.disk.now) (g.D.Disk.content c.write_at.new.self) (c.in_ok-write_at.ensures.wrote tells))

pub returns-clause-any_moment : goal.returns-clause-any_moment
returns-clause-any_moment g c tells =
    let first = change_run g.D.Disk.moment g.D.Disk.left_at g.D.Disk.may_leave (Torn c.args.at (length c.args.piece.now)) c.args.disk.now c.write_at.new.self (λ f left. g.met.D.Disk.only_now c.args.disk.now f left) (torn_nothing c.args.at (length c.args.piece.now)) (c.write_at.ensures.crash tells) (c.write_at.ensures.time tells) in
    synced_run g.D.Disk.moment g.D.Disk.left_at g.D.Disk.may_leave (Torn c.args.at (length c.args.piece.now)) c.args.disk.now c.write_at.new.self c.sync.new.self first (c.write_at.ensures.crash tells) (c.sync.ensures.crash tells) (c.sync.ensures.time tells)

pub returns-in_err-sync-clause-torn : goal.returns-in_err-sync-clause-torn
returns-in_err-sync-clause-torn g c tells =
    subst (λ f. Torn c.args.at (length c.args.piece.now) (g.D.Disk.content c.args.disk.now) f) (sym (c.sync.ensures.same tells)) (torn_all c.args.at c.args.piece.now (g.D.Disk.content c.args.disk.now) (g.D.Disk.content c.write_at.new.self) (c.in_ok-write_at.ensures.wrote tells))

pub returns-in_err-sync-clause-any_moment : goal.returns-in_err-sync-clause-any_moment
returns-in_err-sync-clause-any_moment g c tells =
    let first = change_run g.D.Disk.moment g.D.Disk.left_at g.D.Disk.may_leave (Torn c.args.at (length c.args.piece.now)) c.args.disk.now c.write_at.new.self (λ f left. g.met.D.Disk.only_now c.args.disk.now f left) (torn_nothing c.args.at (length c.args.piece.now)) (c.write_at.ensures.crash tells) (c.write_at.ensures.time tells) in
    synced_run g.D.Disk.moment g.D.Disk.left_at g.D.Disk.may_leave (Torn c.args.at (length c.args.piece.now)) c.args.disk.now c.write_at.new.self c.sync.new.self first (c.write_at.ensures.crash tells) (c.sync.ensures.crash tells) (c.sync.ensures.time tells)
