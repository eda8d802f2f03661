use Rattle.std.proofs.Common.{◌≡◌, subst, IsTrue}
use Rattle.outside.specs.Disks.{Only}
use Rattle.journal_frames.specs.Files.{Stands}
use Rattle.journal_frames.specs.Views.{at_rest}
use Rattle.journal_frames.proofs.Closed.{first_gate_crash, first_gate_done, first_gate_held}
use Rattle.journal_frames.proofs.Moments.{widened}
use Rattle.journal_frames.proofs.gates.write_first_gate.Goals as goal

pub returns-in_err-write_synced-clause-held : goal.returns-in_err-write_synced-clause-held
returns-in_err-write_synced-clause-held g c records found empty tells =
    first_gate_held records (g.D.Disk.content c.args.disk.now) (g.D.Disk.content c.write_synced.new.disk) (empty tells) (found.stands tells) (c.write_synced.ensures.torn tells)

pub returns-in_err-write_synced-clause-any_moment : goal.returns-in_err-write_synced-clause-any_moment
returns-in_err-write_synced-clause-any_moment g c records found empty tells =
    widened g.D.Disk.moment g.D.Disk.left_at c.args.disk.now c.write_synced.new.disk _ (λ f. Stands f records) (c.write_synced.ensures.any_moment tells)
    (first_gate_crash records (g.D.Disk.content c.args.disk.now) (g.D.Disk.may_leave c.args.disk.now) (empty tells) (found.stands tells) (found.durable tells))

pub returns-clause-held : goal.returns-clause-held
returns-clause-held g c records found empty tells =
    first_gate_held records (g.D.Disk.content c.args.disk.now) (g.D.Disk.content c.write_synced.new.disk) (empty tells) (found.stands tells) (c.write_synced.ensures.torn tells)

pub returns-clause-any_moment : goal.returns-clause-any_moment
returns-clause-any_moment g c records found empty tells =
    widened g.D.Disk.moment g.D.Disk.left_at c.args.disk.now c.write_synced.new.disk _ (λ f. Stands f records) (c.write_synced.ensures.any_moment tells)
    (first_gate_crash records (g.D.Disk.content c.args.disk.now) (g.D.Disk.may_leave c.args.disk.now) (empty tells) (found.stands tells) (found.durable tells))

pub returns-clause-closed : goal.returns-clause-closed
returns-clause-closed g c records found empty =
    let file : IsTrue g.D.Disk.tells → g.D.Disk.content c.write_synced.new.disk ≡ at_rest records = λ tells.
    first_gate_done records (g.D.Disk.content c.args.disk.now) (g.D.Disk.content c.write_synced.new.disk) (empty tells) (found.stands tells) (c.in_ok-write_synced.ensures.wrote tells) in
    record {
      size = found.size;
      fits = found.fits;
      file = file;
      durable = λ tells. subst (λ f. Only f (g.D.Disk.may_leave c.write_synced.new.disk)) (file tells) (c.in_ok-write_synced.ensures.durable tells);
    }
