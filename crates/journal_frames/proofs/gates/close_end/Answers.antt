use Rattle.std.proofs.Common.{◌≡◌, ◌∙◌, subst, IsTrue}
use Rattle.outside.specs.Disks.{Only}
use Rattle.journal_frames.specs.Views.{at_rest}
use Rattle.journal_frames.proofs.Closed.{close_done, close_held, close_run, cut_done, cut_held, cut_run}
use Rattle.journal_frames.proofs.gates.close_end.Goals as goal

pub returns-in_err-cut_synced-clause-held : goal.returns-in_err-cut_synced-clause-held
returns-in_err-cut_synced-clause-held g c records found some tells =
    cut_held records found.fits c.args.end found.size (g.D.Disk.content c.args.disk.now) (g.D.Disk.content c.cut_synced.new.disk) (found.stands tells) (some tells) (c.cut_synced.ensures.between tells)

pub returns-in_err-cut_synced-clause-any_moment : goal.returns-in_err-cut_synced-clause-any_moment
returns-in_err-cut_synced-clause-any_moment g c records found some tells =
    cut_run records found.fits c.args.end found.size g.D.Disk.moment g.D.Disk.left_at g.D.Disk.content g.D.Disk.may_leave c.args.disk.now c.cut_synced.new.disk
    (c.cut_synced.ensures.any_moment tells) (found.durable tells) (found.stands tells) (some tells)

pub returns-in_err-write_synced-clause-held : goal.returns-in_err-write_synced-clause-held
returns-in_err-write_synced-clause-held g c records found some tells =
    let gate = cut_done records found.fits c.args.end found.size (g.D.Disk.content c.args.disk.now) (found.stands tells) (some tells) in
    close_held records found.fits c.args.end found.size gate.0 (g.D.Disk.content c.cut_synced.new.disk) (g.D.Disk.content c.write_synced.new.disk) (c.in_ok-cut_synced.ensures.cut tells ∙ gate.1) (c.write_synced.ensures.torn tells)

pub returns-in_err-write_synced-clause-any_moment : goal.returns-in_err-write_synced-clause-any_moment
returns-in_err-write_synced-clause-any_moment g c records found some tells =
    let gate = cut_done records found.fits c.args.end found.size (g.D.Disk.content c.args.disk.now) (found.stands tells) (some tells) in
    let first = cut_run records found.fits c.args.end found.size g.D.Disk.moment g.D.Disk.left_at g.D.Disk.content g.D.Disk.may_leave c.args.disk.now c.cut_synced.new.disk
    (c.cut_synced.ensures.any_moment tells) (found.durable tells) (found.stands tells) (some tells) in
    close_run records found.fits c.args.end found.size g.D.Disk.moment g.D.Disk.left_at g.D.Disk.content g.D.Disk.may_leave c.args.disk.now c.cut_synced.new.disk c.write_synced.new.disk gate.0 first
    (c.in_ok-cut_synced.ensures.cut tells ∙ gate.1) (c.in_ok-cut_synced.ensures.durable tells) (c.write_synced.ensures.any_moment tells)

pub returns-clause-held : goal.returns-clause-held
returns-clause-held g c records found some tells =
    let gate = cut_done records found.fits c.args.end found.size (g.D.Disk.content c.args.disk.now) (found.stands tells) (some tells) in
    close_held records found.fits c.args.end found.size gate.0 (g.D.Disk.content c.cut_synced.new.disk) (g.D.Disk.content c.write_synced.new.disk) (c.in_ok-cut_synced.ensures.cut tells ∙ gate.1) (c.write_synced.ensures.torn tells)

pub returns-clause-any_moment : goal.returns-clause-any_moment
returns-clause-any_moment g c records found some tells =
    let gate = cut_done records found.fits c.args.end found.size (g.D.Disk.content c.args.disk.now) (found.stands tells) (some tells) in
    let first = cut_run records found.fits c.args.end found.size g.D.Disk.moment g.D.Disk.left_at g.D.Disk.content g.D.Disk.may_leave c.args.disk.now c.cut_synced.new.disk
    (c.cut_synced.ensures.any_moment tells) (found.durable tells) (found.stands tells) (some tells) in
    close_run records found.fits c.args.end found.size g.D.Disk.moment g.D.Disk.left_at g.D.Disk.content g.D.Disk.may_leave c.args.disk.now c.cut_synced.new.disk c.write_synced.new.disk gate.0 first
    (c.in_ok-cut_synced.ensures.cut tells ∙ gate.1) (c.in_ok-cut_synced.ensures.durable tells) (c.write_synced.ensures.any_moment tells)

pub returns-clause-closed : goal.returns-clause-closed
returns-clause-closed g c records found some =
    let file : IsTrue g.D.Disk.tells → g.D.Disk.content c.write_synced.new.disk ≡ at_rest records = λ tells.
    let gate = cut_done records found.fits c.args.end found.size (g.D.Disk.content c.args.disk.now) (found.stands tells) (some tells) in
    close_done records found.fits c.args.end found.size gate.0 (g.D.Disk.content c.cut_synced.new.disk) (g.D.Disk.content c.write_synced.new.disk) (c.in_ok-cut_synced.ensures.cut tells ∙ gate.1) (c.in_ok-write_synced.ensures.wrote tells) in
    record {
      size = found.size;
      fits = found.fits;
      file = file;
      durable = λ tells. subst (λ f. Only f (g.D.Disk.may_leave c.write_synced.new.disk)) (file tells) (c.in_ok-write_synced.ensures.durable tells);
    }
