use Rattle.std.proofs.Common.{◌≡◌, ◌++◌, ◌<◌, ◌^◌, length, subst, IsTrue}
use Rattle.std.proofs.ByRecursion.{All-append}
use Rattle.outside.specs.Disks.{Only}
use Rattle.journal_frames.specs.Views.{at_rest}
use Rattle.journal_frames.proofs.Put.{both_runs, first_done, first_held, first_run, next_end, second_done, second_held}
use Rattle.journal_frames.proofs.gates.put_records.Goals as goal

pub returns-in_err-write_synced-clause-held : goal.returns-in_err-write_synced-clause-held
returns-in_err-write_synced-clause-held g c records more ready tells =
    first_held records ready.rest.fits c.args.end ready.rest.size more ready.fits c.args.piece.now ready.piece_is (length c.args.piece.now) (g.D.Disk.content c.args.disk.now) (g.D.Disk.content c.write_synced.new.disk) (ready.rest.file tells) (c.write_synced.ensures.torn tells)

pub returns-in_err-write_synced-clause-any_moment : goal.returns-in_err-write_synced-clause-any_moment
returns-in_err-write_synced-clause-any_moment g c records more ready tells =
    first_run records ready.rest.fits c.args.end ready.rest.size more ready.fits c.args.piece.now ready.piece_is g.D.Disk.moment g.D.Disk.left_at g.D.Disk.content g.D.Disk.may_leave (length c.args.piece.now) c.args.disk.now c.write_synced.new.disk
    (c.write_synced.ensures.any_moment tells) (ready.rest.durable tells)

pub returns-in_err-write_synced-2-clause-held : goal.returns-in_err-write_synced-2-clause-held
returns-in_err-write_synced-2-clause-held g c records more ready tells =
    let done = first_done records ready.rest.fits c.args.end ready.rest.size more ready.fits c.args.piece.now ready.piece_is (g.D.Disk.content c.args.disk.now) (g.D.Disk.content c.write_synced.new.disk) (ready.rest.file tells) (c.in_ok-write_synced.ensures.wrote tells) in
    second_held records ready.rest.fits c.args.end ready.rest.size more ready.fits c.args.piece.now ready.piece_is (g.D.Disk.content c.write_synced.new.disk) (g.D.Disk.content c.write_synced-2.new.disk) done (c.write_synced-2.ensures.torn tells)

pub returns-in_err-write_synced-2-clause-any_moment : goal.returns-in_err-write_synced-2-clause-any_moment
returns-in_err-write_synced-2-clause-any_moment g c records more ready tells =
    let done = first_done records ready.rest.fits c.args.end ready.rest.size more ready.fits c.args.piece.now ready.piece_is (g.D.Disk.content c.args.disk.now) (g.D.Disk.content c.write_synced.new.disk) (ready.rest.file tells) (c.in_ok-write_synced.ensures.wrote tells) in
    both_runs records ready.rest.fits c.args.end ready.rest.size more ready.fits c.args.piece.now ready.piece_is g.D.Disk.moment g.D.Disk.left_at g.D.Disk.content g.D.Disk.may_leave (length c.args.piece.now) c.args.disk.now c.write_synced.new.disk c.write_synced-2.new.disk
    (c.write_synced.ensures.any_moment tells) (ready.rest.durable tells) done (c.in_ok-write_synced.ensures.durable tells) (c.write_synced-2.ensures.any_moment tells)

pub returns-clause-held : goal.returns-clause-held
returns-clause-held g c records more ready tells =
    let done = first_done records ready.rest.fits c.args.end ready.rest.size more ready.fits c.args.piece.now ready.piece_is (g.D.Disk.content c.args.disk.now) (g.D.Disk.content c.write_synced.new.disk) (ready.rest.file tells) (c.in_ok-write_synced.ensures.wrote tells) in
    second_held records ready.rest.fits c.args.end ready.rest.size more ready.fits c.args.piece.now ready.piece_is (g.D.Disk.content c.write_synced.new.disk) (g.D.Disk.content c.write_synced-2.new.disk) done (c.write_synced-2.ensures.torn tells)

pub returns-clause-any_moment : goal.returns-clause-any_moment
returns-clause-any_moment g c records more ready tells =
    let done = first_done records ready.rest.fits c.args.end ready.rest.size more ready.fits c.args.piece.now ready.piece_is (g.D.Disk.content c.args.disk.now) (g.D.Disk.content c.write_synced.new.disk) (ready.rest.file tells) (c.in_ok-write_synced.ensures.wrote tells) in
    both_runs records ready.rest.fits c.args.end ready.rest.size more ready.fits c.args.piece.now ready.piece_is g.D.Disk.moment g.D.Disk.left_at g.D.Disk.content g.D.Disk.may_leave (length c.args.piece.now) c.args.disk.now c.write_synced.new.disk c.write_synced-2.new.disk
    (c.write_synced.ensures.any_moment tells) (ready.rest.durable tells) done (c.in_ok-write_synced.ensures.durable tells) (c.write_synced-2.ensures.any_moment tells)

pub returns-clause-put : goal.returns-clause-put
returns-clause-put g c records more ready =
    let file : IsTrue g.D.Disk.tells → g.D.Disk.content c.write_synced-2.new.disk ≡ at_rest (records ++ more) = λ tells.
    let done = first_done records ready.rest.fits c.args.end ready.rest.size more ready.fits c.args.piece.now ready.piece_is (g.D.Disk.content c.args.disk.now) (g.D.Disk.content c.write_synced.new.disk) (ready.rest.file tells) (c.in_ok-write_synced.ensures.wrote tells) in
    second_done records ready.rest.fits c.args.end ready.rest.size more ready.fits c.args.piece.now ready.piece_is (g.D.Disk.content c.write_synced.new.disk) (g.D.Disk.content c.write_synced-2.new.disk) done (c.in_ok-write_synced-2.ensures.wrote tells) in
    record {
      size = next_end records ready.rest.fits c.args.end ready.rest.size more ready.fits c.args.piece.now ready.piece_is;
      fits = All-append (λ r. length r < 2 ^ 64) records more ready.rest.fits ready.fits;
      file = file;
      durable = λ tells. subst (λ f. Only f (g.D.Disk.may_leave c.write_synced-2.new.disk)) (file tells) (c.in_ok-write_synced-2.ensures.durable tells);
    }
