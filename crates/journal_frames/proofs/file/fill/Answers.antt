use Rattle.std.proofs.Common.{◌∙◌, ℕ, ◌-◌, ◌≤◌, List, ◌++◌, length, take, drop, refl, ap, arith, length-append}
use Rattle.std.proofs.lemmas.List.{length-take, take-append-le}
use Rattle.journal_frames.proofs.Loads.{one_more, read_on, window_len}
use Rattle.journal_frames.proofs.file.fill.Goals as goal

pub loop-at-preserved : goal.loop-at-preserved
loop-at-preserved g c =
    let so_far = c.loop-at.invariant in
    let back = drop (length c.loop-at.buf - c.loop-at.at) (drop c.loop-at.at c.loop-at.buf) in
    let size = window_len c.loop-at.buf c.read.new.buf c.loop-at.at so_far.within c.read.ensures.len in
    let fits : c.in_ok-n.n ≤ length c.read.new.buf = omega (arith, c.in_ok-n.ensures.count, c.read.ensures.len) in
    record {
      within = omega (arith, size, fits, so_far.within, length-append (take c.loop-at.at c.loop-at.buf) (c.read.new.buf ++ back), length-append c.read.new.buf back, length-take c.loop-at.at c.loop-at.buf);
      len = size ∙ so_far.len;
      bytes = λ tells. read_on (g.D.Disk.content c.args.disk.now) c.loop-at.buf (c.read.new.buf ++ back) _ c.loop-at.at c.in_ok-n.n (so_far.bytes tells) so_far.within refl
          (take-append-le c.in_ok-n.n c.read.new.buf back fits ∙ c.in_ok-n.ensures.bytes tells ∙ ap (λ (f : List ℕ). take c.in_ok-n.n (drop c.loop-at.at f)) (so_far.undisturbed tells).same);
      undisturbed = λ tells. one_more g.D.Disk.content g.D.Disk.may_leave g.D.Disk.moment g.D.Disk.left_at c.args.disk.now c.loop-at.disk c.read.new.self (so_far.undisturbed tells) (c.read.ensures.same tells) (c.read.ensures.crash tells) (c.read.ensures.time tells);
      calm = c.in_ok-n.ensures.calm ∙ so_far.calm;
      in_place = c.read.ensures.place ∙ so_far.in_place;
    }
