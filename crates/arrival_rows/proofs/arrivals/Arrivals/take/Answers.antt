use Rattle.std.proofs.Common.{◌∙◌, sym}
use Rattle.arrival_rows.proofs.Later.{later_than_all}
use Rattle.arrival_rows.proofs.arrivals.Arrivals.take.Goals as goal

pub apply-requires-clause-later : goal.apply-requires-clause-later
apply-requires-clause-later c =
    later_than_all c.reserve.new.c c.args.self.now.next (λ k t e. c.args.self.now.below k t (sym (c.reserve.ensures.same.last k) ∙ e)) _
