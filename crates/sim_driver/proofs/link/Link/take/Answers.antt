use Rattle.std.proofs.Common.{◌∙◌, ◌++◌, ap}
use Rattle.driver_steps.specs.Seats.{seat_since}
use Rattle.pipe_driver.specs.declared.status.Status.TheVariants as statuses
use Rattle.sim_driver.proofs.Faults.{still}
use Rattle.sim_driver.proofs.LinkAsks.{link_asked, link_cut, link_unfed}
use Rattle.driver_steps.proofs.DiskNotes.{no_more}
use Rattle.sim_driver.proofs.link.Link.take.Goals as goal

pub returns-in-Err-clause-cut : goal.returns-in-Err-clause-cut
returns-in-Err-clause-cut g c asks since w handed router s =
    link_unfed (seat_since g.N.Node.state g.N.Node.steps g.L.Log.facts since) _ w c.args.at _ _ _ statuses.OutOfMemory
    (still (seat_since g.N.Node.state g.N.Node.steps g.L.Log.facts since) _ _ handed w s)

pub returns-in-Err-ask_all-clause-cut : goal.returns-in-Err-ask_all-clause-cut
returns-in-Err-ask_all-clause-cut g c asks since w handed router s =
    let whole = c.in-Ok.ensures.taken.0 ∙ ap (λ f. f.bytes ++ c.args.bytes.now) c.replace-framer.ensures.value in
    rw (← c.self.view_is) (link_cut (seat_since g.N.Node.state g.N.Node.steps g.L.Log.facts since) _ w c.args.at _ _ _ c.feed.new.self.bytes whole
    c.in-Err-ask_all.status
    (c.in-Err-ask_all.ensures.cut asks since w handed router s))

pub returns-then-asked-clause-malformed : goal.returns-then-asked-clause-malformed
returns-then-asked-clause-malformed g c asks since w handed router s e =
    let whole = c.in-Ok.ensures.taken.0 ∙ ap (λ f. f.bytes ++ c.args.bytes.now) c.replace-framer.ensures.value in (
      c.ask_all.new.framer.bytes,
      c.in-Ok-ask_all.asked.replied,
      rw (← c.self.view_is) (link_asked (seat_since g.N.Node.state g.N.Node.steps g.L.Log.facts since) _ w c.args.at _ _ _ c.feed.new.self.bytes whole _
          handed _ _ _ _
          c.if-asked.true (c.in-Ok-ask_all.ensures.asked asks since w handed router s)),
    )

pub returns-clause-asked : goal.returns-clause-asked
returns-clause-asked g c asks since w handed router s e =
    let whole = c.in-Ok.ensures.taken.0 ∙ ap (λ f. f.bytes ++ c.args.bytes.now) c.replace-framer.ensures.value in
    rw (← c.self.view_is) (link_asked (seat_since g.N.Node.state g.N.Node.steps g.L.Log.facts since) _ w c.args.at _ _ _ c.feed.new.self.bytes whole _ handed
    _ _ _ _
    c.if-asked.false (c.in-Ok-ask_all.ensures.asked asks since w handed router s))

pub returns-in-Err-clause-noted : goal.returns-in-Err-clause-noted
returns-in-Err-clause-noted g c shown = no_more (g.K.Sink.noted c.args.out.now)
