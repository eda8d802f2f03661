use Rattle.driver_steps.specs.Seats.{seat_since}
use Rattle.pipe_driver.specs.declared.status.Status.TheVariants as statuses
use Rattle.sim_driver.proofs.Deliveries.{delivered_cut}
use Rattle.sim_driver.proofs.deliver.deliver_and_mark.Goals as goal

pub returns-in-Err-mark-clause-cut : goal.returns-in-Err-mark-clause-cut
returns-in-Err-mark-clause-cut g c since w handed s =
    delivered_cut (seat_since g.N.Node.state g.N.Node.steps g.L.Log.facts since) _ _ handed w c.args.at statuses.OutOfMemory
    (c.in-Ok.ensures.delivered since w handed s)
