use Rattle.driver_steps.proofs.DiskNotes.{all_durable}
use Rattle.sim_driver.proofs.report.put_text.Goals as goal

pub returns-in-Ok-clause-durable : goal.returns-in-Ok-clause-durable
returns-in-Ok-clause-durable g c = all_durable g.L.Log.facts c.args.seats.now.items c.requires.«open» c.note_disks.ensures.durable

pub returns-in-Err-clause-durable : goal.returns-in-Err-clause-durable
returns-in-Err-clause-durable g c = all_durable g.L.Log.facts c.args.seats.now.items c.requires.«open» c.note_disks.ensures.durable
