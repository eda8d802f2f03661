use Rattle.write_runs.proofs.Trying.{last_of}
use Rattle.write_runs.proofs.tries.last_met.Goals as goal

pub returns : goal.returns
returns c = last_of c.args.tries.now c.in_ok-last.last.now c.in_ok-last.ensures.value
