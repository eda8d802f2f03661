-- Every event keeps all facts, and so does every run.
use Rattle.std.proofs.Common.{List}
use Rattle.node_model.specs.World.{World, Event, Happens, Run}
use Rattle.node_laws.proofs.StepsKeep.{AllRest, StaysTrue, happens_keeps, run_keeps}
use Rattle.node_laws.proofs.NodeLacks.{misses_keep}
use Rattle.node_laws.proofs.GivesUp.{all_rest}
use Rattle.node_laws.proofs.GivesWell.{gives_fit}

-- what is owed where work is given up
pub gives_owe : AllRest
gives_owe = all_rest gives_fit

pub event_keeps : (w v : World) (e : Event) → StaysTrue w → Happens w e v → StaysTrue v
event_keeps w v e kept h = happens_keeps gives_owe misses_keep w v e kept h

pub events_keep : (w v : World) (es : List Event) → StaysTrue w → Run w es v → StaysTrue v
events_keep w v es kept run = run_keeps gives_owe misses_keep w v es kept run
