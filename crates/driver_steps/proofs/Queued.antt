-- What is queued comes after what waits.
use Rattle.std.proofs.Common.{◌≡◌, List, [], ◌++◌, sym, append-nil}
use Rattle.std.specs.Prelude.{Result, Ok, Err, OnOk}
use Rattle.node_traits.specs.declared.outputs.NotTaken.{NotTaken}
use Rattle.driver_steps.specs.Moves.{BeginWith}

pub sends_by : {M X : Type 0} (old new mail : List M) (result : Result X NotTaken) → OnOk result (new ≡ old ++ mail) → OnOk result (BeginWith old new)
sends_by old new mail (Ok x) queued = (mail, queued)
sends_by old new mail (Err fault) queued = tt

pub sends_none : {M : Type 0} (waiting : List M) → BeginWith waiting waiting
sends_none waiting = ([], sym (append-nil waiting))
