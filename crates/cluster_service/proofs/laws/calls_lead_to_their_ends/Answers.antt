use Rattle.std.specs.Prelude.{map}
use Rattle.cluster_service.specs.Crashes.{AreDurableBefore, LeaveAll}
use Rattle.cluster_service.proofs.Composed.{leads_to_end}
use Rattle.cluster_service.proofs.laws.calls_lead_to_their_ends.Goals as goal

pub returns : goal.returns
returns g c = λ command befores afters first source sink before notes held clock ending rest headline.
    leads_to_end g.D.Disk.tells (map g.D.Disk.content afters) first source sink
    (LeaveAll first g.K.Sink.tells g.D.Disk.tells g.D.Disk.place g.D.Disk.moment g.D.Disk.left_at before notes befores afters)
    (AreDurableBefore g.K.Sink.tells g.D.Disk.tells g.D.Disk.place g.D.Disk.moment g.D.Disk.left_at command first notes held afters)
    (g.C.Clock.gives clock) ending rest command headline
