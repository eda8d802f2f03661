use Rattle.std.specs.Prelude.{map}
use Rattle.cluster_service.specs.Crashes.{AreDurableBefore, LeaveAll}
use Rattle.cluster_service.proofs.Composed.{acknowledged_goes_on}
use Rattle.cluster_service.proofs.laws.acknowledged_goes_on.Goals as goal

pub returns : goal.returns
returns g c = λ command befores afters first source sink before notes held clock ending rest told begins headline next w again leads.
    acknowledged_goes_on g.D.Disk.tells command (map g.D.Disk.content befores) (map g.D.Disk.content afters) first source sink
    (LeaveAll first g.K.Sink.tells g.D.Disk.tells g.D.Disk.place g.D.Disk.moment g.D.Disk.left_at before notes befores afters)
    (AreDurableBefore g.K.Sink.tells g.D.Disk.tells g.D.Disk.place g.D.Disk.moment g.D.Disk.left_at command first notes held afters)
    (g.C.Clock.gives clock) ending rest told begins headline next w again leads
