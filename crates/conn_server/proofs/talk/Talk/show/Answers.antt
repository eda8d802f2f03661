use Rattle.conn_server.proofs.Shown.{noted_part}
use Rattle.conn_server.proofs.talk.Talk.show.Goals as goal

pub invariant_of-self : goal.invariant_of-self
invariant_of-self g c = (
  noted_part g.N.Node.meaning c.self.inside.note c.show.new.note c.self.inside.link c.self.inside.said.items c.show.ensures.kept c.self.invariant.0,
  c.self.invariant.1,
)
