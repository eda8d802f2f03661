use Rattle.conn_server.proofs.Exchanged.{noted_on}
use Rattle.conn_server.proofs.talk.Talk.see.Goals as goal

pub invariant_of-self : goal.invariant_of-self
invariant_of-self g c = (
  noted_on g.N.Node.meaning c.self.inside.link c.self.inside.note c.join.new.self c.args.other.taken c.args.other.told c.join.ensures.taken
      c.join.ensures.told c.self.inside.said.items c.self.invariant.0,
  c.self.invariant.1,
)
