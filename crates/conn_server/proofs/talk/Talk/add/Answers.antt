use Rattle.conn_server.specs.Talks.{exchange_of}
use Rattle.conn_server.proofs.Told.{talk_more}
use Rattle.conn_server.proofs.talk.Talk.add.Goals as goal

pub invariant_of-self : goal.invariant_of-self
invariant_of-self g c =
    talk_more g.N.Node.meaning _ _ c.push_reserved.new.self.items (exchange_of c.args.came c.args.step c.args.request c.args.reply) c.self.view_is
    c.push_reserved.ensures.items c.self.invariant.0 c.self.invariant.1 c.requires.asked c.requires.replied c.requires.next
