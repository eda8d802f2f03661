use Rattle.std.proofs.Common.{sym, ap}
use Rattle.node_cell.proofs.Standing.{known_at}
use Rattle.node_cell.proofs.guarded.Guarded.take.Goals as goal

pub take_one-requires-clause-known : goal.take_one-requires-clause-known
take_one-requires-clause-known g c =
    known_at g.K.Numbering.routers _ c.args.self.now.at c.self.inside.placed.at (g.N.Node.meaning c.args.input) (ap (λ p. p.at) (sym c.self.view_is)) (c.requires _)
