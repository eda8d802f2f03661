use Rattle.std.proofs.Common.{map}
use Rattle.node_cell.proofs.Seen.{deliveries_on}
use Rattle.node_cell.proofs.cell.Cell.deliver.Goals as goal

pub returns-in-Ok : goal.returns-in-Ok
returns-in-Ok g c =
    deliveries_on g.N.Node.meaning (map (λ m. g.N.Mail.Mail.letter m) c.args.letters.items) c.in-Ok.prepared.items c.deliver.result.steps.items c.in-Ok.ensures c.deliver.ensures.steps
