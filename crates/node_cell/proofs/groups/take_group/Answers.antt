use Rattle.node_cell.proofs.Seen.{part_group, seen_group}
use Rattle.node_cell.proofs.groups.take_group.Goals as goal

pub returns-in-Ok-clause-grows : goal.returns-in-Ok-clause-grows
returns-in-Ok-clause-grows g c =
    part_group (λ m. g.N.Mail.Mail.letter m) c.args.pass.now.me.0 c.take_steps.new.pass.me.0 c.in-Ok.taken.0 c.args.placed.now.at c.in-Ok.taken.1.parts.items
    c.in-Ok.ensures.seen c.in-Ok.ensures.told c.in-Ok.ensures.taken c.in-Ok.ensures.safe

pub returns-in-Ok-clause-seen : goal.returns-in-Ok-clause-seen
returns-in-Ok-clause-seen g c =
    seen_group (λ m. g.N.Mail.Mail.letter m) c.args.pass.now.me.0 c.take_steps.new.pass.me.0 c.in-Ok.taken.0 c.args.placed.now.at c.in-Ok.taken.1.parts.items
    c.in-Ok.ensures.seen c.in-Ok.ensures.told c.in-Ok.ensures.taken c.in-Ok.ensures.safe
