use Rattle.node_cell.proofs.Standing.{seen_as, told_as}
use Rattle.node_cell.proofs.letter.Stepped.new.Goals as goal

pub invariant_of-result : goal.invariant_of-result
invariant_of-result g c = (
  c.requires.taken,
  seen_as (λ m. g.N.Mail.Mail.letter m) c.args.note.seen c.args.outputs.mail c.of.result c.of.ensures c.requires.mail,
  told_as c.args.note.told c.args.number c.args.outputs.replies c.of-2.result c.of-2.ensures c.requires.replies,
)
