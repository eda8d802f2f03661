use Rattle.std.proofs.Common.{sym, ap, subst}
use Rattle.node_cell.specs.Standing.{AreSeen}
use Rattle.node_cell.proofs.groups.stepped.Goals as goal

pub new-requires-clause-mail : goal.new-requires-clause-mail
new-requires-clause-mail g c =
    subst (λ s. AreSeen (λ m. g.N.Mail.Mail.letter m) s c.args.part.outputs.mail) (sym (ap (λ m. m.0.seen) c.note-seen.ensures.note.1)) c.requires.seen.mail
