use Rattle.std.proofs.Common.{◌∙◌, ℕ, ap, arith}
use Rattle.node_traits.specs.declared.outputs.ToLink.{ToLink}
use Rattle.conn_server.proofs.Asked.{replied_by}
use Rattle.conn_server.proofs.Shown.{safe_more}
use Rattle.node_cell.proofs.Lists.{are_among_self}
use Rattle.conn_server.proofs.link.next_reply.Goals as goal

pub returns-in_default-clause-safe : goal.returns-in_default-clause-safe
returns-in_default-clause-safe g c = are_among_self c.args.talk.now.note.safe

pub returns-then-link-clause-safe : goal.returns-then-link-clause-safe
returns-then-link-clause-safe g c = are_among_self c.args.talk.now.note.safe

pub returns-clause-safe : goal.returns-clause-safe
returns-clause-safe g c = safe_more c.args.talk.now.note.safe c.see.new.self.note.safe c.into_parts-step.result.2.safe c.see.ensures.safe

pub returns-clause-told : goal.returns-clause-told
returns-clause-told g c =
    replied_by c.args.talk.now.note.told c.into_parts-step.result.2.told c.see.new.self.note.told c.args.talk.now.link c.into_parts-step.result.0
    c.into_parts-step.result.1
    (ap (λ (p : ℕ × ToLink). p.1.link) c.into_parts-step.ensures.reply ∙ omega (arith, c.link.ensures, c.link-2.ensures, c.if-link.false))
    c.into_parts-step.ensures.told c.see.ensures.told
