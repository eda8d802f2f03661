use Rattle.std.proofs.Common.{◌∙◌, ap, subst, sym}
use Rattle.opmsg_model.specs.Requests as wire
use Rattle.conn_server.proofs.Asked.{asked_by}
use Rattle.conn_server.proofs.Shown.{safe_more}
use Rattle.node_cell.proofs.Lists.{are_among_self}
use Rattle.conn_server.proofs.link.ask.Goals as goal

pub returns-in_default-clause-safe : goal.returns-in_default-clause-safe
returns-in_default-clause-safe g c = are_among_self c.args.talk.now.note.safe

pub returns-in-Ok-Some-clause-safe : goal.returns-in-Ok-Some-clause-safe
returns-in-Ok-Some-clause-safe g c = safe_more c.args.talk.now.note.safe c.see.new.self.note.safe c.into_note.result.safe c.see.ensures.safe

pub returns-in-Ok-None-clause-safe : goal.returns-in-Ok-None-clause-safe
returns-in-Ok-None-clause-safe g c = are_among_self c.args.talk.now.note.safe

pub returns-in-Err-clause-safe : goal.returns-in-Err-clause-safe
returns-in-Err-clause-safe g c = are_among_self c.args.talk.now.note.safe

pub returns-in-Ok-Some-clause-asked : goal.returns-in-Ok-Some-clause-asked
returns-in-Ok-Some-clause-asked g c =
    let meant = c.requires in
    let same = c.request-2.ensures meant.0 meant.1 in
    asked_by g.N.Node.meaning c.args.talk.now.note.taken c.into_note.result.taken c.see.new.self.note.taken c.args.talk.now.link c.number-came.result _
    (g.N.Node.asks c.request-2.result) c.args.request.bytes c.in-Ok-Some.stepped.taken c.send_out.new.stepped.taken
    (rw (c.in-Ok-Some.field-0-is, c.link-link.ensures) at c.in-Ok-Some.ensures) (subst (λ (r : wire.Request). wire.IsRequest r) (sym same) meant.2)
    (ap (λ (r : wire.Request). r.bytes) same ∙ meant.1.bytes) c.number-came.ensures c.send_out.ensures c.into_note.ensures c.see.ensures.taken
