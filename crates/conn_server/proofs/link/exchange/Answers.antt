use Rattle.std.proofs.Common.{◌∙◌, ◌++◌, inl, inr, refl, subst, sym}
use Rattle.group_steps.specs.Parts.{Among}
use Rattle.node_cell.specs.Views.{safe_from}
use Rattle.conn_server.specs.Talks.{reply_on}
use Rattle.conn_server.proofs.Asked.{replied_as}
use Rattle.conn_server.proofs.Written.{asked_then, end_lost, end_short, end_unasked, part_as, said_more, spoke_one, spoke_silent, whole_as, whole_none}
use Rattle.conn_server.proofs.Shown.{asked_part, has_replied, has_silent, part_from, put_from, safe_same, shown_replied, shown_same, told_part, told_safe}
use Rattle.node_cell.proofs.Lists.{are_among_on, are_among_self}
use Rattle.conn_server.proofs.link.exchange.Goals as goal

-- NOTHING WAS ASKED

pub returns-in_default-clause-ended : goal.returns-in_default-clause-ended
returns-in_default-clause-ended g c = λ offset behind.
    end_unasked g.S.Sink.tells (g.S.Sink.held c.args.link.now) c.args.talk.now.said _ offset (c.args.read ++ behind) refl

pub returns-in_default-reserve-clause-ended : goal.returns-in_default-reserve-clause-ended
returns-in_default-reserve-clause-ended g c = λ offset behind.
    end_unasked g.S.Sink.tells (g.S.Sink.held c.args.link.now) c.args.talk.now.said _ offset (c.args.read ++ behind) c.reserve.ensures.said

pub returns-in_default-ask-clause-ended : goal.returns-in_default-ask-clause-ended
returns-in_default-ask-clause-ended g c = λ offset behind.
    end_unasked g.S.Sink.tells (g.S.Sink.held c.args.link.now) c.args.talk.now.said _ offset (c.args.read ++ behind)
    (c.ask.ensures.said ∙ c.reserve.ensures.said)

pub returns-then-not-is_next-clause-ended : goal.returns-then-not-is_next-clause-ended
returns-then-not-is_next-clause-ended g c = λ offset behind.
    end_unasked g.S.Sink.tells (g.S.Sink.held c.args.link.now) c.args.talk.now.said _ offset (c.args.read ++ behind)
    (c.ask.ensures.said ∙ c.reserve.ensures.said)

-- NO REPLY IS WANTED

pub returns-then-more-clause-spoke : goal.returns-then-more-clause-spoke
returns-then-more-clause-spoke g c =
    spoke_silent _ _ c.in-Some.came c.in-Some.came c.read.invariant.0 c.args.read c.in-Ok.bytes c.read.invariant.2 (c.read.invariant.1.bytes ∙ c.read.view_is)
    (c.in-Ok.ensures ∙ (c.bytes.ensures ∙ c.read.view_is)) ⊥ _ (inl (c.read.invariant.1.more ∙ c.if-more.true))
    (said_more c.args.talk.now.said c.ask.new.talk.said _ _ c.add.ensures.said (c.ask.ensures.said ∙ c.reserve.ensures.said))
    (whole_none g.S.Sink.tells (g.S.Sink.held c.args.link.now))

-- A REPLY IS WANTED

pub returns-in_default-next_reply-clause-ended : goal.returns-in_default-next_reply-clause-ended
returns-in_default-next_reply-clause-ended g c = λ offset behind.
    end_lost g.S.Sink.tells _ _ _ _ offset c.args.read behind
    (spoke_silent _ _ c.in-Some.came c.in-Some.came c.read.invariant.0 c.args.read c.in-Ok.bytes c.read.invariant.2 (c.read.invariant.1.bytes ∙ c.read.view_is)
    (c.in-Ok.ensures ∙ (c.bytes.ensures ∙ c.read.view_is)) (Unit {0}) _ (inr tt)
    (said_more c.args.talk.now.said c.next_reply.new.talk.said _ _ c.add-in_default-next_reply.ensures.said
    (c.next_reply.ensures.said ∙ (c.ask.ensures.said ∙ c.reserve.ensures.said)))
    (whole_none g.S.Sink.tells (g.S.Sink.held c.args.link.now)))

pub returns-in-Ok-put-clause-spoke : goal.returns-in-Ok-put-clause-spoke
returns-in-Ok-put-clause-spoke g c =
    spoke_one _ _ c.in-Some.came _ c.read.invariant.0 c.args.read c.in-Ok.bytes c.read.invariant.2 (c.read.invariant.1.bytes ∙ c.read.view_is)
    (c.in-Ok.ensures ∙ (c.bytes.ensures ∙ c.read.view_is)) _ _ (c.read.invariant.1.more ∙ c.if-more.false)
    (said_more c.args.talk.now.said c.show.new.self.said _ _ c.add-2.ensures.said
    (c.show.ensures.said ∙ (c.next_reply.ensures.said ∙ (c.ask.ensures.said ∙ c.reserve.ensures.said))))
    (whole_as g.S.Sink.tells _ _ _ _ c.as_slice.ensures
    (put_from g.S.Sink.tells (g.S.Sink.held c.args.link.now) (g.S.Sink.held c.show.new.link) _ _ c.show.ensures.held c.in-Ok-put.ensures.put))

pub returns-in-Err-clause-ended : goal.returns-in-Err-clause-ended
returns-in-Err-clause-ended g c = λ offset behind.
    end_short g.S.Sink.tells _ _ _ _ offset c.args.read behind
    (spoke_one _ _ c.in-Some.came _ c.read.invariant.0 c.args.read c.in-Ok.bytes c.read.invariant.2 (c.read.invariant.1.bytes ∙ c.read.view_is)
    (c.in-Ok.ensures ∙ (c.bytes.ensures ∙ c.read.view_is)) _ _ (c.read.invariant.1.more ∙ c.if-more.false)
    (said_more c.args.talk.now.said c.show.new.self.said _ _ c.add-2.ensures.said
    (c.show.ensures.said ∙ (c.next_reply.ensures.said ∙ (c.ask.ensures.said ∙ c.reserve.ensures.said))))
    (part_as g.S.Sink.tells _ _ _ _ c.as_slice.ensures
    (part_from g.S.Sink.tells (g.S.Sink.held c.args.link.now) (g.S.Sink.held c.show.new.link) _ _ c.show.ensures.held c.in-Err.ensures.prefix)))

-- WHAT THE TALK IS TOLD

pub add-requires-2-clause-asked : goal.add-requires-2-clause-asked
add-requires-2-clause-asked g c =
    asked_part g.N.Node.meaning c.next_reply.new.talk.note c.show.new.self.note c.show.new.self.link c.in-Some.came c.in-Ok.bytes c.show.ensures.kept
    (asked_then g.N.Node.meaning c.ask.new.talk.note.taken c.next_reply.new.talk.note.taken c.reserve.new.self.link c.show.new.self.link
    c.in-Some.came c.read.inside.request.bytes c.in-Ok.bytes c.in-Some.ensures.asked c.next_reply.ensures.taken
    (c.show.ensures.link ∙ (c.next_reply.ensures.link ∙ c.ask.ensures.link)) (c.in-Ok.ensures ∙ c.bytes.ensures))

pub add-requires-2-clause-replied : goal.add-requires-2-clause-replied
add-requires-2-clause-replied g c =
    replied_as c.show.new.self.note.told _ _ _ _
    (told_part c.next_reply.new.talk.note c.show.new.self.note (c.in-Some-next_reply.step, reply_on c.ask.new.talk.link c.in-Some-next_reply.reply)
    c.show.ensures.kept c.in-Some-next_reply.ensures.told) (c.show.ensures.link ∙ c.next_reply.ensures.link)

-- WHAT IS NOTED BEFORE THE REPLY IS WRITTEN

pub returns-in_default-clause-shown_end : goal.returns-in_default-clause-shown_end
returns-in_default-clause-shown_end g c = λ before has.
    shown_same g.S.Sink.tells _ _ before c.args.talk.now.note.safe _ c.args.talk.now.link c.args.talk.now.said _ has
    (are_among_self c.args.talk.now.note.safe) refl

pub returns-in_default-reserve-clause-shown_end : goal.returns-in_default-reserve-clause-shown_end
returns-in_default-reserve-clause-shown_end g c = λ before has.
    shown_same g.S.Sink.tells _ _ before c.args.talk.now.note.safe _ c.args.talk.now.link c.args.talk.now.said _ has
    (safe_same c.args.talk.now.note c.reserve.new.self.note c.reserve.ensures.note) c.reserve.ensures.said

pub returns-in_default-ask-clause-shown_end : goal.returns-in_default-ask-clause-shown_end
returns-in_default-ask-clause-shown_end g c = λ before has.
    shown_same g.S.Sink.tells _ _ before c.args.talk.now.note.safe _ c.args.talk.now.link c.args.talk.now.said _ has
    (are_among_on _ _ _ (safe_same c.args.talk.now.note c.reserve.new.self.note c.reserve.ensures.note) c.ask.ensures.safe)
    (c.ask.ensures.said ∙ c.reserve.ensures.said)

pub returns-then-not-is_next-clause-shown_end : goal.returns-then-not-is_next-clause-shown_end
returns-then-not-is_next-clause-shown_end g c = λ before has.
    shown_same g.S.Sink.tells _ _ before c.args.talk.now.note.safe _ c.args.talk.now.link c.args.talk.now.said _ has
    (are_among_on _ _ _ (safe_same c.args.talk.now.note c.reserve.new.self.note c.reserve.ensures.note) c.ask.ensures.safe)
    (c.ask.ensures.said ∙ c.reserve.ensures.said)

pub returns-then-more-clause-shown : goal.returns-then-more-clause-shown
returns-then-more-clause-shown g c = λ before has.
    has_silent g.S.Sink.tells _ _ before c.args.talk.now.note.safe _ c.args.talk.now.link c.args.talk.now.said _ has
    (are_among_on _ _ _ (safe_same c.args.talk.now.note c.reserve.new.self.note c.reserve.ensures.note)
    (are_among_on _ _ _ c.ask.ensures.safe (safe_same c.ask.new.talk.note c.add.new.self.note c.add.ensures.note))) c.in-Some.came c.in-Ok.bytes
    (said_more c.args.talk.now.said c.ask.new.talk.said _ _ c.add.ensures.said (c.ask.ensures.said ∙ c.reserve.ensures.said))

pub returns-in_default-next_reply-clause-shown_end : goal.returns-in_default-next_reply-clause-shown_end
returns-in_default-next_reply-clause-shown_end g c = λ before has.
    (has_silent g.S.Sink.tells _ _ before c.args.talk.now.note.safe _ c.args.talk.now.link c.args.talk.now.said _ has
    (are_among_on _ _ _ (safe_same c.args.talk.now.note c.reserve.new.self.note c.reserve.ensures.note)
    (are_among_on _ _ _ c.ask.ensures.safe
    (are_among_on _ _ _ c.next_reply.ensures.safe
    (safe_same c.next_reply.new.talk.note c.add-in_default-next_reply.new.self.note c.add-in_default-next_reply.ensures.note)))) c.in-Some.came c.in-Ok.bytes
    (said_more c.args.talk.now.said c.next_reply.new.talk.said _ _ c.add-in_default-next_reply.ensures.said
    (c.next_reply.ensures.said ∙ (c.ask.ensures.said ∙ c.reserve.ensures.said)))).shown

pub returns-in-Ok-put-clause-shown : goal.returns-in-Ok-put-clause-shown
returns-in-Ok-put-clause-shown g c = λ before has.
    has_replied g.S.Sink.tells (g.S.Sink.held c.args.link.now) (g.S.Sink.noted c.args.link.now) before c.args.talk.now.note.safe c.add-2.new.self.note.safe
    c.args.talk.now.link c.args.talk.now.said c.add-2.new.self.said has
    (are_among_on _ _ _ (safe_same c.args.talk.now.note c.reserve.new.self.note c.reserve.ensures.note)
    (are_among_on _ _ _ c.ask.ensures.safe
    (are_among_on _ _ _ c.next_reply.ensures.safe
    (are_among_on _ _ _ c.show.ensures.kept.safe (safe_same c.show.new.self.note c.add-2.new.self.note c.add-2.ensures.note)))))
    (g.S.Sink.noted c.put_all-put.new.out) c.show.ensures.shown.0 c.in-Some.came c.in-Some-next_reply.step c.in-Ok.bytes c.in-Some-next_reply.reply
    (said_more c.args.talk.now.said c.show.new.self.said _ _ c.add-2.ensures.said
    (c.show.ensures.said ∙ (c.next_reply.ensures.said ∙ (c.ask.ensures.said ∙ c.reserve.ensures.said))))
    (λ told. c.put_all-put.ensures.noted ∙ c.show.ensures.shown.2 told)
    (subst (λ v. Among (safe_from c.show.ensures.shown.0 (c.in-Some-next_reply.step, reply_on c.args.talk.now.link c.in-Some-next_reply.reply)) v.safe)
    (sym c.add-2.ensures.note)
    (told_safe c.next_reply.new.talk.note.told c.show.new.self.note.safe c.show.ensures.shown.0
    (c.in-Some-next_reply.step, reply_on c.args.talk.now.link c.in-Some-next_reply.reply) c.show.ensures.shown.1
    (subst (λ k. Among (c.in-Some-next_reply.step, reply_on k c.in-Some-next_reply.reply) c.next_reply.new.talk.note.told)
    (c.ask.ensures.link ∙ c.reserve.ensures.link) c.in-Some-next_reply.ensures.told)))
    (g.S.Sink.held c.put_all-put.new.out)
    (whole_as g.S.Sink.tells _ _ _ _ c.as_slice.ensures
    (put_from g.S.Sink.tells (g.S.Sink.held c.args.link.now) (g.S.Sink.held c.show.new.link) _ _ c.show.ensures.held c.in-Ok-put.ensures.put))

pub returns-in-Err-clause-shown_end : goal.returns-in-Err-clause-shown_end
returns-in-Err-clause-shown_end g c = λ before has.
    shown_replied g.S.Sink.tells (g.S.Sink.held c.args.link.now) (g.S.Sink.noted c.args.link.now) before c.args.talk.now.note.safe c.add-2.new.self.note.safe
    c.args.talk.now.link c.args.talk.now.said c.add-2.new.self.said has
    (are_among_on _ _ _ (safe_same c.args.talk.now.note c.reserve.new.self.note c.reserve.ensures.note)
    (are_among_on _ _ _ c.ask.ensures.safe
    (are_among_on _ _ _ c.next_reply.ensures.safe
    (are_among_on _ _ _ c.show.ensures.kept.safe (safe_same c.show.new.self.note c.add-2.new.self.note c.add-2.ensures.note)))))
    (g.S.Sink.noted c.put_all-put.new.out) c.show.ensures.shown.0 c.in-Some.came c.in-Some-next_reply.step c.in-Ok.bytes c.in-Some-next_reply.reply
    (said_more c.args.talk.now.said c.show.new.self.said _ _ c.add-2.ensures.said
    (c.show.ensures.said ∙ (c.next_reply.ensures.said ∙ (c.ask.ensures.said ∙ c.reserve.ensures.said))))
    (λ told. c.put_all-put.ensures.noted ∙ c.show.ensures.shown.2 told)
    (subst (λ v. Among (safe_from c.show.ensures.shown.0 (c.in-Some-next_reply.step, reply_on c.args.talk.now.link c.in-Some-next_reply.reply)) v.safe)
    (sym c.add-2.ensures.note)
    (told_safe c.next_reply.new.talk.note.told c.show.new.self.note.safe c.show.ensures.shown.0
    (c.in-Some-next_reply.step, reply_on c.args.talk.now.link c.in-Some-next_reply.reply) c.show.ensures.shown.1
    (subst (λ k. Among (c.in-Some-next_reply.step, reply_on k c.in-Some-next_reply.reply) c.next_reply.new.talk.note.told)
    (c.ask.ensures.link ∙ c.reserve.ensures.link) c.in-Some-next_reply.ensures.told)))
