use Rattle.std.proofs.Common.{ap, sym, ◌∙◌, ℕ, List, false}
use Rattle.command_replies.specs.Kinds.{given_view, kind_view}
use Rattle.command_replies.specs.Refusals.{refusal_view}
use Rattle.node_model.specs.RouterRequests as requested
use Rattle.node_model.specs.RouterNext.{gives_up}
use Rattle.reply_model.specs.Refusals.{Refusal}
use Rattle.router_requests.specs.Askers.{asker_view, knowing}
use Rattle.router_requests.specs.Works.{open_view, statements_of, write_course}
use Rattle.router_requests.proofs.GivenUp.{of_write}
use Rattle.router_requests.proofs.asker.Asker.write_expires.Goals as goal

pub returns : goal.returns
returns c = λ all is.
    let r = asker_view c.args.self in
    let time = c.args.time.0 in
    let q = open_view r.me r.life c.args.request.now in
    let id = requested.id_of r q.count in
    let write = c.args.write.now in
    let kind = kind_view write.kind in
    let statements = statements_of id write in
    let course = write_course write in
    let free = rw c.deref.ensures.value at (sym c.binds.ensures ∙ c.if-binds.false) in
    let left = rw (c.deref-2.ensures.value, c.deref-3.ensures.value) at (c.in_ok-indices.ensures (given_view write.number) id) in
    of_write (knowing all r) time c.args.moment q kind write.ordered statements course false c.requires free
    ∙ ap (λ (x : Refusal). gives_up (knowing all r) time q kind write.ordered statements course x (requested.indices_of (requested.unanswered statements course.answers)))
    (sym c.expired_refusal-refusal.ensures)
    ∙ ap (λ (l : List ℕ). gives_up (knowing all r) time q kind write.ordered statements course (refusal_view c.expired_refusal-refusal.result) l)
    (sym left ∙ sym c.deref-4.ensures.value)
    ∙ c.in_ok-next.ensures all is
