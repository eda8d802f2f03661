use Rattle.std.proofs.Common.{ap, sym, ◌∙◌, ℕ, List}
use Rattle.command_replies.specs.Kinds.{given_view, kind_view}
use Rattle.command_replies.specs.Refusals.{refusal_view}
use Rattle.node_model.specs.RouterRequests as requested
use Rattle.node_model.specs.RouterNext.{gives_up}
use Rattle.router_requests.specs.Askers.{asker_view, knowing}
use Rattle.router_requests.specs.Works.{open_view, statements_of, write_course}
use Rattle.write_runs.specs.Runs.{all_tries_view}
use Rattle.router_requests.proofs.asker.Asker.table_given_up.Goals as goal

pub returns : goal.returns
returns c = λ all is.
    let r = asker_view c.args.self in
    let time = c.args.time.0 in
    let q = open_view r.me r.life c.args.request.now in
    let id = requested.id_of r q.count in
    let write = c.args.write.now in
    let sent =
    rw (c.deref.ensures.value, c.deref-2.ensures.value, c.deref-3.ensures.value)
    at (c.in_ok-indices.ensures (given_view write.number) id (all_tries_view write.tries.items)) in
    ap (λ (l : List ℕ). gives_up (knowing all r) time q (kind_view write.kind) write.ordered (statements_of id write) (write_course write) (refusal_view c.args.refusal.now) l)
    (sym sent ∙ sym c.deref-4.ensures.value)
    ∙ c.in_ok-next.ensures all is
