use Rattle.std.proofs.Common.{Global, ◌≡◌, refl, ap, subst, ◌∙◌, List}
use Rattle.std.specs.Option.{option_map}
use Rattle.std.specs.declared.vec.Vec.{Vec}
use Rattle.std.proofs.lemmas.Result.{IfOk-weaker}
use Rattle.command_replies.specs.Kinds.{kind_view}
use Rattle.node_model.specs.RouterNext as nexts
use Rattle.node_model.specs.RouterRequests as requested
use Rattle.protocol_model.specs.declared.refused.Try.{Try}
use Rattle.router_requests.specs.Askers.{asker_view}
use Rattle.router_requests.specs.Nexts.{write_by, write_next}
use Rattle.router_requests.specs.Works.{open_view, statements_of, work_of}
use Rattle.write_runs.specs.Runs.{answers_view, course_view, runs_view}
use Rattle.write_runs.specs.declared.run.Run.{Run}
use Rattle.router_node.specs.News.{next_noted}
use Rattle.router_node.specs.RouterStates.{router_of}
use Rattle.router_node.proofs.Sent.{notes_on}
use Rattle.router_node.proofs.node.RouterNode.next_noted.Goals as goal

pub returns : goal.returns
returns c =
    let n = c.args.self.now in
    let r = router_of n in
    let a = asker_view c.asker.result in
    let q = open_view n.me.0 n.life c.args.request.now in
    let write = c.args.write.now in
    let noted = c.args.noted.now in
    let now = answers_view noted in
    let time = c.args.time.0 in
    let known = option_map (λ t. t.now) c.table_of.result in
    let rest = c.deref-3.result.now in
    let tries = c.deref-4.result.now in
    let left = c.in_ok-left.left.items in
    IfOk-weaker c.write_on.result
    (λ next. write_by a time known write.ordered (runs_view rest) q (kind_view write.kind) write.ordered (statements_of (requested.id_of a q.count) write) (course_view noted tries left)
    ≡ write_next a time q (work_of (requested.id_of a q.count) write (course_view noted tries left)) next)
    (λ next. next_noted r time q write noted ≡ write_next r time q (work_of (requested.id_of r q.count) write (course_view noted write.tries.items write.runs.items)) next)
    (λ next found. notes_on r a time c.asker.ensures q write noted rest left known next c.table_of.ensures
    (ap (λ (l : List Run). runs_view l) c.deref-3.ensures.value ∙ c.in_ok-rest.ensures
    ∙ ap (λ (l : List Run). nexts.left_of now (nexts.served_in_part now (runs_view l))) c.deref.ensures.value)
    (c.in_ok-left.ensures ∙ ap (λ (l : List Run). nexts.left_of now (runs_view l)) c.deref-2.ensures.value)
    (subst (λ (ts : List (Vec Try Global)). write_by a time known write.ordered (runs_view rest) q (kind_view write.kind) write.ordered (statements_of (requested.id_of a q.count) write)
    (course_view noted ts left) ≡ write_next a time q (work_of (requested.id_of a q.count) write (course_view noted ts left)) next) c.deref-4.ensures.value found))
    (c.write_on.ensures q refl refl)
