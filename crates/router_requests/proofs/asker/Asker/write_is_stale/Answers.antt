use Rattle.std.proofs.Common.{◌≡◌, refl, ap, sym, ◌∙◌, List, [], Bool}
use Rattle.std.specs.Prelude.{Option, Some}
use Rattle.std.specs.Option.{option_map}
use Rattle.std.specs.Global.{Global}
use Rattle.std.specs.declared.vec.Vec.{Vec}
use Rattle.chunk_table.specs.Meanings.{version_view}
use Rattle.command_replies.specs.Kinds.{kind_view}
use Rattle.node_model.specs.RouterNext as nexts
use Rattle.node_model.specs.RouterRequests as requested
use Rattle.node_model.specs.States.{Course, writing}
use Rattle.protocol_model.specs.declared.refused.Try.{Try}
use Rattle.protocol_model.specs.declared.statement.StatementOutcome.{StatementOutcome}
use Rattle.router_requests.specs.Askers.{asker_view}
use Rattle.router_requests.specs.Nexts.{write_by, write_next}
use Rattle.router_requests.specs.Works.{open_view, statements_of, write_course}
use Rattle.write_runs.specs.Runs.{course_of, course_view, run_view}
use Rattle.router_requests.proofs.GivenUp.{stale_as}
use Rattle.router_requests.proofs.asker.Asker.write_is_stale.Goals as goal

pub returns : goal.returns
returns c = λ all is.
    let r = asker_view c.args.self in
    let time = c.args.time.0 in
    let q = open_view r.me r.life c.args.request.now in
    let id = requested.id_of r q.count in
    let write = c.args.write.now in
    let kind = kind_view write.kind in
    let statements = statements_of id write in
    let known = option_map (λ t. t.now) c.args.known in
    let next = c.in_ok-next.next in
    let course = c.in_ok-course.course in
    let runs = course.runs.items in
    let comes = rw (c.deref.ensures.value, c.deref-2.ensures.value, c.deref-3.ensures.value) at c.in_ok-course.ensures in
    let into : course_of course ≡ course_view c.deref-4.result.now c.deref-5.result.now runs =
    ap (λ (a : List (Option StatementOutcome)). course_view a course.tries.items runs) (sym c.deref-4.ensures.value)
    ∙ ap (λ (ts : List (Vec Try Global)). course_view c.deref-4.result.now ts runs) (sym c.deref-5.ensures.value) in
    let goes =
    ap (λ (b : Bool). write_by r time known b [] q kind write.ordered statements (course_of course)) (sym c.is_below.ensures)
    ∙ ap (λ (d : Course). write_by r time known c.is_below.result [] q kind write.ordered statements d) into
    ∙ c.in_ok-next.ensures q refl refl
    ∙ ap (λ (d : Course). write_next r time q (writing kind write.ordered statements d) next) (sym into) in
    stale_as all r time q kind write.ordered statements (write_course write) known is c.requires next (run_view c.args.run.now) (version_view c.args.met) (course_of course) comes goes
    ∙ ap (λ (n : nexts.Next). Some n) (sym (c.of_course.ensures r time q))
