use Rattle.std.proofs.Common.{ap, sym, ◌∙◌}
use Rattle.protocol_model.specs.Refusals.{cause_view}
use Rattle.router_requests.specs.Askers.{asker_view, knowing}
use Rattle.router_requests.specs.Works.{open_view, stages_of, telling_view, wait_view}
use Rattle.router_requests.proofs.GivenUp.{of_untold, task_known}
use Rattle.router_requests.proofs.asker.Asker.reading_refused.Goals as goal

pub returns-else-has_told : goal.returns-else-has_told
returns-else-has_told c = λ all is.
    let r = asker_view c.args.self in
    let time = c.args.time.0 in
    let q = open_view r.me r.life c.args.request.now in
    let read = c.args.read.now in
    let cause = cause_view c.args.cause in
    let told = rw c.deref.ensures.value at (sym c.has_told.ensures ∙ c.if-has_told.false) in
    of_untold (knowing all r) time q c.args.sender.0 c.args.turn c.args.first cause read.named read.at.0 (stages_of read.parts) (telling_view read.telling) c.requires
    (ap wait_view c.in-ForTime.is) told
    ∙ task_known all r time q c.args.turn c.args.first cause
    ∙ sym (c.task_refused.ensures r time q)
