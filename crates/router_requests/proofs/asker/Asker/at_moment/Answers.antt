use Rattle.std.proofs.Common.{◌≡◌, refl, ap, sym, ◌∙◌, List, false, true}
use Rattle.command_model.specs.Answers.{refusal_answer}
use Rattle.command_replies.specs.Kinds.{kind_view}
use Rattle.node_model.specs.Letters.{Letter}
use Rattle.node_model.specs.RouterNext.{is_bound, is_expired, is_told, reply_to, stays}
use Rattle.node_model.specs.RouterRequests as requested
use Rattle.reply_model.specs.Refusals.{Refusal}
use Rattle.router_requests.specs.Askers.{asker_view, knowing}
use Rattle.router_requests.specs.Works.{open_view, statements_of, work_view, write_course}
use Rattle.router_requests.specs.declared.work.Work.TheVariants.{Writing}
use Rattle.router_requests.proofs.GivenUp.{again_known, of_moment, of_write}
use Rattle.router_requests.proofs.asker.Asker.at_moment.Goals as goal

pub returns-then-not-is_expired : goal.returns-then-not-is_expired
returns-then-not-is_expired c = λ all is.
    let r = asker_view c.args.self in
    let time = c.args.time.0 in
    let q = open_view r.me r.life c.args.request.now in
    of_moment (knowing all r) time c.args.moment q false q.work (sym (c.is_expired.ensures r.me r.life) ∙ c.if-not-is_expired.true) refl
    ∙ ap (λ (ls : List Letter). stays q ls) (again_known all r time q)
    ∙ c.in_ok-waits.ensures

pub returns-in_ok-next-in-Writing : goal.returns-in_ok-next-in-Writing
returns-in_ok-next-in-Writing c = λ all is.
    let r = asker_view c.args.self in
    let time = c.args.time.0 in
    let q = open_view r.me r.life c.args.request.now in
    let id = requested.id_of r q.count in
    let write = c.in-Writing.write in
    let has : q.work ≡ work_view id (Writing write) = ap (work_view id) c.in-Writing.is in
    of_moment (knowing all r) time c.args.moment q true (work_view id (Writing write)) (sym (c.is_expired.ensures r.me r.life) ∙ c.if-not-is_expired.false) has
    ∙ sym (of_write (knowing all r) time c.args.moment q (kind_view write.kind) write.ordered (statements_of id write) (write_course write)
    (is_bound write.ordered (write_course write).runs) has refl)
    ∙ c.in_ok-next-in-Writing.ensures all is

pub returns-in-Reading : goal.returns-in-Reading
returns-in-Reading c = λ all is.
    let r = asker_view c.args.self in
    let time = c.args.time.0 in
    let q = open_view r.me r.life c.args.request.now in
    let id = requested.id_of r q.count in
    of_moment (knowing all r) time c.args.moment q true _ (sym (c.is_expired.ensures r.me r.life) ∙ c.if-not-is_expired.false)
    (ap (work_view id) c.in-Reading.is)
    ∙ ap (λ (x : Refusal). is_told (reply_to r time q (refusal_answer x))) (sym c.expired_refusal.ensures)
    ∙ sym (c.of_refusal.ensures r time q)

pub returns-in-Sharding : goal.returns-in-Sharding
returns-in-Sharding c = λ all is.
    let r = asker_view c.args.self in
    let time = c.args.time.0 in
    let q = open_view r.me r.life c.args.request.now in
    let id = requested.id_of r q.count in
    of_moment (knowing all r) time c.args.moment q true _ (sym (c.is_expired.ensures r.me r.life) ∙ c.if-not-is_expired.false)
    (ap (work_view id) c.in-Sharding.is)
    ∙ ap (λ (x : Refusal). is_told (reply_to r time q (refusal_answer x))) (sym c.expired_refusal-in-Sharding.ensures)
    ∙ sym (c.of_refusal-in-Sharding.ensures r time q)

pub returns-in-Splitting : goal.returns-in-Splitting
returns-in-Splitting c = λ all is.
    let r = asker_view c.args.self in
    let time = c.args.time.0 in
    let q = open_view r.me r.life c.args.request.now in
    let id = requested.id_of r q.count in
    of_moment (knowing all r) time c.args.moment q true _ (sym (c.is_expired.ensures r.me r.life) ∙ c.if-not-is_expired.false)
    (ap (work_view id) c.in-Splitting.is)
    ∙ ap (λ (x : Refusal). is_told (reply_to r time q (refusal_answer x))) (sym c.expired_refusal-in-Splitting.ensures)
    ∙ sym (c.of_refusal-in-Splitting.ensures r time q)
