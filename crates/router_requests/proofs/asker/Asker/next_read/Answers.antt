use Rattle.std.proofs.Common.{ap, sym, ◌∙◌, refl, Bool, false, if◌then◌else◌}
use Rattle.std.specs.Option.{option_map}
use Rattle.node_model.specs.RouterNext.{empty_answer, is_told, reply_to}
use Rattle.node_model.specs.States.{Work}
use Rattle.protocol_model.specs.Tables.{at_view}
use Rattle.router_requests.specs.Askers.{asker_view}
use Rattle.router_requests.specs.Nexts.{read_by, read_next}
use Rattle.router_requests.specs.Works.{open_view, stages_of, telling_view}
use Rattle.write_runs.specs.Runs.{tries_view}
use Rattle.router_requests.proofs.ByTables.{arrives_at}
use Rattle.router_requests.proofs.asker.Asker.next_read.Goals as goal

pub returns-then-is_empty : goal.returns-then-is_empty
returns-then-is_empty c =
    let r = asker_view c.args.self in
    let time = c.args.time.0 in
    let q = open_view r.me r.life c.args.request.now in
    let read = c.args.read.now in
    let known = option_map (λ t. t.now) c.args.known in
    let stages = stages_of read.parts in
    let telling = telling_view read.telling in
    arrives_at r time known (at_view c.args.told) q read.named read.at.0 stages telling c.requires
    ∙ ap (λ (b : Bool). if b then is_told (reply_to r time q (empty_answer q read.at.0 telling)) else read_by r time known false q read.named read.at.0 stages telling)
    (sym c.is_empty.ensures ∙ c.if-is_empty.true)

pub returns : goal.returns
returns c =
    let r = asker_view c.args.self in
    let time = c.args.time.0 in
    let q = open_view r.me r.life c.args.request.now in
    let read = c.args.read.now in
    let known = option_map (λ t. t.now) c.args.known in
    let stages = stages_of read.parts in
    let telling = telling_view read.telling in
    arrives_at r time known (at_view c.args.told) q read.named read.at.0 stages telling c.requires
    ∙ ap (λ (b : Bool). if b then is_told (reply_to r time q (empty_answer q read.at.0 telling)) else read_by r time known false q read.named read.at.0 stages telling)
    (sym c.is_empty.ensures ∙ c.if-is_empty.false)
    ∙ c.in_ok-sends.ensures q refl refl (ap tries_view (sym c.deref.ensures.value))
    ∙ ap (λ (w : Work). read_next q w c.in_ok-sends.sends) (sym c.requires)
    ∙ sym (c.of_sends.ensures r time q)
