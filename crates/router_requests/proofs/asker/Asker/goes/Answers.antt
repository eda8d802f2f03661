use Rattle.std.proofs.Common.{ap, sym, ◌∙◌, ◌++◌, List, [], map}
use Rattle.std.specs.Option.{option_map}
use Rattle.command_replies.specs.Kinds.{kind_view}
use Rattle.node_model.specs.Letters.{Letter}
use Rattle.node_model.specs.RouterRequests as requested
use Rattle.node_model.specs.States.{Run}
use Rattle.protocol_model.specs.Messages.{letter_of}
use Rattle.router_requests.specs.Askers.{asker_view}
use Rattle.router_requests.specs.Nexts.{goes_by}
use Rattle.router_requests.specs.Works.{statements_of}
use Rattle.write_runs.specs.Runs.{all_tries_view, answers_view, course_view, runs_view}
use Rattle.router_requests.proofs.Written.{goes_on}
use Rattle.router_requests.proofs.asker.Asker.goes.Goals as goal

pub returns : goal.returns
returns c = λ q same of going.
    let r = asker_view c.args.self in
    let time = c.args.time.0 in
    let id = requested.id_of r c.args.count in
    let write = c.args.write.now in
    let statements = statements_of id write in
    let answers = answers_view c.args.answers.now in
    let tries = all_tries_view c.args.tries.now in
    let asked = requested.asks_to_write r time id c.args.namespace.now write.ordered statements (course_view [] c.args.tries.now []) in
    let more = runs_view c.in_ok-more.more.items in
    let letters = map (λ m. letter_of m) c.add_runs_asked.new.asks.items in
    let is = rw c.deref.ensures.value at (c.in_ok-more.ensures id) in
    let added = rw c.deref-2.ensures.value at c.in_ok-add_runs_asked.ensures in
    goes_on r time c.args.asks q (kind_view write.kind) write.ordered statements c.args.count c.args.namespace.now same of (option_map (λ t. t.now) c.args.table)
    (runs_view c.args.rest.now) (course_view c.args.answers.now c.args.tries.now c.args.runs.items) more letters going is
    (added ∙ ap (λ (ls : List Letter). ls ++ asked more) c.in_ok-sent.ensures)
    ∙ ap (λ (rs : List Run). goes_by r time c.args.asks q (kind_view write.kind) write.ordered statements (record { answers = answers; tries = tries; runs = rs }) letters)
    (sym c.in_ok-add_runs.ensures)
    ∙ c.in_ok-sends.ensures q id tries of
