use Rattle.std.proofs.Common.{ap, ◌∙◌, ◌++◌, List, map}
use Rattle.command_replies.specs.Kinds.{given_view, kind_view}
use Rattle.node_model.specs.Letters.{Letter}
use Rattle.protocol_model.specs.Messages.{letter_of}
use Rattle.router_requests.specs.Askers.{asker_view}
use Rattle.router_requests.specs.Works.{statements_of}
use Rattle.write_runs.specs.Runs.{answers_view, runs_view}
use Rattle.router_requests.proofs.Written.{all_sent, waits_for_table}
use Rattle.router_requests.proofs.asker.Asker.goes_with.Goals as goal

pub returns-then-not-some : goal.returns-then-not-some
returns-then-not-some c = λ q id tries of.
    let write = c.args.write.now in
    let none = rw (c.deref.ensures.value, c.deref-2.ensures.value) at (c.in_ok-some.ensures.none (given_view write.number) id tries c.if-not-some.true) in
    all_sent (asker_view c.args.self) c.args.time.0 c.args.asks q (kind_view write.kind) write.ordered (statements_of id write)
    (record { answers = answers_view c.args.answers.now; tries = tries; runs = runs_view c.args.runs.items }) (map letter_of c.args.sent.items) none

pub returns : goal.returns
returns c = λ q id tries of.
    let write = c.args.write.now in
    let some = rw (c.deref.ensures.value, c.deref-2.ensures.value) at (c.in_ok-some.ensures.some (given_view write.number) id tries c.if-not-some.false) in
    waits_for_table (asker_view c.args.self) c.args.time.0 c.args.asks q (kind_view write.kind) write.ordered (statements_of id write) c.args.namespace.now of
    (record { answers = answers_view c.args.answers.now; tries = tries; runs = runs_view c.args.runs.items }) (map letter_of c.args.sent.items)
    (map (λ m. letter_of m) c.add_letters.new.list.items) some
    (c.in_ok-add_letters.ensures ∙ ap (λ (ls : List Letter). ls ++ map letter_of c.args.sent.items) c.in_ok-mail.ensures)
