use Rattle.std.proofs.Common.{◌≡◌, ◌∷◌, [], ap, sym, ◌∙◌, rules}
use Rattle.std.specs.Prelude.{List, map}
use Rattle.std.specs.Option.{option_map}
use Rattle.chunk_table.specs.VerdictMeanings.{sent_view}
use Rattle.command_replies.specs.Kinds.{given_view}
use Rattle.node_traits.specs.Letters.{letter_input, write_done}
use Rattle.node_traits.specs.Outcomes as outcomes
use Rattle.node_traits.specs.ShardRows.{heard, says, shard_repeat}
use Rattle.node_traits.specs.Ids.{id_view}
use Rattle.protocol_model.specs.Statements.{done_view, statement_view}
use Rattle.shard_store.specs.Outcomes as told
use Rattle.shard_node.proofs.Planned.{told_planned}
use Rattle.shard_node.proofs.Serving.{not_fitting, repeats_first}
use Rattle.shard_node.specs.State.{shard_view}
use Rattle.shard_node.proofs.node.ShardNode.plan_repeat.Goals as goal

pub returns-clause-planned : goal.returns-clause-planned
returns-clause-planned c = λ m body timed.
    let s = shard_view c.args.self.now in
    let ask = c.args.ask.now in
    let given = given_view ask.number in
    let statements = map (statement_view given (id_view ask.id)) ask.statements.items in
    let d = told.done_view c.in-Some.statement.now.index c.in-Some-2.told in
    let dones : map (λ x. done_view x) c.push.new.self.items ≡ d ∷ [] = search rules in
    let repeated = repeats_first ask.ordered s.entries given (id_view ask.id) ask.statements.items c.deref.result.now c.in-Some.statement.now d c.deref.ensures.value c.in-Some.ensures.item.3.0
    c.in-Some.ensures.item.1 (sym (ap (option_map (told.done_view c.in-Some.statement.now.index)) c.in-Some-2.is) ∙ c.in_ok-told.ensures) in
    let old = not_fitting s.me s.tables given (id_view ask.id) ask.turn ask.ordered ask.namespace ask.statements.items c.deref.result.now (sent_view ask.sent)
    c.deref.ensures.value c.in-Some.ensures.item.3.0 c.requires.old in
    told_planned s (letter_input m) c.of_message.result ask.id.router.0 c.args.time.0 (heard s m) (write_done (id_view ask.id) (d ∷ [])) _
    (ap (λ t. t.0) c.of_message.ensures.time) timed c.of_message.ensures.change c.of_message.ensures.records c.of_message.ensures.mail
    (c.message-answer.ensures ∙ ap (λ (ds : List outcomes.Done). says s ask.id.router.0 c.args.time.0 (write_done (id_view ask.id) ds)) dones)
    (shard_repeat s m (id_view ask.id) ask.turn ask.ordered ask.namespace statements (sent_view ask.sent) d [] body old repeated)
