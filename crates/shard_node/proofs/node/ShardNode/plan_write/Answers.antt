use Rattle.std.proofs.Common.{◌≡◌, [], ap, ◌∙◌, rules}
use Rattle.std.specs.Prelude.{List, map}
use Rattle.chunk_table.specs.VerdictMeanings.{sent_view}
use Rattle.command_replies.specs.Kinds.{given_view}
use Rattle.node_traits.specs.Letters.{letter_input, write_ask}
use Rattle.node_traits.specs.ShardRows.{heard, shard_empty}
use Rattle.node_traits.specs.Ids.{id_view}
use Rattle.protocol_model.specs.Statements.{done_view, statement_view}
use Rattle.protocol_model.specs.declared.statement.Statement.{Statement}
use Rattle.shard_store.specs.Plans.{made_by}
use Rattle.shard_node.proofs.Planned.{is_none, not_empty, quiet_planned, write_planned}
use Rattle.shard_node.specs.State.{shard_view}
use Rattle.shard_node.proofs.node.ShardNode.plan_write.Goals as goal

pub returns-then-is_empty-clause-planned : goal.returns-then-is_empty-clause-planned
returns-then-is_empty-clause-planned c = λ m body timed.
    let s = shard_view c.args.self.now in
    let ask = c.args.ask in
    let none : ask.statements.items ≡ [] = c.in_ok-dones.ensures.some (is_none c.in_ok-dones.field-0.dones.items _ (search rules) c.if-is_empty.ensures) in
    let planned = c.of_time.ensures in
    quiet_planned s (letter_input m) c.of_time.result (heard s m) (ap (λ t. t.0) planned.time ∙ timed) planned.change planned.records planned.mail
    (shard_empty s m (id_view ask.id) ask.turn ask.ordered ask.namespace (sent_view ask.sent)
    (body ∙ ap (λ (xs : List Statement). write_ask (id_view ask.id) ask.turn ask.ordered ask.namespace (map (statement_view (given_view ask.number) (id_view ask.id)) xs) (sent_view ask.sent)) none))

pub returns-clause-planned : goal.returns-clause-planned
returns-clause-planned c = λ m body timed.
    let s = shard_view c.args.self.now in
    let ask = c.args.ask in
    write_planned s m _ (id_view ask.id) ask.turn ask.ordered ask.namespace (map (statement_view (given_view ask.number) (id_view ask.id)) ask.statements.items) (sent_view ask.sent) c.args.time.0
    (map (λ d. done_view d) c.in_ok-dones.dones.items) (made_by s.me ask.namespace c.serve_all.new.entries) c.time-last.result.0 timed body c.requires.fits (search rules)
    (not_empty (λ d. done_view d) c.in_ok-dones.dones.items _ (search rules) c.if-is_empty.ensures) (search rules) (search rules) (search rules)
