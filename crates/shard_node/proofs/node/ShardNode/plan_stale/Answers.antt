use Rattle.std.proofs.Common.{◌≡◌, sym, ap, subst, ◌∙◌}
use Rattle.chunk_table.specs.Meanings.{version_view}
use Rattle.chunk_table.specs.Tables.{table_of}
use Rattle.chunk_table.specs.Verdicts.{router_is_old, verdict_of}
use Rattle.node_traits.specs.Letters.{is_stale, letter_input, of_request, refused}
use Rattle.node_traits.specs.ShardRows.{Ask, heard, index_shown, shard_stale}
use Rattle.node_traits.specs.Ids.{id_view}
use Rattle.protocol_model.specs.Messages.{letter_of}
use Rattle.shard_node.proofs.Planned.{told_planned}
use Rattle.shard_requests.specs.Asks.{ask_view}
use Rattle.shard_node.specs.State.{shard_view}
use Rattle.shard_node.proofs.node.ShardNode.plan_stale.Goals as goal

pub returns-clause-planned : goal.returns-clause-planned
returns-clause-planned c =
    let s = shard_view c.args.self.now in
    let m = letter_of c.args.message.now in
    let ask = c.in-Some.ask in
    let same : ask_view ask ≡ c.requires.old.0 = let e = c.in-Some.ensures ∙ c.requires.old.1 in cc in
    let verdict = subst (λ (a : Ask). verdict_of a.sent s.me (table_of a.namespace s.tables) ≡ router_is_old (version_view c.args.met)) (sym same) c.requires.old.2 in
    told_planned s (letter_input m) c.of_message.result ask.id.router.0 c.args.time.0 (heard s m) (refused (of_request (id_view ask.id) ask.turn (index_shown ask.first)) (is_stale (version_view c.args.met))) _
    (ap (λ t. t.0) c.of_message.ensures.time) c.requires.time c.of_message.ensures.change c.of_message.ensures.records c.of_message.ensures.mail c.refusal-told.ensures
    (shard_stale s m (ask_view ask) (version_view c.args.met) (sym c.in-Some.ensures) c.requires.unseen verdict)
