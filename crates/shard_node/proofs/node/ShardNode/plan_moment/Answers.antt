use Rattle.std.proofs.Common.{◌≡◌, ◌++◌, ℕ, List, [], sym, ap, ◌∙◌, append-nil, arith, drop}
use Rattle.std.specs.Prelude.{map, max}
use Rattle.std.proofs.lemmas.List.{drop_all}
use Rattle.node_model.specs.Times.{time_of_moment}
use Rattle.node_traits.specs.Letters.{moment_input}
use Rattle.node_traits.specs.ShardRows.{asks_again, shard_moment}
use Rattle.protocol_model.specs.Messages.{letter_of}
use Rattle.protocol_model.specs.declared.message.Message.{Message}
use Rattle.shard_node.proofs.Planned.{sends_planned}
use Rattle.shard_node.specs.State.{shard_view}
use Rattle.shard_node.proofs.node.ShardNode.plan_moment.Goals as goal

pub returns-clause-planned : goal.returns-clause-planned
returns-clause-planned c =
    let s = shard_view c.args.self.now in
    let at = c.loop-message in
    let items = c.deref-message-items.result.now in
    let is : c.later-time.result.0 ≡ max s.time (time_of_moment c.args.moment) = c.later-time.ensures ∙ ap (λ (t : ℕ). max s.time t) c.moment_time.ensures in
    let gone : drop at.message-index items ≡ [] = drop_all at.message-index items (omega (arith, c.loop-message-test.false)) in
    let whole : map letter_of at.mail ≡ asks_again s c.later-time.result.0 s.parked =
    sym (append-nil (map letter_of at.mail))
    ∙ ap (λ (l : List Message). map letter_of at.mail ++ asks_again s c.later-time.result.0 (map letter_of l)) (sym gone)
    ∙ at.invariant in
    sends_planned s (moment_input c.args.moment) c.of_mail.result (max s.time (time_of_moment c.args.moment)) (asks_again s (max s.time (time_of_moment c.args.moment)) s.parked)
    (ap (λ t. t.0) c.of_mail.ensures.time ∙ is) c.of_mail.ensures.change c.of_mail.ensures.records
    (ap (λ (t : ℕ). asks_again s t s.parked) (sym is) ∙ sym whole ∙ sym c.of_mail.ensures.mail) (shard_moment s c.args.moment)
