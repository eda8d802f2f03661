use Rattle.std.proofs.Common.{◌≡◌, ℕ, refl, sym, subst}
use Rattle.std.specs.List.{flat_map}
use Rattle.std.specs.Prelude.{filter, not}
use Rattle.node_traits.specs.Letters.{letter_input, sends}
use Rattle.node_traits.specs.ShardRows.{ShardRow, refuses, shard_no_table, wants_table}
use Rattle.protocol_model.specs.Refusals.{lack_view}
use Rattle.shard_node.specs.State.{shard_view}
use Rattle.shard_node.proofs.node.ShardNode.plan_no_table.Goals as goal

pub returns-clause-planned : goal.returns-clause-planned
returns-clause-planned c = λ m body timed.
    let s = shard_view c.args.self.now in
    let x = c.args.missing in
    let lack = lack_view x.lack in
    record {
      effect = sends (flat_map (refuses s c.args.time.0 x.node.0 lack) (filter (wants_table x.namespace) s.parked));
      row = subst
          (λ (u : ℕ). ShardRow s (letter_input m) (sends (flat_map (refuses s u x.node.0 lack) (filter (wants_table x.namespace) s.parked)))
          (record { me = s.me; time = u; tables = s.tables; entries = s.entries; ceiling = s.ceiling; parked = filter (λ p. not (wants_table x.namespace p)) s.parked }))
          (sym timed)
          (shard_no_table s m x.namespace x.node.0 lack body);
      sent = sym c.in_ok-mail.ensures;
      untold = refl;
      readable = tt;
      spelled = c.new.ensures.items;
    }
