use Rattle.std.proofs.Common.{ℕ, List, [], ◌∷◌, ap, refl, subst, sym, ◌∙◌}
use Rattle.std.specs.Prelude.{map}
use Rattle.std.specs.Arc.{arc_value}
use Rattle.chunk_table.specs.VerdictMeanings.{sent_view}
use Rattle.node_traits.specs.Ids.{id_view}
use Rattle.node_traits.specs.Journal.{kept_ceiling}
use Rattle.node_traits.specs.Letters.{Letter, letter_input, writes}
use Rattle.node_traits.specs.ShardRows.{ShardRow, says, shard_read_above, under}
use Rattle.pipeline_lang.specs.Halves.{half_of}
use Rattle.protocol_model.specs.Messages.{letter_of}
use Rattle.protocol_model.specs.declared.message.Message.{Message}
use Rattle.shard_node.specs.Plans.{half_wanted}
use Rattle.shard_node.specs.State.{shard_view}
use Rattle.shard_node.proofs.node.ShardNode.plan_above.Goals as goal

pub returns-clause-planned : goal.returns-clause-planned
returns-clause-planned c = λ m body timed.
    let s = shard_view c.args.self.now in
    let ask = c.args.ask.now in
    record {
      effect = writes (kept_ceiling ask.at.0 ∷ []) (says s s.me c.args.time.0 (half_wanted s ask) ∷ []);
      row = subst
          (λ (u : ℕ). ShardRow s (letter_input m) (writes (kept_ceiling ask.at.0 ∷ []) (says s s.me u (half_wanted s ask) ∷ [])) (under s u ask.at.0))
          (sym timed)
          (shard_read_above s m (id_view ask.id) ask.turn ask.namespace ask.at.0 (half_of (arc_value ask.half)) (sent_view ask.sent) body c.requires.fits
          c.requires.above);
      sent = sym (ap (λ (l : List Message). map letter_of l) c.of_one.ensures ∙ ap (λ (x : Letter). x ∷ []) c.in_ok-message.ensures);
      untold = refl;
      readable = (c.in_ok-records.ensures.readable, tt);
      spelled = c.in_ok-records.ensures.records;
    }
