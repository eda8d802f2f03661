use Rattle.std.proofs.Common.{◌≡◌, ◌∷◌, ℕ, List, [], refl, sym, ap, subst, ◌∙◌}
use Rattle.std.specs.Prelude.{filter, not}
use Rattle.std.specs.Arc.{arc_value}
use Rattle.chunk_table.specs.Tables.{Table, with_table}
use Rattle.node_traits.specs.Journal.{kept_table}
use Rattle.node_traits.specs.Letters.{letter_input, writes}
use Rattle.node_traits.specs.ShardRows.{ShardRow, shard_learn, tries, wants_table}
use Rattle.shard_records.specs.Records.{table_record}
use Rattle.shard_records.specs.RecordFormat.{spelled}
use Rattle.shard_records.specs.Readable.{IsReadable}
use Rattle.shard_node.specs.State.{shard_view}
use Rattle.shard_node.proofs.node.ShardNode.learn.Goals as goal

pub returns-clause-planned : goal.returns-clause-planned
returns-clause-planned c = λ m namespace create at body timed.
    let s = shard_view c.args.self.now in
    let t = arc_value c.args.table in
    let name : c.namespace.result.now ≡ t.namespace = c.namespace.ensures ∙ ap (λ (x : Table). x.namespace) c.deref-2.ensures in
    record {
      effect = writes (kept_table t ∷ []) (tries s c.args.time.0 (filter (wants_table t.namespace) s.parked));
      row = subst
          (λ (u : ℕ). ShardRow s (letter_input m) (writes (kept_table t ∷ []) (tries s u (filter (wants_table t.namespace) s.parked)))
          (record { me = s.me; time = u; tables = with_table t s.tables; entries = s.entries; ceiling = s.ceiling; parked = filter (λ p. not (wants_table t.namespace p)) s.parked }))
          (sym timed)
          (shard_learn s m namespace create at t body c.requires.news);
      sent = sym (c.in_ok-mail.ensures ∙ ap (λ (n : List ℕ). tries s c.args.time.0 (filter (wants_table n) s.parked)) name);
      untold = refl;
      readable = (subst (λ (x : Table). IsReadable (table_record x)) c.deref.ensures c.in_ok-records.ensures.readable, tt);
      spelled = c.in_ok-records.ensures.records ∙ ap (λ (x : Table). spelled 1 (table_record x) ∷ []) c.deref.ensures;
    }
