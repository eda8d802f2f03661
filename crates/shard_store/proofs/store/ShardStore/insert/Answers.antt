use Rattle.std.proofs.Common.{◌≡◌, ap, sym, ◌∙◌}
use Rattle.std.specs.Prelude.{Ok, Some, Result}
use Rattle.std.specs.Result.{result_ok}
use Rattle.std.specs.Arc.{arc_value}
use Rattle.bson_values.specs.Tree.{Datum}
use Rattle.value_model.specs.Keys.{KeyFault, valid_key}
use Rattle.query_model.proofs.ReadWrites.{insert_read}
use Rattle.query_model.specs.Writes.{insert_write}
use Rattle.node_model.specs.History.{document_left, insert_operation}
use Rattle.shard_store.proofs.Effects.{ok_effect, some_mapped}
use Rattle.shard_store.specs.Stores.{entries_of}
use Rattle.shard_store.proofs.store.ShardStore.insert.Goals as goal

pub returns : goal.returns
returns c =
    let store = c.args.self.now in
    let d = arc_value c.args.document.now in
    let key = c.in-Ok.key in
    let valid : valid_key d ≡ Ok key = ap valid_key (sym c.deref.ensures) ∙ c.in-Ok.ensures.key in
    ok_effect (entries_of store) c.args.namespace.now (insert_operation d) (insert_write d) key c.of_insert.result (insert_read d key valid)
    (ap (λ (r : Result Datum KeyFault). result_ok r) valid) c.of_insert.ensures.key
    (c.of_insert.ensures.does (document_left c.args.namespace.now (Some key) (entries_of store)) (c.is_some-stands.ensures ∙ some_mapped _ _ _ c.document.ensures))
