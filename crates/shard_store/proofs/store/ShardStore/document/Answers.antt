use Rattle.std.proofs.Common.{Some, ap, arith, ◌∙◌}
use Rattle.shard_store.proofs.Pushed.{left_at}
use Rattle.shard_store.specs.Collections.{shown_in}
use Rattle.shard_store.specs.Entries.{entries_kept}
use Rattle.shard_store.proofs.store.ShardStore.document.Goals as goal

pub returns : goal.returns
returns c =
    let store = c.args.self.now in
    c.get_at.ensures
    ∙ ap (λ n. shown_in store.collections n c.args.key.now store.last.0) c.as_str.ensures.text
    ∙ store.shown c.args.namespace.now c.args.key.now store.last.0
    ∙ left_at (entries_kept store.shard.0 store.entries.items) store.last.0 store.last.0 store.past (omega arith) c.args.namespace.now (Some c.args.key.now)
