use Rattle.shard_store.proofs.Facts.{last_is_greatest}
use Rattle.shard_store.specs.Stores.{entries_of}
use Rattle.shard_store.proofs.store.ShardStore.last.Goals as goal

pub returns : goal.returns
returns c =
    let store = c.args.self.now in
    last_is_greatest (entries_of store) store.last.0 store.past store.reached
