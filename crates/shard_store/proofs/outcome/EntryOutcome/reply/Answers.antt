use Rattle.shard_store.proofs.outcome.EntryOutcome.reply.Goals as goal

pub returns : goal.returns
returns c =
    let o = c.args.self.now in
    λ i. record { n = o.reply.n; modified = o.reply.modified; upserted = o.reply.upserted; code = o.told i }
