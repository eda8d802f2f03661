use Rattle.mvcc_collection.proofs.Latest.{last_among}
use Rattle.mvcc_collection.proofs.chain.latest_among.Goals as goal

pub returns : goal.returns
returns c = last_among c.args.versions.now c.in_ok-last.last.now c.in_ok-last.ensures.value
