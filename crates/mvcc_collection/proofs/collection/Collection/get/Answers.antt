use Rattle.std.proofs.Common.{◌∙◌, sym}
use Rattle.mvcc_collection.specs.Collections.{at_in}
use Rattle.mvcc_collection.specs.Present.{newest, rows_of}
use Rattle.mvcc_collection.proofs.Rows.{rows_found}
use Rattle.mvcc_collection.proofs.collection.Collection.get.Goals as goal

pub returns : goal.returns
unfolding at_in rows_of
returns c =
    let self = c.args.self.now in
    c.get_at.ensures ∙ sym (rows_found c.args.key.now self.chains.items newest self.places.entries c.len-places.ensures.ordered)
