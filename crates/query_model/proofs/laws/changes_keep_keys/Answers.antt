-- A change goes edit by edit; an upsert begins with the equalities in order.
use Rattle.query_model.proofs.KeysStay.{change_keeps_key, begins_with_key}
use Rattle.query_model.proofs.laws.changes_keep_keys.Goals as goal

pub returns-clause-changes : goal.returns-clause-changes
returns-clause-changes c = change_keeps_key

pub returns-clause-upserts : goal.returns-clause-upserts
returns-clause-upserts c = begins_with_key
