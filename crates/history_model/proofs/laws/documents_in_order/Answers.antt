-- Entry by entry; and two ordered lists that find the same documents are equal.
use Rattle.history_model.proofs.Collections.{lists_collection, one_listing}
use Rattle.history_model.proofs.laws.documents_in_order.Goals as goal

pub returns-clause-collection : goal.returns-clause-collection
returns-clause-collection c = lists_collection

pub returns-clause-one : goal.returns-clause-one
returns-clause-one c = one_listing
