-- What may become of an open request by a message.
use Rattle.node_model.specs.Letters.{Letter, letter_input}
use Rattle.node_model.specs.RouterRequests.{heard}
use Rattle.node_model.specs.RouterNext.{Next, after_next, knows}
use Rattle.node_model.specs.RouterRows.{RouterRow, goes_on}
use Rattle.node_model.specs.States.{Open, Router}

abbrev pub MayGo : Router → Letter → Open → Next → Type 0
MayGo r m q next = RouterRow r (letter_input m) (goes_on next) (knows r (heard r m) r.tables (after_next q next r.requests))
