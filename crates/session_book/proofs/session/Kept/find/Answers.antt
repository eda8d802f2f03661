use Rattle.std.proofs.Common.{◌≡◌, Some}
use Rattle.session_book.specs.Statements.{IsRising}
use Rattle.session_book.proofs.Rising.{rest_rises}
use Rattle.session_book.proofs.session.Kept.find.Goals as goal

pub find_among-requires : goal.find_among-requires
find_among-requires c =
    let is : c.self.inside.first ≡ Some c.in-Some-2.field-0 = c.in-Some-2.is in
    let rises : IsRising c.self.inside.rest.items = rest_rises c.in-Some-2.field-0 c.self.inside.rest.items (rw is at c.self.invariant.rising) in
    rw c.deref.ensures.value rises
