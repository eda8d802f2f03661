use mir.Val.{SFits}
use Rattle.std.proofs.Common.{◌≡◌, subst, ℤ, ◌+◌, length, rules, w64}
use Rattle.std.proofs.lemmas.Int.{to_z-of_z}
use Rattle.std.specs.Prelude.{Some, None}
use Rattle.reply_model.specs.Cursors.{Cursor, ShowsNext, open_cursor}
use Rattle.node_model.specs.RouterRequests as requested
use Rattle.router_cursors.specs.CursorLists.{advanced, batch_of}
use Rattle.router_node.specs.RouterStates.{router_of}
use Rattle.router_node.proofs.node.RouterNode.plan_more.Goals as goal

pub plan_next-requires-clause-shows : goal.plan_next-requires-clause-shows
plan_next-requires-clause-shows c =
    let r = router_of c.args.self.now in
    let id = requested.id_of r (r.count + 1) in
    let more = c.args.more in
    let whole : SFits w64 more.cursor = search rules in
    subst (λ (z : ℤ). (x : Cursor) × (open_cursor id z more.namespace r.cursors ≡ Some x)
    × ShowsNext id more.size r.cursors x (batch_of z more.namespace c.in-Ok.shown) (advanced id z (length c.in-Ok.shown.documents.items) r.cursors)) (to_z-of_z w64 more.cursor whole)
    (c.in-Ok.ensures.shows r.me r.life (r.count + 1))

pub plan_not_open-requires-clause-none : goal.plan_not_open-requires-clause-none
plan_not_open-requires-clause-none c =
    let r = router_of c.args.self.now in
    let id = requested.id_of r (r.count + 1) in
    let more = c.args.more in
    let whole : SFits w64 more.cursor = search rules in
    subst (λ (z : ℤ). open_cursor id z more.namespace r.cursors ≡ None) (to_z-of_z w64 more.cursor whole)
    (c.in-Err-NotFound.ensures.none r.me r.life (r.count + 1) c.in-Err-NotFound.field-0-is)
