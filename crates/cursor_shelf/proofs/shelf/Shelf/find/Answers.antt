use mir.Syntax.{w64}
use Rattle.std.specs.Prelude.{Some, None}
use Rattle.std.proofs.lemmas.Int.{to_z-of_z}
use Rattle.cursor_shelf.specs.Shelves.{cursor_in}
use Rattle.cursor_shelf.proofs.Shelved.{at_id, found_under, found_other, found_none}
use Rattle.cursor_shelf.proofs.shelf.Shelf.find.Goals as goal

pub returns-then-is_of : goal.returns-then-is_of
unfolding cursor_in
returns-then-is_of c =
    found_under c.args.namespace.now _ c.in-Some.cursor.now _
    (at_id c.args.self.now.cursors _ c.args.id (Some c.in-Some.cursor.now) (to_z-of_z w64 c.args.id c.ranges.id) c.in-Some.ensures.value) c.is_of.ensures c.if-is_of.true

pub returns-else-is_of : goal.returns-else-is_of
unfolding cursor_in
returns-else-is_of c =
    found_other c.args.namespace.now _ c.in-Some.cursor.now _
    (at_id c.args.self.now.cursors _ c.args.id (Some c.in-Some.cursor.now) (to_z-of_z w64 c.args.id c.ranges.id) c.in-Some.ensures.value) c.is_of.ensures c.if-is_of.false

pub returns-in-None : goal.returns-in-None
unfolding cursor_in
returns-in-None c =
    found_none c.args.namespace.now _ (at_id c.args.self.now.cursors _ c.args.id None (to_z-of_z w64 c.args.id c.ranges.id) c.in-None.ensures.value)
