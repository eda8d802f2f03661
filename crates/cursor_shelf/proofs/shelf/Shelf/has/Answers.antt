use mir.Syntax.{w64}
use Rattle.std.proofs.Common.{ap, sym, ◌∙◌}
use Rattle.std.specs.Prelude.{Option, is_some}
use Rattle.std.proofs.lemmas.Int.{to_z-of_z}
use Rattle.cursor_shelf.specs.Cursors.{OpenCursor}
use Rattle.cursor_shelf.proofs.Shelved.{same_under, some_mapped}
use Rattle.cursor_shelf.proofs.shelf.Shelf.has.Goals as goal

pub returns : goal.returns
returns c =
    c.is_some.ensures ∙ some_mapped (λ x. x.now) c.find.result
    ∙ ap (λ (o : Option OpenCursor). is_some o) (sym (same_under c.args.self.now _ c.args.id c.args.namespace.now _ (to_z-of_z w64 c.args.id c.ranges.id) c.find.ensures))
