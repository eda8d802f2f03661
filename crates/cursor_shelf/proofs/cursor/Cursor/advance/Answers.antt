use Rattle.std.proofs.Common.{ap, sym, ◌∙◌, List, map}
use Rattle.std.proofs.lemmas.List.{drop-map}
use Rattle.std.specs.Arc.{arc_value}
use Rattle.bson_model.specs.Tree.{Fields}
use Rattle.cursor_shelf.specs.Cursors.{OpenCursor}
use Rattle.cursor_shelf.proofs.cursor.Cursor.advance.Goals as goal

pub returns : goal.returns
returns c =
    rw (sym c.self.view_is)
    (ap (λ (l : List Fields). record { namespace = c.self.inside.namespace; time = c.self.inside.time.0; remaining = l })
    (ap (λ l. map arc_value l) c.drop_front.ensures ∙ sym (drop-map arc_value c.args.count c.self.inside.remaining.items)))
