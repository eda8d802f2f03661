use Rattle.std.proofs.Common.{◌≡◌, ◌<◌, ◌+◌, suc, ap, sym, ◌∙◌, [], ◌∷◌, ◌++◌, List, length, map, get_or, take, add-one, arith, rules}
use Rattle.std.proofs.Math.ListN.{get_or-map}
use Rattle.std.proofs.Math.Seq.{take-suc}
use Rattle.std.proofs.lemmas.List.{length-map}
use Rattle.std.specs.Arc.{arc_value}
use Rattle.bson_model.specs.Tree.{Fields}
use Rattle.cursor_shelf.proofs.Longest.{one_more}
use Rattle.cursor_shelf.proofs.cursor.share_front.Goals as goal

pub loop-place-preserved : goal.loop-place-preserved
loop-place-preserved c =
    one_more arc_value c.args.remaining.now.items c.loop-place.front.items c.push.new.self.items c.loop-place.place c.index.result.now c.in_ok-shared.shared
    (omega (arith, c.loop-place-test.true, c.requires)) c.index.ensures (search rules) c.in_ok-push.ensures.items c.loop-place.invariant
