-- As many documents as were counted are shared.
use Rattle.std.proofs.Common.{◌≡◌, map, take}
use Rattle.std.specs.Arc.{arc_value}
use Rattle.cursor_shelf.proofs.cursor.share_front.Given as goal

abbrev pub invariant-loop-place : goal.invariant-loop-place
invariant-loop-place l = map arc_value l.front.items ≡ take l.place (map arc_value l.remaining.items)
