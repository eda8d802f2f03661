-- One more key has room.
use Rattle.std.proofs.Common.{take, ◌+◌, ◌∙◌, ◌++◌, ◌∷◌, [], ap, sym}
use Rattle.std.proofs.lemmas.List.{take_more}
use Rattle.migration_recipient.proofs.Steps.{more_room, same_then}
use Rattle.migration_recipient.proofs.apply.reserve_all.Goals as goal

pub loop-moved-preserved : goal.loop-moved-preserved
loop-moved-preserved c =
    let i = c.loop-moved.moved-index in
    let docs = c.args.docs.now in
    let old = c.loop-moved.c in
    let new = c.reserve.new.self in
    record {
      room = more_room old new (take (i + 1) docs) (take i docs) c.moved-item.result (take_more docs i c.moved-item.result c.loop-moved-test.true
          ∙ ap (λ x. take i docs ++ x ∷ []) (sym c.moved-item.is)) c.in_ok-reserve.ensures.rooms c.loop-moved.invariant.room c.in_ok-reserve.ensures.room;
      same = same_then c.args.c.now old new c.loop-moved.invariant.same c.in_ok-reserve.ensures.same c.in_ok-reserve.ensures.last c.in_ok-reserve.ensures.rooms;
    }
