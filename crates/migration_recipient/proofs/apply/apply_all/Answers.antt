-- One member is taken from the end, and put unless its key is done.
use Rattle.std.proofs.Common.{map, subst}
use Rattle.shard_records.specs.Batches.{moved_view}
use Rattle.migration_recipient.proofs.Steps.{Applies, seen_pushed, step, step_room}
use Rattle.migration_recipient.proofs.apply.apply_all.Goals as goal

pub apply_one-requires : goal.apply_one-requires
apply_one-requires c =
    let before = c.args.c.now in
    let now = c.loop-moved.c in
    let all = map moved_view c.args.docs.items in
    let left = map moved_view c.pop.new.self.items in
    let m = moved_view c.in-Some.moved in
    let time = c.args.time.0 in
    let grew = seen_pushed c.loop-moved.docs.items c.pop.new.self.items c.in-Some.moved c.in-Some.ensures.items in
    let h = subst (λ l. Applies before now all l time) grew c.loop-moved.invariant in
    record { room = step_room before now now all left m time h c.requires.room }

pub loop-moved-preserved : goal.loop-moved-preserved
loop-moved-preserved c =
    let before = c.args.c.now in
    let now = c.loop-moved.c in
    let all = map moved_view c.args.docs.items in
    let left = map moved_view c.pop.new.self.items in
    let m = moved_view c.in-Some.moved in
    let time = c.args.time.0 in
    let grew = seen_pushed c.loop-moved.docs.items c.pop.new.self.items c.in-Some.moved c.in-Some.ensures.items in
    let h = subst (λ l. Applies before now all l time) grew c.loop-moved.invariant in
    step before now c.apply_one.new.c all left m time h c.requires.later c.apply_one.ensures.put c.apply_one.ensures.same
