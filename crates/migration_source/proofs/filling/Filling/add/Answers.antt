-- A member that finds room is one more, and its bytes are counted.
use Rattle.std.proofs.Common.{◌∙◌, sym}
use Rattle.migration_source.proofs.Fills.{counted_pushed, fit_pushed, room_seen, seen_pushed}
use Rattle.migration_source.proofs.filling.Filling.add.Goals as goal

pub invariant_of-self-2 : goal.invariant_of-self-2
invariant_of-self-2 c =
    let f = c.args.self.now in
    let docs = f.docs.items in
    let own = c.bytes_of.ensures in
    let sum = c.saturating_add-bytes.ensures in
    let pushed = c.in_ok-push.ensures.items in
    let room = sym (room_seen docs _ f.bytes _ _ f.counted own sum _ (c.len.ensures ∙ f.docs.ok.0)) ∙ sym c.has_room.ensures ∙ c.if-not-has_room.false in
    record {
      counted = counted_pushed docs _ f.bytes _ _ f.counted own sum _ c.args.key.now c.in_ok-member.ensures _ pushed;
      fit = fit_pushed docs _ f.bytes _ _ f.counted own sum _ c.args.key.now c.in_ok-member.ensures _ pushed f.fit room;
    }

pub returns-then-not-has_room-clause-room : goal.returns-then-not-has_room-clause-room
returns-then-not-has_room-clause-room c =
    let f = c.args.self.now in
    sym c.if-not-has_room.true ∙ c.has_room.ensures
    ∙ room_seen f.docs.items _ f.bytes _ _ f.counted c.bytes_of.ensures c.saturating_add-bytes.ensures _ (c.len.ensures ∙ f.docs.ok.0)

pub returns-clause-room : goal.returns-clause-room
returns-clause-room c =
    let f = c.args.self.now in
    sym c.if-not-has_room.false ∙ c.has_room.ensures
    ∙ room_seen f.docs.items _ f.bytes _ _ f.counted c.bytes_of.ensures c.saturating_add-bytes.ensures _ (c.len.ensures ∙ f.docs.ok.0)

pub returns-clause-members : goal.returns-clause-members
returns-clause-members c =
    let f = c.args.self.now in
    seen_pushed f.docs.items _ f.bytes _ _ f.counted c.bytes_of.ensures c.saturating_add-bytes.ensures _ c.args.key.now c.in_ok-member.ensures _
    c.in_ok-push.ensures.items
