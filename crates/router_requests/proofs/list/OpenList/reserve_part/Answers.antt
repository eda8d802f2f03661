use Rattle.std.proofs.Common.{◌<◌, length, arith}
use Rattle.router_requests.proofs.Rooms.{no_room_needed, room_made, same_opens}
use Rattle.router_requests.proofs.Waits.{rises_put}
use Rattle.router_requests.proofs.list.OpenList.reserve_part.Goals as goal

pub invariant_of-self : goal.invariant_of-self
invariant_of-self c =
    let inside : c.place-place.result < length c.args.self.now.requests.items = omega (arith, c.if-place-len.true, c.len.ensures, c.args.self.now.requests.ok.0) in record {
      rising = rises_put c.args.count c.args.self.now.taken c.place-place.result c.args.self.now.requests.items c.index_mut.result.now c.deref_mut.result.now c.reserve_part.new.self c.args.self.now.rising c.place-place.ensures inside c.index_mut.ensures.value c.deref_mut.ensures.value c.reserve_part.ensures.count;
    }

pub returns-in_err-reserve_part-clause-opens : goal.returns-in_err-reserve_part-clause-opens
returns-in_err-reserve_part-clause-opens c = λ router life.
    let inside : c.place-place.result < length c.args.self.now.requests.items = omega (arith, c.if-place-len.true, c.len.ensures, c.args.self.now.requests.ok.0) in
    same_opens router life c.place-place.result c.args.self.now.requests.items c.index_mut.result.now c.deref_mut.result.now c.reserve_part.new.self inside c.index_mut.ensures.value c.deref_mut.ensures.value (c.reserve_part.ensures.same router life)

pub returns-in_ok-reserve_part-clause-opens : goal.returns-in_ok-reserve_part-clause-opens
returns-in_ok-reserve_part-clause-opens c = λ router life.
    let inside : c.place-place.result < length c.args.self.now.requests.items = omega (arith, c.if-place-len.true, c.len.ensures, c.args.self.now.requests.ok.0) in
    same_opens router life c.place-place.result c.args.self.now.requests.items c.index_mut.result.now c.deref_mut.result.now c.reserve_part.new.self inside c.index_mut.ensures.value c.deref_mut.ensures.value (c.reserve_part.ensures.same router life)

pub returns-in_ok-reserve_part-clause-room : goal.returns-in_ok-reserve_part-clause-room
returns-in_ok-reserve_part-clause-room c =
    let inside : c.place-place.result < length c.args.self.now.requests.items = omega (arith, c.if-place-len.true, c.len.ensures, c.args.self.now.requests.ok.0) in
    room_made c.args.count c.place-place.result c.args.self.now.requests.items c.index_mut.result.now c.deref_mut.result.now c.reserve_part.new.self c.place-place.ensures inside c.index_mut.ensures.value c.deref_mut.ensures.value c.reserve_part.ensures.count c.in_ok-reserve_part.ensures.room

pub returns-else-place-len-clause-room : goal.returns-else-place-len-clause-room
returns-else-place-len-clause-room c =
    no_room_needed c.args.count c.args.self.now.requests.items (omega (arith, c.if-place-len.false, c.place-place.ensures, c.len.ensures, c.args.self.now.requests.ok.0))
