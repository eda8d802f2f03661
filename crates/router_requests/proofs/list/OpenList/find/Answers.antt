use Rattle.std.proofs.Common.{sym, ◌<◌, length, arith}
use Rattle.router_requests.proofs.Waits.{is_found, none_there}
use Rattle.router_requests.proofs.list.OpenList.find.Goals as goal

pub returns-then-place-len : goal.returns-then-place-len
returns-then-place-len c = λ router life.
    let inside : c.place-place.result < length c.args.self.now.requests.items = omega (arith, c.if-place-len.true, c.len.ensures, c.args.self.now.requests.ok.0) in
    is_found router life c.args.count c.place-place.result c.args.self.now.requests.items c.index.result.now c.deref.result.now c.place-place.ensures inside c.index.ensures c.deref.ensures

pub returns-else-place-len : goal.returns-else-place-len
returns-else-place-len c = λ router life.
    sym (none_there router life c.args.count c.args.self.now.requests.items (omega (arith, c.if-place-len.false, c.place-place.ensures, c.len.ensures, c.args.self.now.requests.ok.0)))
