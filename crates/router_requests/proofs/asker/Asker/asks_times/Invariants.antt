use Rattle.std.proofs.Common.{◌≡◌, ◌≤◌, map}
use Rattle.std.specs.Vec.{vec_capacity, vec_len}
use Rattle.node_model.specs.Letters.{time_ask}
use Rattle.node_model.specs.RouterRequests.{id_of, places_from, says, untold}
use Rattle.protocol_model.specs.Messages.{letter_of}
use Rattle.router_requests.specs.Askers.{asker_view}
use Rattle.router_requests.specs.Works.{numbers_of}
use Rattle.router_requests.proofs.asker.Asker.asks_times.Given as goal

abbrev pub invariant-loop-i : goal.invariant-loop-i
invariant-loop-i l = record {
  room : vec_capacity l.asks ≡ l.i-end;
  few : vec_len l.asks ≤ l.i;
  asks : map (λ m. letter_of m) l.asks.items
      ≡ map (λ s. says (asker_view l.self) s l.time.0 (time_ask (id_of (asker_view l.self) l.count))) (untold (numbers_of l.told) (places_from 1 l.i));
}
