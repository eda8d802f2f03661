use Rattle.std.proofs.Common.{◌∙◌, arith}
use Rattle.node_model.specs.Letters.{time_ask}
use Rattle.node_model.specs.RouterRequests.{id_of}
use Rattle.router_requests.specs.Askers.{asker_view}
use Rattle.router_requests.specs.Works.{numbers_of}
use Rattle.router_requests.proofs.Told.{asked}
use Rattle.router_requests.proofs.asker.Asker.asks_times.Goals as goal

pub loop-i-preserved : goal.loop-i-preserved
loop-i-preserved c =
    let r = asker_view c.args.self in record {
      room = c.ask_untold.ensures.room ∙ c.loop-i.invariant.room;
      few = omega (arith, c.ask_untold.ensures.few, c.loop-i.invariant.few);
      asks = asked r c.args.time.0 (time_ask (id_of r c.args.count)) (numbers_of c.args.told.now) c.loop-i.i _ _ c.ask_untold.ensures.asks c.loop-i.invariant.asks;
    }
