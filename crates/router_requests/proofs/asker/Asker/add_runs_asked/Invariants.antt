use Rattle.std.proofs.Common.{◌≡◌, ◌++◌, [], drop, map}
use Rattle.node_model.specs.RouterRequests.{asks_to_write, id_of}
use Rattle.protocol_model.specs.Messages.{letter_of}
use Rattle.router_requests.specs.Askers.{asker_view}
use Rattle.router_requests.specs.Works.{statements_of}
use Rattle.write_runs.specs.Runs.{course_view, runs_view}
use Rattle.router_requests.proofs.asker.Asker.add_runs_asked.Given as goal

abbrev pub invariant-loop-run : goal.invariant-loop-run
invariant-loop-run l =
    let id = id_of (asker_view l.self) l.count in
    map (λ m. letter_of m) l.asks.items
    ++ asks_to_write (asker_view l.self) l.time.0 id l.namespace l.write.ordered (statements_of id l.write) (course_view [] l.tries []) (runs_view (drop l.run-index l.runs))
    ≡ map (λ m. letter_of m) l.fn.asks.items ++ asks_to_write (asker_view l.self) l.time.0 id l.namespace l.write.ordered (statements_of id l.write) (course_view [] l.tries []) (runs_view l.runs)
