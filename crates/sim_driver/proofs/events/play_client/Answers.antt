use Rattle.std.proofs.Common.{rules, arith, ◌≡◌, ◌∙◌, ◌<◌, ◌+◌, Ok, length, List, sym, ap, subst}
use Rattle.std.proofs.lemmas.Option.{slice_get_read}
use Rattle.std.specs.List.{slice_get}
use Rattle.std.specs.Prelude.{None, Some}
use Rattle.driver_steps.specs.Seats.{seat_since}
use Rattle.driver_steps.specs.Together.{hosted}
use Rattle.driver_steps.proofs.DiskNotes.{no_more}
use Rattle.driver_steps.specs.Worlds.{network_view}
use Rattle.driver_steps.proofs.Seats.{held_len}
use Rattle.script_lines.specs.Lines.{client_line}
use Rattle.sim_driver.specs.LineOutcomes.{HasPlayedWhole, stops_at_memory, stops_unplayed}
use Rattle.sim_driver.specs.Links.{LinkView, next_link}
use Rattle.sim_driver.specs.Plays.{IsPartOfWhole, no_router}
use Rattle.sim_driver.specs.Scripts.{ScriptView, script_view, with_link}
use Rattle.sim_driver.proofs.Faults.{cut_as, still}
use Rattle.sim_driver.proofs.PlayedLines.{client_closed, client_full, client_part, client_played, same_link, set_twice, stops_either}
use Rattle.sim_driver.proofs.events.play_client.Goals as goal

pub returns-then-router-len-clause-stops : goal.returns-then-router-len-clause-stops
returns-then-router-len-clause-stops g c asks since w handed routers s =
    let count = held_len (seat_since g.N.Node.state g.N.Node.steps g.L.Log.facts since) c.args.seats.now.items w.nodes s.nodes in
    stops_unplayed (no_router c.args.router c.args.bytes.now (omega (
      arith,
      count,
      c.args.seats.now.ok.0,
      c.args.script.now.links.ok.0,
      c.requires.links,
      c.len.ensures,
      c.if-router-len.true,
    ))) (still (seat_since g.N.Node.state g.N.Node.steps g.L.Log.facts since) _ _ handed w s)

pub returns-in-Err-clause-stops : goal.returns-in-Err-clause-stops
returns-in-Err-clause-stops g c asks since w handed routers s =
    let view = seat_since g.N.Node.state g.N.Node.steps g.L.Log.facts since in
    let old = script_view c.args.script.now in
    let link = c.index_mut-link.result.now in
    let line = client_line c.args.router c.args.bytes.now in
    let count = held_len view c.args.seats.now.items w.nodes s.nodes in
    let there : c.args.router < length c.args.script.now.links.items = omega (
      arith,
      c.args.script.now.links.ok.0,
      c.len.ensures,
      c.if-router-len.false,
    ) in
    let here : slice_get c.args.script.now.links.items c.args.router ≡ Some link =
    slice_get_read _ _ _ _ (search rules) there c.index_mut-link.ensures.value in
    let inside : c.args.script.now.first_router + c.args.router < length w.nodes = omega (
      arith,
      count,
      there,
      c.args.seats.now.ok.0,
      c.args.script.now.links.ok.0,
      c.requires.links,
    ) in
    stops_either view _ w line old c.in-Err.status c.in-Err.ensures.other
    (cut_as view _ w _ (IsPartOfWhole w old line) c.in-Err.status
    (λ events p. client_part w old c.args.router link c.args.bytes.now here events p)
    (c.in-Err.ensures.cut asks since w handed (routers c.args.router inside) s))

pub returns-then-not-malformed-clause-played : goal.returns-then-not-malformed-clause-played
returns-then-not-malformed-clause-played g c asks since w handed routers s =
    let view = seat_since g.N.Node.state g.N.Node.steps g.L.Log.facts since in
    let old = script_view c.args.script.now in
    let link = c.index_mut-link.result.now in
    let line = client_line c.args.router c.args.bytes.now in
    let count = held_len view c.args.seats.now.items w.nodes s.nodes in
    let there : c.args.router < length c.args.script.now.links.items = omega (
      arith,
      c.args.script.now.links.ok.0,
      c.len.ensures,
      c.if-router-len.false,
    ) in
    let here : slice_get c.args.script.now.links.items c.args.router ≡ Some link =
    slice_get_read _ _ _ _ (search rules) there c.index_mut-link.ensures.value in
    let inside : c.args.script.now.first_router + c.args.router < length w.nodes = omega (
      arith,
      count,
      there,
      c.args.seats.now.ok.0,
      c.args.script.now.links.ok.0,
      c.requires.links,
    ) in
    let asked = c.in-Ok.ensures.asked asks since w handed (routers c.args.router inside) s (ap Ok c.if-not-malformed.true) in
    let hosts = hosted g.K.Sink.tells g.L.Log.facts since (g.K.Sink.noted c.take.new.out) c.take.new.seats.items in
    let network = network_view (λ m. g.N.Mail.Mail.letter m) c.take.new.network in
    subst (λ (l : LinkView). HasPlayedWhole view hosts network handed w line old (with_link old c.args.router l) None)
    (same_link link c.take.new.self c.take.ensures.number (c.in-Ok.ensures.opened (ap Ok c.if-not-malformed.true)))
    (client_played view _ _ handed w old c.args.router link here c.args.bytes.now c.take.new.self.left c.take.new.self.replied asked)

pub returns-in-Err-close-clause-stops : goal.returns-in-Err-close-clause-stops
returns-in-Err-close-clause-stops g c asks since w handed routers s =
    let view = seat_since g.N.Node.state g.N.Node.steps g.L.Log.facts since in
    let old = script_view c.args.script.now in
    let link = c.index_mut-link.result.now in
    let line = client_line c.args.router c.args.bytes.now in
    let count = held_len view c.args.seats.now.items w.nodes s.nodes in
    let there : c.args.router < length c.args.script.now.links.items = omega (
      arith,
      c.args.script.now.links.ok.0,
      c.len.ensures,
      c.if-router-len.false,
    ) in
    let here : slice_get c.args.script.now.links.items c.args.router ≡ Some link =
    slice_get_read _ _ _ _ (search rules) there c.index_mut-link.ensures.value in
    let inside : c.args.script.now.first_router + c.args.router < length w.nodes = omega (
      arith,
      count,
      there,
      c.args.seats.now.ok.0,
      c.args.script.now.links.ok.0,
      c.requires.links,
    ) in
    let asked = c.in-Ok.ensures.malformed asks since w handed (routers c.args.router inside) s (ap Ok c.if-not-malformed.false) in
    stops_at_memory (client_full view _ _ handed w old c.args.router link here c.args.bytes.now asked.0 asked.1 asked.2)

pub returns-in-Ok-close-clause-played : goal.returns-in-Ok-close-clause-played
returns-in-Ok-close-clause-played g c asks since w handed routers s =
    let view = seat_since g.N.Node.state g.N.Node.steps g.L.Log.facts since in
    let old = script_view c.args.script.now in
    let link = c.index_mut-link.result.now in
    let line = client_line c.args.router c.args.bytes.now in
    let count = held_len view c.args.seats.now.items w.nodes s.nodes in
    let there : c.args.router < length c.args.script.now.links.items = omega (
      arith,
      c.args.script.now.links.ok.0,
      c.len.ensures,
      c.if-router-len.false,
    ) in
    let here : slice_get c.args.script.now.links.items c.args.router ≡ Some link =
    slice_get_read _ _ _ _ (search rules) there c.index_mut-link.ensures.value in
    let inside : c.args.script.now.first_router + c.args.router < length w.nodes = omega (
      arith,
      count,
      there,
      c.args.seats.now.ok.0,
      c.args.script.now.links.ok.0,
      c.requires.links,
    ) in
    let asked = c.in-Ok.ensures.malformed asks since w handed (routers c.args.router inside) s (ap Ok c.if-not-malformed.false) in
    let links = set_twice c.args.script.now.links.items c.args.router c.take.new.self (next_link c.args.script.now.opened) in
    subst (λ (v : ScriptView). HasPlayedWhole view (hosted g.K.Sink.tells g.L.Log.facts since (g.K.Sink.noted c.take.new.out) c.take.new.seats.items)
    (network_view (λ m. g.N.Mail.Mail.letter m) c.take.new.network) handed w line old v (Some c.args.router))
    (sym (c.in-Ok-close.ensures.closed ∙ ap (λ (l : List LinkView).
    record { first_router = old.first_router; links = l; opened = old.opened + 1; delivered = old.delivered }) links))
    (client_closed view _ _ handed w old c.args.router link here c.args.bytes.now asked.0 asked.1 asked.2)

pub returns-then-router-len-clause-noted : goal.returns-then-router-len-clause-noted
returns-then-router-len-clause-noted g c shown = no_more (g.K.Sink.noted c.args.out.now)
