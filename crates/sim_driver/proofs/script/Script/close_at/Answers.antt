use Rattle.std.proofs.Common.{◌∙◌, ◌<◌, ◌-◌, length, refl, sym, subst, arith}
use Rattle.std.proofs.lemmas.Option.{slice_get_read}
use Rattle.std.specs.Prelude.{Some}
use Rattle.sim_driver.specs.Scripts.{ScriptView, ClosesLink, closes_open, script_view}
use Rattle.sim_driver.proofs.Stopped.{none_before, none_open, none_past}
use Rattle.sim_driver.proofs.script.Script.close_at.Goals as goal

pub returns-then-at-self-clause-closed : goal.returns-then-at-self-clause-closed
returns-then-at-self-clause-closed c = none_before (script_view c.args.self.now) c.args.at c.if-at-self.true

pub returns-then-router-len-clause-closed : goal.returns-then-router-len-clause-closed
returns-then-router-len-clause-closed c =
    none_past (script_view c.args.self.now) c.args.at
    (omega (arith, c.if-at-self.false, c.if-router-len.true, c.len.ensures, c.args.self.now.links.ok.0))

pub returns-then-not-is_open-clause-closed : goal.returns-then-not-is_open-clause-closed
returns-then-not-is_open-clause-closed c =
    let router = c.args.at - c.args.self.now.first_router in
    let within : router < length c.args.self.now.links.items =
    omega (arith, c.if-router-len.false, c.len.ensures, c.args.self.now.links.ok.0) in
    none_open (script_view c.args.self.now) c.args.at router c.index.result.now (omega (arith, c.if-at-self.false))
    (slice_get_read _ _ _ _ refl within c.index.ensures) (sym c.is_open.ensures ∙ c.if-not-is_open.true)

pub returns-in-Ok-clause-closed : goal.returns-in-Ok-clause-closed
returns-in-Ok-clause-closed c =
    let router = c.args.at - c.args.self.now.first_router in
    let within : router < length c.args.self.now.links.items =
    omega (arith, c.if-router-len.false, c.len.ensures, c.args.self.now.links.ok.0) in
    subst (λ (v : ScriptView). ClosesLink (script_view c.args.self.now) c.args.at v (Some router)) (sym c.in-Ok.ensures.closed)
    (closes_open router c.index.result.now (omega (arith, c.if-at-self.false)) (slice_get_read _ _ _ _ refl within c.index.ensures)
    (sym c.is_open.ensures ∙ c.if-not-is_open.false))
