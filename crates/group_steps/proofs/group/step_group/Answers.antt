use Rattle.std.proofs.Common.{ℕ, List, sym, subst}
use Rattle.group_steps.specs.Collected.{Collects}
use Rattle.group_steps.specs.Parts.{parts_of}
use Rattle.group_steps.proofs.Chains.{takes_all}
use Rattle.group_steps.proofs.Inputs.{group_broken}
use Rattle.group_steps.proofs.group.step_group.Goals as goal

pub returns-in-Ok-clause-taken : goal.returns-in-Ok-clause-taken
returns-in-Ok-clause-taken g c since w at stands =
    takes_all g.N.Node.state g.N.Node.steps g.L.Log.facts since w at c.args.seat.now (record { node = c.collect-group.new.node; log = c.append_records.new.log })
    (parts_of (λ m. g.N.Mail.Mail.letter m) g.N.Node.meaning c.collect-group.result.0.parts.items) c.as_slice.result.now stands
    (subst (λ (r : List (List ℕ)). Collects (g.N.Node.state c.args.seat.now.node) (g.N.Node.steps c.args.seat.now.node)
    (parts_of (λ m. g.N.Mail.Mail.letter m) g.N.Node.meaning c.collect-group.result.0.parts.items) r (g.N.Node.state c.collect-group.new.node)
    (g.N.Node.steps c.collect-group.new.node))
    (sym c.as_slice.ensures) c.collect-group.ensures.led) c.in-Ok.ensures.done (λ held. c.in-Ok.ensures.kept held)

pub returns-in-Err-clause-broken : goal.returns-in-Err-clause-broken
returns-in-Err-clause-broken g c =
    group_broken g.N.Node.state g.N.Node.steps g.L.Log.facts (λ m. g.N.Mail.Mail.letter m) g.N.Node.meaning c.args.inputs.now.items c.args.seat.now
    (record { node = c.collect-group.new.node; log = c.append_records.new.log }) c.collect-group.result.0.parts.items c.as_slice.result.now c.in-Err.e
    (subst (λ (r : List (List ℕ)). Collects (g.N.Node.state c.args.seat.now.node) (g.N.Node.steps c.args.seat.now.node)
    (parts_of (λ m. g.N.Mail.Mail.letter m) g.N.Node.meaning c.collect-group.result.0.parts.items) r (g.N.Node.state c.collect-group.new.node)
    (g.N.Node.steps c.collect-group.new.node))
    (sym c.as_slice.ensures) c.collect-group.ensures.led) c.collect-group.ensures.on c.in-Err.ensures.failed
