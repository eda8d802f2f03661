use Rattle.std.proofs.Common.{List, map, refl, sym, subst}
use Rattle.node_traits.specs.Calls.{log_call}
use Rattle.group_steps.specs.Collected.{Collects, collected_facts}
use Rattle.group_steps.specs.Groups as groups
use Rattle.group_steps.specs.Parts.{parts_of}
use Rattle.group_steps.specs.declared.collected.Collected.{Collected}
use Rattle.group_steps.proofs.Chains.{collects_then}
use Rattle.group_steps.proofs.Inputs.{parts_then}
use Rattle.group_steps.proofs.group.step_on.Goals as goal

pub returns-in-Ok-step-clause-led : goal.returns-in-Ok-step-clause-led
returns-in-Ok-step-clause-led g c s n led =
    subst (λ (l : List groups.Part). Collects s n l c.step.new.log.records (g.N.Node.state c.step.new.self) (g.N.Node.steps c.step.new.self))
    (sym (parts_then (λ m. g.N.Mail.Mail.letter m) g.N.Node.meaning c.args.parts.now.items c.reserve.new.self.items c.push_reserved.new.self.items
    (record { input = c.of-taken.result; outputs = c.in-Ok-step.outputs }) c.args.input c.reserve.ensures.items c.push_reserved.ensures.items
    c.of-taken.ensures))
    (collects_then s (g.N.Node.state c.args.node.now) (g.N.Node.state c.step.new.self) n (g.N.Node.steps c.args.node.now) (g.N.Node.steps c.step.new.self)
    (parts_of (λ m. g.N.Mail.Mail.letter m) g.N.Node.meaning c.args.parts.now.items)
    (record {
      input = g.N.Node.meaning c.args.input;
      mail = map (λ m. g.N.Mail.Mail.letter m) c.in-Ok-step.outputs.mail;
      replies = c.in-Ok-step.outputs.replies;
    })
    (log_call (collected_facts (λ (x : Collected g.row.D.Denot). x.records) (λ x. g.D.Disk.moment x.disk.now) (λ x. g.D.Disk.place x.disk.now))
    c.args.collected.now c.step.new.log) refl led
    c.in-Ok-step.ensures.goes c.in-Ok-step.ensures.counted c.in-Ok-step.ensures.done)
