use Rattle.std.proofs.Common.{◌≡◌, refl, rules, sym, ◌∙◌}
use Rattle.node_model.specs.States.{catalogue_state}
use Rattle.protocol_model.proofs.Lacks.{asked_none, asked_other, asked_some}
use Rattle.protocol_model.specs.Messages.{letter_of}
use Rattle.config_node.proofs.asks.requested_by.Goals as goal

pub returns-then-ne : goal.returns-then-ne
returns-then-ne c =
    let other : c.args.message.receiver.0 ≡ c.args.me.0 → ⊥ = search rules in
    λ s same. asked_other (catalogue_state s) (letter_of c.args.message) (λ here. other (here ∙ same))

pub returns-in-Some : goal.returns-in-Some
returns-in-Some c =
    let to_me : c.args.message.receiver.0 ≡ c.args.me.0 = search rules in
    let is = rw c.in-Some.is at c.about_in-about.ensures in
    λ s same. asked_some (catalogue_state s) (letter_of c.args.message) c.args.message.sender c.in-Some.about (to_me ∙ sym same) refl is

pub returns-in-None : goal.returns-in-None
returns-in-None c =
    let is = rw c.in-None.is at c.about_in-about.ensures in
    λ s same. asked_none (catalogue_state s) (letter_of c.args.message) is
