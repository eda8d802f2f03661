use Rattle.std.proofs.Common.{◌∙◌, Bool, map, not, sym, ap, arith}
use Rattle.std.specs.Prelude.{◌&&◌}
use Rattle.std.proofs.lemmas.List.{length-map}
use Rattle.sim_driver.specs.Scripts.{is_of_kind}
use Rattle.sim_driver.proofs.Deliveries.{message_at}
use Rattle.sim_driver.proofs.deliver.is_next.Goals as goal

pub returns-then-has : goal.returns-then-has
returns-then-has g c =
    let m = message_at (map (λ m. g.M.Mail.letter m) c.args.sent.now.items) c.args.at
    (omega (arith, c.requires, c.args.sent.now.ok.0, length-map c.args.sent.now.items (λ m. g.M.Mail.letter m))) in
    (m.0, m.1, sym (ap (λ (b : Bool). not b && is_of_kind c.args.kind.now m.0) (sym c.has.ensures ∙ c.if-has.true)))
