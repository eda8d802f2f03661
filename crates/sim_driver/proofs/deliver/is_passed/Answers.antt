use Rattle.std.proofs.Common.{◌∙◌, Bool, map, sym, ap, arith}
use Rattle.std.specs.Prelude.{◌||◌, option_map}
use Rattle.std.proofs.lemmas.List.{length-map}
use Rattle.sim_driver.specs.Scripts.{is_held}
use Rattle.sim_driver.proofs.Deliveries.{message_at}
use Rattle.sim_driver.proofs.deliver.is_passed.Goals as goal

pub returns-then-has : goal.returns-then-has
returns-then-has g c =
    let m = message_at (map (λ m. g.M.Mail.letter m) c.args.sent.now.items) c.args.at
    (omega (arith, c.requires, c.args.sent.now.ok.0, length-map c.args.sent.now.items (λ m. g.M.Mail.letter m))) in
    (m.0, m.1, sym (ap (λ (b : Bool). b || is_held (option_map (λ k. k.now) c.args.except) m.0) (sym c.has.ensures ∙ c.if-has.true)))

pub returns-in-None : goal.returns-in-None
returns-in-None g c =
    let m = message_at (map (λ m. g.M.Mail.letter m) c.args.sent.now.items) c.args.at
    (omega (arith, c.requires, c.args.sent.now.ok.0, length-map c.args.sent.now.items (λ m. g.M.Mail.letter m))) in (
      m.0,
      m.1,
      sym (ap (λ (b : Bool). b || is_held (option_map (λ k. k.now) c.args.except) m.0) (sym c.has.ensures ∙ c.if-has.false)
          ∙ ap (λ e. is_held (option_map (λ k. k.now) e) m.0) c.in-None.is),
    )
