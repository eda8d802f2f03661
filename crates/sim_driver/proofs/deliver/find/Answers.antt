use Rattle.std.proofs.Common.{◌∙◌, map, sym, arith}
use Rattle.sim_driver.proofs.Places.{place_here, place_other, place_passed}
use Rattle.sim_driver.proofs.deliver.find.Goals as goal

pub sent-preserved-then-receiver_at-node : goal.sent-preserved-then-receiver_at-node
sent-preserved-then-receiver_at-node g c =
    sym (place_other (map (λ m. g.M.Mail.letter m) c.args.sent.now.items) c.sent.at c.args.node c.sent.left c.receiver_at.result c.receiver_at.ensures
    (λ e. omega (arith, e, c.if-receiver_at-node.true))) ∙ c.sent.invariant

pub returns-then-left-eq0-clause-place : goal.returns-then-left-eq0-clause-place
returns-then-left-eq0-clause-place g c =
    sym (place_here (map (λ m. g.M.Mail.letter m) c.args.sent.now.items) c.sent.at c.args.node c.sent.left c.receiver_at.result c.receiver_at.ensures
    (omega (arith, c.if-receiver_at-node.false)) (omega (arith, c.if-left-eq0.true))) ∙ c.sent.invariant

pub sent-preserved : goal.sent-preserved
sent-preserved g c =
    sym (place_passed (map (λ m. g.M.Mail.letter m) c.args.sent.now.items) c.sent.at c.args.node c.sent.left c.receiver_at.result c.receiver_at.ensures
    (omega (arith, c.if-receiver_at-node.false)) (λ e. omega (arith, e, c.if-left-eq0.false))) ∙ c.sent.invariant
