use Rattle.std.proofs.Common.{◌∙◌, map, sym}
use Rattle.sim_driver.proofs.NextPlaces.{next_here, next_other, next_passed}
use Rattle.sim_driver.proofs.deliver.find_next.Goals as goal

pub sent-init : goal.sent-init
sent-init g c = next_passed c.args.kind.now c.args.delivered.now (map (λ m. g.M.Mail.letter m) c.args.sent.now.items) c.args.first c.requires

pub returns-then-is_next-clause-place : goal.returns-then-is_next-clause-place
returns-then-is_next-clause-place g c =
    let there = c.is_next.ensures in
    sym (next_here c.args.kind.now c.args.delivered.now (map (λ m. g.M.Mail.letter m) c.args.sent.now.items) c.sent.at there.0 there.1 c.is_next.result there.2
    c.if-is_next.true) ∙ c.sent.invariant

pub sent-preserved : goal.sent-preserved
sent-preserved g c =
    let there = c.is_next.ensures in
    sym (next_other c.args.kind.now c.args.delivered.now (map (λ m. g.M.Mail.letter m) c.args.sent.now.items) c.sent.at there.0 there.1 c.is_next.result there.2
    c.if-is_next.false) ∙ c.sent.invariant
