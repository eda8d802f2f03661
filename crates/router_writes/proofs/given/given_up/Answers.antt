use Rattle.std.proofs.Common.{ap, ◌∙◌}
use Rattle.command_replies.specs.Refusals.{refusal_view}
use Rattle.command_replies.specs.declared.refusal.Refusal.{Refusal}
use Rattle.router_writes.proofs.Refusing.{first_given, next_given}
use Rattle.write_runs.specs.Runs.{answers_view}
use Rattle.router_writes.proofs.given.given_up.Goals as goal

pub returns-then-ordered : goal.returns-then-ordered
returns-then-ordered c =
    first_given (refusal_view c.args.refusal.now) c.args.ordered c.args.indices.now c.loop-index.index-index _ c.loop-index-test.true
    (answers_view c.loop-index.given.items) (answers_view c.refuse.new.answers.items) _ _
    (ap (λ (r : Refusal). refusal_view r) c.in_ok-shared.ensures.ok ∙ c.in_ok-copy.ensures) c.in_ok-refuse.ensures c.loop-index.invariant c.if-ordered.true

pub loop-index-preserved : goal.loop-index-preserved
loop-index-preserved c =
    next_given (refusal_view c.args.refusal.now) c.args.ordered c.args.indices.now c.loop-index.index-index _ c.loop-index-test.true
    (answers_view c.loop-index.given.items) (answers_view c.refuse.new.answers.items) _ _
    (ap (λ (r : Refusal). refusal_view r) c.in_ok-shared.ensures.ok ∙ c.in_ok-copy.ensures) c.in_ok-refuse.ensures c.loop-index.invariant c.if-ordered.false
