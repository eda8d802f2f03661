use Rattle.std.proofs.Common.{◌≡◌, ◌∙◌, ◌<◌, ◌≤◌, sym, true, arith}
use Rattle.router_writes.specs.Places.{first_open}
use Rattle.router_writes.proofs.Places.{late_old, new_in_turn}
use Rattle.write_runs.specs.Runs.{answers_view}
use Rattle.router_writes.proofs.noted.is_new.Goals as goal
use Rattle.router_writes.proofs.noted.is_new.Goals.{else-ordered-via-then-ordered+else-first-index, else-ordered-via-else-ordered}

pub returns-then-first-index : goal.returns-then-first-index
returns-then-first-index c =
    let lt : first_open (answers_view c.args.answers.now) < c.args.index = omega (arith, c.requires, c.if-first-index.true) in
    rw c.if-ordered.true (sym (late_old c.args.index (answers_view c.args.answers.now) lt))

pub returns : goal.returns
returns c =
    let turn : c.args.ordered ≡ true → c.args.index ≤ first_open (answers_view c.args.answers.now) = elim c.else-ordered.branch [
      | else-ordered-via-then-ordered+else-first-index w ↦ λ _. omega (arith, c.requires, w.if-first-index.false)
      | else-ordered-via-else-ordered w ↦ λ e. absurd (cc)
    ] in
    c.is_open.ensures ∙ sym (new_in_turn c.args.ordered c.args.index (answers_view c.args.answers.now) turn)
