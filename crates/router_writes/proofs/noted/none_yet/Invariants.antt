use Rattle.std.proofs.Common.{◌≡◌, ◌++◌, drop}
use Rattle.reply_model.specs.Outcomes.{none_yet}
use Rattle.write_runs.specs.Runs.{answers_view}
use Rattle.router_writes.proofs.noted.none_yet.Given as goal

abbrev pub invariant-loop-statement : goal.invariant-loop-statement
invariant-loop-statement l = answers_view l.places.items ++ none_yet (drop l._statement-index l.statements) ≡ none_yet l.statements
