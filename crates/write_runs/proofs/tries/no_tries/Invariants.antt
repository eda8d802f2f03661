use Rattle.std.proofs.Common.{◌≡◌, ◌++◌, drop, map}
use Rattle.write_runs.proofs.Trying.{nothing}
use Rattle.write_runs.specs.Runs.{all_tries_view}
use Rattle.write_runs.proofs.tries.no_tries.Given as goal

abbrev pub invariant-loop-statement : goal.invariant-loop-statement
invariant-loop-statement l = all_tries_view l.tries.items ++ map (λ s. nothing) (drop l._statement-index l.statements) ≡ map (λ s. nothing) l.statements
