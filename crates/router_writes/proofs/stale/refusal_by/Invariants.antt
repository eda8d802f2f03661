use Rattle.std.proofs.Common.{◌≡◌, ◌++◌, drop, map}
use Rattle.command_replies.specs.Refusals.{shown_tries_view}
use Rattle.reply_model.specs.Outcomes.{try_shown}
use Rattle.write_runs.specs.Runs.{tries_view}
use Rattle.router_writes.proofs.stale.refusal_by.Given as goal

abbrev pub invariant-loop-one : goal.invariant-loop-one
invariant-loop-one l = shown_tries_view l.shown.items ++ map try_shown (tries_view (drop l.one-index l.tries)) ≡ map try_shown (tries_view l.tries)
