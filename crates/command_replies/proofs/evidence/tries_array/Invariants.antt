use Rattle.std.proofs.Common.{◌≡◌, drop}
use Rattle.bson_model.specs.Tree.{joined_items}
use Rattle.base_model.specs.Refusals.{try_items}
use Rattle.command_replies.specs.Refusals.{shown_tries_view}
use Rattle.command_replies.proofs.evidence.tries_array.Given as goal

abbrev pub invariant-loop-shown : goal.invariant-loop-shown
invariant-loop-shown l = joined_items l.items (try_items (shown_tries_view (drop l.shown-index l.tries))) ≡ try_items (shown_tries_view l.tries)
