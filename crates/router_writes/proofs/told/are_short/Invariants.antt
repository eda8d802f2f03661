use Rattle.std.proofs.Common.{◌≡◌, ◌≤◌, ◌+◌, drop}
use Rattle.command_replies.specs.Upserts.{upserted_view}
use Rattle.command_model.specs.CommandLimits.{most_bytes_upserted}
use Rattle.command_model.specs.CommandSizes.{keys_length}
use Rattle.router_writes.proofs.told.are_short.Given as goal

abbrev pub invariant-loop-key : goal.invariant-loop-key
invariant-loop-key l = record {
  fits : l.room ≤ most_bytes_upserted;
  sum : l.room + keys_length (upserted_view l.keys) ≡ most_bytes_upserted + keys_length (upserted_view (drop l.key-index l.keys));
}
