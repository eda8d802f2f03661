use Rattle.std.proofs.Common.{◌-◌, ◌≤◌, length, take}
use Rattle.journal_replay.specs.Replayed.{IsReplayed}
use Rattle.journal_replay.proofs.records.replay.Given as goal

abbrev pub invariant-records : goal.invariant-records
invariant-records g l = record {
  so_far : IsReplayed (g.R.Replays.durable l.fn.empty) (take l.index l.records) (g.R.Replays.durable l.part) (g.R.Replays.time l.part);
  few : l.index ≤ length l.records;
}

abbrev pub decreases-records : goal.decreases-records
decreases-records g l = length l.records - l.index
