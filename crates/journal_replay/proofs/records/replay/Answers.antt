use Rattle.std.proofs.Common.{arith}
use Rattle.journal_replay.proofs.Taken.{none_yet, read_here, refused_at, replayed_all, replayed_next}
use Rattle.journal_replay.proofs.records.replay.Goals as goal

pub records-init : goal.records-init
records-init g c = record { so_far = none_yet _ c.args.records.now _ c.requires.early; few = omega arith }

pub records-preserved : goal.records-preserved
records-preserved g c = record {
  so_far = replayed_next (g.R.Replays.durable c.args.empty) c.args.records.now c.records.index c.as_slice.result.now (g.R.Replays.durable c.records.part)
      (g.R.Replays.durable c.take_in.new.part) (g.R.Replays.time c.records.part) (g.R.Replays.time c.take_in.new.part) c.in_ok-take_in.field-0
      (read_here c.args.records.now c.records.index c.as_slice.result.now c.index-records-index.result c.records-test.true c.as_slice.ensures c.index-records-index.is)
      c.records.invariant.so_far c.in_ok-take_in.ensures c.if-not-branch.false;
  few = (let less = c.records-test.true in omega (arith, less));
}

pub returns-then-not-branch-clause-fault : goal.returns-then-not-branch-clause-fault
returns-then-not-branch-clause-fault g c =
    refused_at (g.R.Replays.durable c.args.empty) c.args.records.now c.records.index c.as_slice.result.now (g.R.Replays.durable c.records.part)
    (g.R.Replays.durable c.take_in.new.part) (g.R.Replays.time c.records.part) (g.R.Replays.time c.take_in.new.part) c.in_ok-take_in.field-0
    (read_here c.args.records.now c.records.index c.as_slice.result.now c.index-records-index.result c.records-test.true c.as_slice.ensures c.index-records-index.is)
    c.records.invariant.so_far c.in_ok-take_in.ensures c.if-not-branch.true

pub returns-clause-replayed : goal.returns-clause-replayed
returns-clause-replayed g c =
    replayed_all (g.R.Replays.durable c.args.empty) c.args.records.now c.records.index (g.R.Replays.durable c.records.part) (g.R.Replays.time c.records.part)
    c.records-test.false c.records.invariant.so_far
