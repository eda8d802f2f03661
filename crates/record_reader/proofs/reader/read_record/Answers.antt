use Rattle.std.proofs.Common.{◌≡◌}
use Rattle.std.proofs.lemmas.Result.{err_from_is_err_and}
use Rattle.record_model.specs.RecordFormat.{spelled, IsSound}
use Rattle.shard_records.specs.Meanings.{record_view}
use Rattle.shard_records.specs.Readable.{IsHeld}
use Rattle.record_reader.proofs.RecordsAgain.{found_err, decided_only, decided_holds, told_any, told_same, told_sound}
use Rattle.record_reader.proofs.reader.read_record.Goals as goal

pub returns-in_err-kept-clause-only : goal.returns-in_err-kept-clause-only
returns-in_err-kept-clause-only c = λ r sound held same.
    let p = err_from_is_err_and c.from_residual.result c.from_residual.ensures.1 in
    rw (p.1, p.2) (found_err record_view c.in_err-kept.field-0.0 c.args.bytes.now r c.in_err-kept.ensures.found sound held same)

pub returns-clause-spelled : goal.returns-clause-spelled
returns-clause-spelled c =
    decided_holds (λ y. spelled 1 (record_view y) ≡ c.args.bytes.now) c.in_ok-kept.kept c.is_spelled-same.result c.kept_if.result
    (told_same _ c.is_spelled-same.result c.is_spelled-same.ensures.same) c.kept_if.ensures

pub returns-clause-sound : goal.returns-clause-sound
returns-clause-sound c =
    decided_holds (λ y. IsSound (record_view y)) c.in_ok-kept.kept c.is_spelled-same.result c.kept_if.result
    (told_sound _ c.is_spelled-same.result c.is_spelled-same.ensures.sound) c.kept_if.ensures

pub returns-clause-only : goal.returns-clause-only
returns-clause-only c = λ r sound held same.
    decided_only record_view c.in_ok-kept.kept c.args.bytes.now c.is_spelled-same.result c.kept_if.result r
    c.in_ok-kept.ensures.found c.is_spelled-same.ensures.same c.kept_if.ensures sound held same

pub returns-clause-held : goal.returns-clause-held
returns-clause-held c =
    decided_holds (λ y. IsHeld (record_view y)) c.in_ok-kept.kept c.is_spelled-same.result c.kept_if.result
    (told_any c.is_spelled-same.result c.in_ok-kept.ensures.held) c.kept_if.ensures
