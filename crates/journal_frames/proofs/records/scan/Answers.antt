use Rattle.std.proofs.Common.{◌∙◌, ap, List, ℕ, ◌++◌, ◌∷◌, []}
use Rattle.journal_frames.proofs.Scanned.{goes_on}
use Rattle.journal_frames.proofs.records.scan.Goals as goal

pub loop-records-preserved : goal.loop-records-preserved
loop-records-preserved c =
    let found = c.in-Whole.ensures in
    let grown = c.in_ok-push-in-Whole.ensures.ok ∙ ap (λ (bytes : List ℕ). c.loop-records.records ++ bytes ∷ []) c.in_ok-of-in-Whole.ensures in
    rw grown (goes_on c.args.file.now c.loop-records.rest.now found.0 c.in-Whole.bytes.now c.in-Whole.behind.now c.loop-records.records c.loop-records.invariant found.1 found.2)
