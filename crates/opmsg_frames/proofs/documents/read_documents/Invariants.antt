use Rattle.std.proofs.Common.{◌≡◌, ◌≤◌, ℕ, List, length}
use Rattle.std.specs.List.{AllByRecursion, concat}
use Rattle.opmsg_model.specs.Messages.{most_bytes}
use Rattle.opmsg_model.specs.Sections.{IsStated}
use Rattle.opmsg_frames.proofs.DocumentReads.{Left}
use Rattle.opmsg_frames.proofs.documents.read_documents.Given as goal

abbrev pub invariant-loop-rest : goal.invariant-loop-rest
invariant-loop-rest l = record {
  short : length l.rest ≤ most_bytes;
  left : (documents : List (List ℕ)) → l.bytes ≡ concat documents → AllByRecursion IsStated documents
      → (left : List (List ℕ)) × Left documents left l.rest l.list;
}

abbrev pub decreases-loop-rest : goal.decreases-loop-rest
decreases-loop-rest l = length l.rest
