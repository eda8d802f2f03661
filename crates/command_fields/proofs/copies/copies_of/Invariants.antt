use Rattle.std.proofs.Common.{◌≡◌, ◌++◌, drop}
use Rattle.command_fields.proofs.copies.copies_of.Given as goal

abbrev pub invariant-loop-document : goal.invariant-loop-document
invariant-loop-document l = l.copies.items ++ drop l.document-index l.documents ≡ l.documents
