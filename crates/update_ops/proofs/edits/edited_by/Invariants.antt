-- Applying the edits that are left to the present document results in what applying all to the first one results in.
use Rattle.std.proofs.Common.{◌≡◌, drop}
use Rattle.query_model.specs.Edits.{edited_by}
use Rattle.update_ops.specs.View.{edits_of}
use Rattle.update_ops.proofs.edits.edited_by.Given as goal

abbrev pub invariant-loop-edit : goal.invariant-loop-edit
invariant-loop-edit l = edited_by (edits_of (drop l.edit-index l.edits)) l.after ≡ edited_by (edits_of l.edits) l.document
