-- The path is apart from the edits that are left where it is from all.
use Rattle.std.proofs.Common.{◌≡◌, drop}
use Rattle.std.specs.List.{list_all}
use Rattle.query_model.specs.Changes.{is_apart}
use Rattle.update_ops.specs.View.{edits_of}
use Rattle.update_ops.proofs.order.is_apart_from_all.Given as goal

abbrev pub invariant-loop-edit : goal.invariant-loop-edit
invariant-loop-edit l =
    list_all (λ e. is_apart l.path e.0) (edits_of (drop l.edit-index l.edits)) ≡ list_all (λ e. is_apart l.path e.0) (edits_of l.edits)
