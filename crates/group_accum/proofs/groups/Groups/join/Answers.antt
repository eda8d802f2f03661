use Rattle.std.proofs.Common.{◌∷◌, ◌++◌, [], List, refl, ap, ◌∙◌, subst}
use Rattle.pipeline_model.specs.GroupSpecs.{GroupSpec}
use Rattle.pipeline_model.specs.Groups.{IsJoined, PartialRow}
use Rattle.group_accum.specs.GroupParts.{rows_in, spec_in}
use Rattle.group_accum.specs.Rows.{row_of, rows_of}
use Rattle.group_accum.proofs.TakenIn.{next_taken, none_taken}
use Rattle.group_accum.proofs.groups.Groups.join.Goals as goal

pub rows-init : goal.rows-init
rows-init c = record { spec = refl; documents = refl; rows = λ before joined. none_taken _ before _ _ joined }

pub rows-preserved : goal.rows-preserved
rows-preserved c = record {
  spec = c.take_in.ensures.spec ∙ c.rows.invariant.spec;
  documents = c.take_in.ensures.documents ∙ c.rows.invariant.documents;
  rows = λ before joined.
      next_taken (spec_in c.args.self.now) before _ (rows_of c.rows.rest.entries) (rows_of c.pop_first.new.self.entries) (rows_in c.rows.self) _
      (row_of (c.in-Some.key, c.in-Some.cells))
      (ap (λ es. rows_of es) c.in-Some.ensures.removal)
      (subst (λ (s : GroupSpec). (rows : List PartialRow) → IsJoined s rows (rows_in c.rows.self) → IsJoined s (rows ++ row_of (c.in-Some.key, c.in-Some.cells) ∷ []) (rows_in c.take_in.new.self))
      c.rows.invariant.spec c.in_ok-take_in.ensures.rows)
      (c.rows.invariant.rows before joined);
}
