-- The batch that was prepared is the next, and its keys are no longer changed.
use Rattle.std.proofs.Common.{◌≡◌, ◌∙◌, List, sym, ap}
use Rattle.bson_values.specs.Tree.{Datum}
use Rattle.value_compare.specs.Bounds.{bound_of}
use Rattle.record_model.specs.Moves.{MovedDocument}
use Rattle.shard_records.specs.Batches.{batch_view}
use Rattle.move_model.specs.Batches.{keys_of_members}
use Rattle.migration_source.specs.Changed.{changed_among}
use Rattle.migration_source.specs.Givings.{source_of}
use Rattle.migration_source.proofs.Unmarks.{handed_out, prepared_is, without}
use Rattle.migration_source.proofs.giving.Giving.next_batch.Goals as goal

pub returns-clause-batch : goal.returns-clause-batch
returns-clause-batch c =
    prepared_is (λ p. batch_view p.batch) c.args.self.now.prepared c.in-Some.prepared _ c.requires.room (sym c.in-Some.ensures.value)

pub returns-clause-source : goal.returns-clause-source
returns-clause-source c =
    let g = c.args.self.now in
    let p = c.in-Some.prepared in
    let is = prepared_is (λ x. batch_view x.batch) g.prepared p _ c.requires.room (sym c.in-Some.ensures.value) in
    let left : changed_among c.unmark.new.marks.entries ≡ without (keys_of_members (batch_view p.batch).docs) (changed_among g.marks.entries) =
    c.unmark.ensures.changed ∙ ap (λ (ms : List MovedDocument). without (keys_of_members ms) (changed_among g.marks.entries)) c.as_slice.ensures in
    handed_out (source_of g) _ (batch_view p.batch) (bound_of p.cursor) (changed_among c.unmark.new.marks.entries) is p.same left
