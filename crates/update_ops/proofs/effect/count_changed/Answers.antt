use Rattle.update_ops.proofs.Told.{changed_count}
use Rattle.update_ops.proofs.effect.count_changed.Goals as goal

pub returns-else-same_data : goal.returns-else-same_data
returns-else-same_data c =
    changed_count _ c.args.before.now c.args.after.now c.fields-fields.ensures.sound c.fields-others.ensures.sound c.requires
    (rw c.if-same_data.false at c.same_data.ensures)
