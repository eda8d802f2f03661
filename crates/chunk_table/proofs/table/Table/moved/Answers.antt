use Rattle.std.proofs.Common.{refl}
use Rattle.chunk_model.specs.Versions.{Version}
use Rattle.chunk_table.specs.Meanings.{owned_view, table_of_parts}
use Rattle.chunk_table.proofs.AfterChanges.{moved_whole}
use Rattle.chunk_table.proofs.table.Table.moved.Goals as goal

pub invariant_of-result : goal.invariant_of-result
invariant_of-result c =
    let moved : Version = record { epoch = c.self.inside.epoch; major = c.in-Some-checked_add.major; minor = 0 } in
    let lowest : Version = record { epoch = c.self.inside.epoch; major = c.in-Some-checked_add.major; minor = 1 } in
    moved_whole c.args.range.now moved lowest
    (owned_view c.args.owned) c.args.donor.0 c.self.inside.chunks.items c.deref.result.now c.in_ok-chunks.chunks.items
    (table_of_parts c.self.inside.namespace c.self.inside.epoch c.self.inside.changes c.self.inside.oldest c.self.inside.chunks.items)
    (table_of_parts c.in_ok-copy.field-0 c.self.inside.epoch c.in-Some.changes c.self.inside.oldest c.in_ok-chunks.chunks.items)
    c.deref.ensures.value refl c.in_ok-chunks.ensures.chunks c.in_ok-chunks.ensures.count c.in_ok-chunks.ensures.writable c.self.invariant refl
