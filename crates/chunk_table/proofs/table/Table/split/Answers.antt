use Rattle.std.proofs.Common.{◌<◌, ◌^◌, length, refl, rules}
use Rattle.chunk_table.specs.Meanings.{table_of_parts}
use Rattle.chunk_table.proofs.AfterChanges.{split_whole}
use Rattle.chunk_table.proofs.table.Table.split.Goals as goal

pub invariant_of-result : goal.invariant_of-result
invariant_of-result c =
    let few : length c.in_ok-chunks.chunks.items < 2 ^ 32 = search rules in
    split_whole c.args.middle.now c.self.inside.chunks.items c.deref-2.result.now c.in_ok-chunks.chunks.items
    (table_of_parts c.self.inside.namespace c.self.inside.epoch c.self.inside.changes c.self.inside.oldest c.self.inside.chunks.items)
    (table_of_parts c.in_ok-copy.field-0 c.self.inside.epoch c.in-Some.changes c.self.inside.oldest c.in_ok-chunks.chunks.items)
    c.deref-2.ensures.value refl c.in_ok-chunks.ensures few c.requires.writable c.self.invariant refl
