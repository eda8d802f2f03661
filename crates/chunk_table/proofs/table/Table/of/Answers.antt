use Rattle.std.proofs.Common.{◌≡◌, List, subst}
use Rattle.std.specs.Prelude.{true, map}
use Rattle.std.specs.List.{AllByRecursion}
use Rattle.std.proofs.lemmas.List.{length-map}
use Rattle.value_model.specs.Keys.{min_bound}
use Rattle.chunk_table.specs.declared.chunk.Chunk.{Chunk}
use Rattle.chunk_table.specs.Meanings.{chunk_view, table_of_parts}
use Rattle.chunk_table.specs.Whole.{HasRange, follow_from}
use Rattle.chunk_table.proofs.Covers.{every_key}
use Rattle.chunk_table.proofs.table.Table.of.Goals as goal

pub invariant_of-result : goal.invariant_of-result
invariant_of-result c =
    let a = c.args in
    let follows : follow_from min_bound (map chunk_view a.chunks.items) ≡ true = cc in
    record {
      ranges = subst (λ (l : List Chunk). AllByRecursion HasRange (map chunk_view l)) c.deref.ensures.value (c.follow.ensures.ranges cc);
      follow = follows;
      owned = λ key valid. every_key (table_of_parts a.namespace a.epoch a.changes a.oldest a.chunks.items) key follows valid;
      count = rw length-map c.requires.count;
      writable = c.requires.writable;
    }
