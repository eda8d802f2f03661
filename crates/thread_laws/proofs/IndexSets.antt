-- Sets that keep their order may go to other threads, as their keys may.
use denote.RattleType.{RattleType}
use denote.Struct.Field.{unit-field}
use denote.Param.Send.{IsSend, sendable}
use Rattle.std.specs.declared.cmp.PartialEq as eq
use Rattle.std.specs.declared.hash.Hash as hash
use Rattle.std.specs.declared.hash.Hasher as hasher
use Rattle.std.specs.declared.hash.BuildHasher as builder
use Rattle.std.specs.contracts.alloc.Global as Heap
use Rattle.std.specs.contracts.impls.GlobalAllocator.TheImpl.{ghosts}
use Rattle.std.proofs.Crossing.{Vec-send}
use Rattle.indexmap.specs.contracts.columns.Columns as Columns
use Rattle.indexmap.specs.contracts.index_table.Bucket as Bucket
use Rattle.indexmap.specs.contracts.index_table.IndexTable as IndexTable
use Rattle.indexmap.specs.contracts.index_table.group.Group as Group
use Rattle.indexmap.specs.contracts.map.IndexMap as IndexMap
use Rattle.indexmap.specs.contracts.set.IndexSet as IndexSet

-- each part whole, since a `search` that goes down through all of them runs out of steps
Columns-send : (K V : RattleType) → IsSend K → IsSend V → IsSend (Columns.the_field K V Heap.the_row ghosts).row
Columns-send K V sk sv = search (sendable, Vec-send) depth 20

IndexTable-send : IsSend (IndexTable.the_field Heap.the_row ghosts).row
IndexTable-send =
    let groups = Vec-send Group.the_row (search sendable depth 20) in
    let buckets = Vec-send Bucket.the_row (search sendable depth 20) in
    search sendable depth 20

module _ (K V S T : RattleType) (e : eq.Ghosts K.Denot) (h : hash.Ghosts K.Denot) (b : builder.Ghosts S.Denot T.Denot) (w : hasher.Ghosts T.Denot) where
  IndexMap-send : IsSend K → IsSend V → IsSend S → IsSend (IndexMap.the_field K V S Heap.the_row T e h b w ghosts).row
  IndexMap-send sk sv ss = let columns = Columns-send K V sk sv in search (sendable, IndexTable-send) depth 20

module _ (K S T : RattleType) (e : eq.Ghosts K.Denot) (h : hash.Ghosts K.Denot) (b : builder.Ghosts S.Denot T.Denot) (w : hasher.Ghosts T.Denot) where
  pub IndexSet-send : IsSend K → IsSend S → IsSend (IndexSet.the_field K S Heap.the_row T e h b w ghosts).row
  IndexSet-send sk ss = let map = IndexMap-send K unit-field.row S T e h b w sk (search sendable) ss in search sendable depth 20
