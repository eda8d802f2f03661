use Rattle.std.proofs.Common.{ap, sym, ◌∙◌, List, ◌++◌, map}
use Rattle.chunk_table.specs.Shards.{shard_number}
use Rattle.cluster_base.specs.declared.identity.NodeId.{NodeId}
use Rattle.write_runs.proofs.Placing.{is_found, none_found, others, stays_found}
use Rattle.write_runs.specs.Places.{place_view, shards_among}
use Rattle.write_runs.proofs.places.shards_of.Goals as goal
use Rattle.write_runs.proofs.places.shards_of.Goals.{then-not-is_among+in_ok-push, else-not-is_among}

pub loop-place-init : goal.loop-place-init
loop-place-init c =
    ap (λ (l : List NodeId). map shard_number l ++ others (map shard_number l) (shards_among (map place_view c.args.places.now))) c.new-shards.ensures.items
    ∙ none_found (shards_among (map place_view c.args.places.now))

pub loop-place-preserved : goal.loop-place-preserved
loop-place-preserved c =
    elim c.if-not-is_among.branch [
      | then-not-is_among+in_ok-push w ↦
          rw w.shards-is (is_found c.args.places.now c.loop-place.place-index c.loop-place-test.true
          c.loop-place.shards.items c.deref.result.now w.push.new.self.items _ c.deref.ensures.value w.in_ok-push.ensures.items
          (sym c.is_among.ensures ∙ w.if-not-is_among.true) c.loop-place.invariant)
      | else-not-is_among w ↦
          rw w.shards-is (stays_found c.args.places.now c.loop-place.place-index c.loop-place-test.true
          c.loop-place.shards.items c.deref.result.now _ c.deref.ensures.value (sym c.is_among.ensures ∙ w.if-not-is_among.false) c.loop-place.invariant)
    ]
