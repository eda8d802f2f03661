-- In a world that a call begins in all facts are true, nothing is under way, and routers know of shards.
use Rattle.std.proofs.Common.{ℕ, zero, suc, ◌+◌, refl}
use Rattle.std.specs.List.{AllByRecursion}
use Rattle.chunk_model.specs.Tables.{first_shard}
use Rattle.history_model.proofs.Lists.{all_append}
use Rattle.node_model.specs.World.{Held, World, shards_from, routers_from}
use Rattle.node_laws.proofs.StepsKeep.{StaysTrue}
use Rattle.node_laws.proofs.Runs.{start_true}
use Rattle.node_progress.specs.Completion.{IsQuiet}
use Rattle.node_progress.specs.Firsts.{IsAtRest, IsFirst, first_start, first_again}
use Rattle.node_progress.proofs.Restarted.{begins_at_rest, begins_shards, begins_true}
use Rattle.node_progress.proofs.Shards.{AreShards, start_shards}

shards_quiet : (at n : ℕ) → AllByRecursion (λ (h : Held). IsQuiet h.state) (shards_from at n)
shards_quiet at zero = tt
shards_quiet at (suc n) = (refl, shards_quiet (at + 1) n)

routers_quiet : (at shards n : ℕ) → AllByRecursion (λ (h : Held). IsQuiet h.state) (routers_from at shards n)
routers_quiet at shards zero = tt
routers_quiet at shards (suc n) = (refl, routers_quiet (at + 1) shards n)

pub first_true : (first : World) → IsFirst first → StaysTrue first
first_true _ (first_start others routers) = start_true others routers
first_true _ (first_again others routers u first reached begins) = begins_true others routers u first reached begins

pub first_rests : (first : World) → IsFirst first → IsAtRest first
first_rests _ (first_start others routers) = record {
  none_sent = refl;
  placed = tt;
  quiet = (
    tt,
    (
      refl,
      all_append (λ (h : Held). IsQuiet h.state) (shards_from (first_shard + 1) others) (routers_from (first_shard + others + 1) (others + 1) routers)
          (shards_quiet (first_shard + 1) others) (routers_quiet (first_shard + others + 1) (others + 1) routers),
    ),
  );
}
first_rests _ (first_again others routers u first reached begins) = begins_at_rest others routers u first reached begins

pub first_shards : (first : World) → IsFirst first → AreShards first.nodes
first_shards _ (first_start others routers) = start_shards others routers
first_shards _ (first_again others routers u first reached begins) = begins_shards others routers u first reached begins
