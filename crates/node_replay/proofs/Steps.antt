-- The records of each step of a node may follow, and lead to its durable part after it.
use Rattle.std.proofs.Common.{◌≡◌, ℕ, [], ◌∷◌, refl, ap, subst, arith}
use Rattle.std.specs.Prelude.{max, Some}
use Rattle.node_model.specs.Journal.{kept_life}
use Rattle.node_model.specs.Letters.{Input, opened_input, Effect, writes}
use Rattle.node_model.specs.States.{NodeState}
use Rattle.node_model.specs.Steps.{Step, catalogue_step, shard_step, router_step, begin_step, other_step}
use Rattle.node_model.specs.RouterRows.{begins, router_begin}
use Rattle.node_replay.specs.Durable.{durable_of, router_part, durable_catalogue, durable_shard, durable_router, empty_catalogue, empty_shard, empty_router, empty_of}
use Rattle.node_replay.specs.Replays.{replayed, records_of}
use Rattle.node_replay.specs.Holds.{Holds}
use Rattle.node_replay.specs.ReadTimes.{ComesInTime}
use Rattle.node_replay.proofs.Replay.{replayed_then}
use Rattle.node_replay.proofs.ShardFollows.{shard_follows}
use Rattle.node_replay.proofs.CatalogueFollows.{stored_with, catalogue_follows}
use Rattle.node_replay.proofs.RouterFollows.{RouterFollows, begins_holds, router_follows}

-- what a step has to show: the node is of the same kind and number, its records lead to its durable part; and it holds what nodes hold, where its
-- input comes in time
pub record StepFollows (stored : ℕ) (s : NodeState) (i : Input) (f : Effect) (t : NodeState) : Type 0 where
  pub own : empty_of t ≡ empty_of s
  pub leads : replayed (Some (durable_of stored s)) (records_of f.written) ≡ Some (durable_of (stored_with stored f) t)
  pub holds : ComesInTime i → Holds (stored_with stored f) t

-- where nothing is stored
unchanged_state : (early late : ℕ) (s : NodeState) → early ≡ late → Holds early s → (durable_of early s ≡ durable_of late s) × Holds late s
unchanged_state early late s same holds = (ap (λ n. durable_of n s) same, subst (λ n. Holds n s) same holds)

pub step_follows : (stored : ℕ) (s t : NodeState) (i : Input) (f : Effect) → Holds stored s → Step s i f t → StepFollows stored s i f t
step_follows stored _ _ _ _ holds (catalogue_step c d i f own row) =
    let h = catalogue_follows stored c d i f holds row in
    record { own = ap (λ n. durable_catalogue (empty_catalogue n)) h.own; leads = h.leads; holds = h.holds }
step_follows stored _ _ _ _ holds (shard_step s t i f own row) =
    let h = shard_follows s t i f holds row in
    record { own = ap (λ n. durable_shard (empty_shard n)) h.own; leads = h.leads; holds = h.holds }
step_follows stored _ _ _ _ holds (router_step r q i f own row) =
    let h = router_follows r q i f holds row in
    record { own = λ j. durable_router (empty_router (h.own j) (h.shards j)); leads = h.leads; holds = λ input. h.holds }
step_follows stored _ _ _ _ holds (begin_step r q i f not_begun before row) =
    let first : RouterFollows r (writes (kept_life r.life ∷ []) []) (begins r) = router_follows r (begins r) opened_input _ holds (router_begin r not_begun) in
    let h = router_follows (begins r) q i f (begins_holds r holds) row in
    record {
      own = λ j. durable_router (empty_router (h.own j) (h.shards j));
      leads = replayed_then (Some (durable_router (router_part r))) (kept_life r.life ∷ []) f.written (durable_router (router_part (begins r)))
          (durable_router (router_part q)) first.leads h.leads;
      holds = λ input. h.holds;
    }
step_follows stored _ _ _ _ holds (other_step s m apart) =
    let same : stored ≡ max stored 0 = omega arith in
    let h = unchanged_state stored (max stored 0) s same holds in
    record { own = refl; leads = ap (λ d. Some d) h.0; holds = λ input. h.1 }
