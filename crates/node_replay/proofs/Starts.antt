-- What holds of each node as the nodes start.
use Rattle.std.proofs.Common.{◌≡◌, ℕ, zero, suc, ◌+◌, ◌<◌, ◌≤◌, List, [], ◌∷◌, ◌++◌, subst, arith}
use Rattle.std.specs.List.{AllByRecursion}
use Rattle.chunk_model.specs.Tables.{first_shard}
use Rattle.node_model.specs.States.{catalogue_state, shard_state, router_state, new_catalogue, new_shard, new_router}
use Rattle.node_model.specs.World.{Held, shards_from, routers_from, start}
use Rattle.node_laws.proofs.Places.{EachAt}

abbrev pub first_held : Held
first_held = record { state = catalogue_state (new_catalogue 0); kept = []; steps = 0 }

abbrev pub shard_held : ℕ → Held
shard_held at = record { state = shard_state (new_shard at); kept = []; steps = 0 }

abbrev pub router_held : (at shards : ℕ) → Held
router_held at shards = record { state = router_state (new_router at shards); kept = []; steps = 0 }

routers_each : (P : ℕ → Held → Type 0) (at shards n : ℕ) → ((j : ℕ) → at ≤ j → P j (router_held j shards)) → EachAt P at (routers_from at shards n)
routers_each P at shards zero router = tt
routers_each P at shards (suc n) router = (router at (omega arith), routers_each P (at + 1) shards n (λ j le. router j (omega arith)))

-- shards up to a place, and then other nodes
shards_each : (P : ℕ → Held → Type 0) (at n end : ℕ) (later : List Held) → ((j : ℕ) → at ≤ j → j < end → P j (shard_held j)) → at + n ≡ end
    → EachAt P end later → EachAt P at (shards_from at n ++ later)
shards_each P at zero end later shard same more =
    let here : end ≡ at = omega (arith, same) in
    subst (λ j. EachAt P j later) here more
shards_each P at (suc n) end later shard same more = (
  shard at (omega arith) (omega (arith, same)),
  shards_each P (at + 1) n end later (λ j le less. shard j (omega (arith, le)) less) (omega (arith, same)) more,
)

-- of each node by its place
pub places_each : (P : ℕ → Held → Type 0) (others routers : ℕ) → P 0 first_held
    → ((j : ℕ) → first_shard ≤ j → j < first_shard + others + 1 → P j (shard_held j))
    → ((j : ℕ) → first_shard + others + 1 ≤ j → P j (router_held j (others + 1))) → EachAt P 0 (start others routers).nodes
places_each P others routers catalogue shard router = (
  catalogue,
  (
    shard first_shard (omega arith) (omega arith),
    shards_each P (first_shard + 1) others (first_shard + others + 1) (routers_from (first_shard + others + 1) (others + 1) routers)
        (λ j le less. shard j (omega (arith, le)) less) (omega arith) (routers_each P (first_shard + others + 1) (others + 1) routers router),
  ),
)

pub starts_each : (P : ℕ → Held → Type 0) (others routers : ℕ) → P 0 first_held → ((j : ℕ) → P j (shard_held j))
    → ((j : ℕ) → first_shard < j → P j (router_held j (others + 1))) → EachAt P 0 (start others routers).nodes
starts_each P others routers catalogue shard router =
    places_each P others routers catalogue (λ j le less. shard j) (λ j le. router j (omega (arith, le)))

-- of each, wherever it is
all_each : (P : Held → Type 0) (at : ℕ) (nodes : List Held) → EachAt (λ j h. P h) at nodes → AllByRecursion P nodes
all_each P at [] each = tt
all_each P at (h ∷ nodes) each = (each.0, all_each P (at + 1) nodes each.1)

pub all_starts : (P : Held → Type 0) (others routers : ℕ) → P first_held → ((j : ℕ) → P (shard_held j)) → ((j : ℕ) → P (router_held j (others + 1)))
    → AllByRecursion P (start others routers).nodes
all_starts P others routers catalogue shard router =
    all_each P 0 (start others routers).nodes (starts_each (λ j h. P h) others routers catalogue shard (λ j later. router j))
