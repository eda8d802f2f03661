-- What every node holds by itself, at every moment of a run, whatever it is sent (own: the invariants that the laws on replays need); and
-- that its journal replays to its durable part.
use Rattle.std.specs.Prelude.{◌≡◌, ◌⊎◌, ◌≤◌, ℕ, [], true, Some}
use Rattle.node_model.specs.Journal.{greatest_kept}
use Rattle.node_model.specs.ShardRows.{top}
use Rattle.node_model.specs.States.{NodeState, catalogue_state, shard_state, router_state}
use Rattle.node_model.specs.World.{Held}
use Rattle.node_replay.specs.Durable.{durable_of, empty_of}
use Rattle.node_replay.specs.Replays.{replayed, records_of}
use Rattle.node_replay.specs.Openings.{opened_on}

-- No time that is stored is later than the node: the greatest that the catalogue stored, and that of a shard's entries and ceilings. Lives of
-- a router count from 1, and outside of a life it has no open request.
abbrev pub Holds : (stored : ℕ) → NodeState → Type 0
Holds stored (catalogue_state c) = stored ≤ c.time
Holds stored (shard_state s) = top s ≤ s.time
Holds stored (router_state r) = (1 ≤ r.life) × ((r.begun ≡ true) ⊎ (r.requests ≡ []))

-- so it is of what the journal of the node stores
abbrev pub HoldsOwn : Held → Type 0
HoldsOwn h = Holds (greatest_kept h.kept) h.state

-- the journal replays to the durable part of the node
abbrev pub Replays : Held → Type 0
Replays h = replayed (Some (empty_of h.state)) (records_of h.kept) ≡ Some (durable_of (greatest_kept h.kept) h.state)

-- a start on the journal is not refused
abbrev pub MayOpen : Held → Type 0
MayOpen h = (s : NodeState) × (opened_on h.state h.kept ≡ Some s)
