-- One step of a node: a transition of its kind; where a router's life did not begin, it begins before a request or a moment. A message to
-- another node has no effect.
use Rattle.std.specs.Prelude.{◌≡◌, ◌≢◌, ℕ, [], ◌∷◌, false}
use Rattle.node_model.specs.Letters.{Letter, Input, client_input, letter_input, moment_input, opened_input, Effect, nothing, writes, both}
use Rattle.node_model.specs.Journal.{kept_life}
use Rattle.node_model.specs.States.{Catalogue, Shard, Router, NodeState, catalogue_state, shard_state, router_state}
use Rattle.node_model.specs.CatalogueRows.{CatalogueRow}
use Rattle.node_model.specs.ShardRows.{ShardRow}
use Rattle.node_model.specs.RouterRows.{RouterRow, begins}

abbrev pub number_of : NodeState → ℕ
number_of (catalogue_state c) = c.me
number_of (shard_state s) = s.me
number_of (router_state r) = r.me

-- the input is none of another node
abbrev pub IsFor : ℕ → Input → Type 0
IsFor me (letter_input m) = m.receiver ≡ me
IsFor me (client_input link number request) = Unit {0}
IsFor me (moment_input moment) = Unit {0}
IsFor me opened_input = Unit {0}

-- a life begins before these
abbrev pub BeginsBefore : Input → Type 0
BeginsBefore (client_input link number request) = Unit {0}
BeginsBefore (moment_input moment) = Unit {0}
BeginsBefore (letter_input m) = ⊥
BeginsBefore opened_input = ⊥

pub data Step : NodeState → Input → Effect → NodeState → Type 0 where
  catalogue_step : (c d : Catalogue) (i : Input) (f : Effect) → IsFor c.me i → CatalogueRow c i f d → Step (catalogue_state c) i f (catalogue_state d)
  shard_step : (s t : Shard) (i : Input) (f : Effect) → IsFor s.me i → ShardRow s i f t → Step (shard_state s) i f (shard_state t)
  router_step : (r q : Router) (i : Input) (f : Effect) → IsFor r.me i → RouterRow r i f q → Step (router_state r) i f (router_state q)
  begin_step : (r q : Router) (i : Input) (f : Effect) → r.begun ≡ false → BeginsBefore i → RouterRow (begins r) i f q → Step (router_state r) i (both (writes (kept_life r.life ∷ []) []) f) (router_state q)
  other_step : (s : NodeState) (m : Letter) → m.receiver ≢ number_of s → Step s (letter_input m) nothing s
