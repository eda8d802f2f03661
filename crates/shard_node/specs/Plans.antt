-- What a shard will be after a step, and that the step is one of its rows.
use Rattle.std.specs.Prelude.{◌≡◌, ◌≤◌, ℕ, [], ◌∷◌, ◌++◌, map, filter, not, nat_lt, true}
use Rattle.std.specs.Arc.{arc_value}
use Rattle.chunk_table.specs.Tables.{with_table}
use Rattle.node_model.specs.Service.{documents_at}
use Rattle.node_traits.specs.Effects.{AreReadable, StepPlanned, spellings}
use Rattle.node_traits.specs.Ids.{id_view}
use Rattle.node_traits.specs.Letters.{Body, Input, Effect, half_ask}
use Rattle.node_traits.specs.ShardRows.{ShardRow, at_later, under, wants_table}
use Rattle.node_traits.specs.States.{Shard, shard_state}
use Rattle.pipeline_lang.specs.Halves.{half_of}
use Rattle.protocol_model.specs.Messages.{letter_of}
use Rattle.protocol_model.specs.declared.reads.ReadAsk.{ReadAsk}
use Rattle.std.specs.Vec.{vec_len, vec_capacity}
use Rattle.shard_store.specs.Plans.{IsPlan, made_by, time_of}
use Rattle.shard_store.specs.Stores.{HasRoom, entries_of, last_of}
use Rattle.shard_node.specs.declared.node.ShardNode.{ShardNode}
use Rattle.shard_node.specs.declared.plan.Change.{Change}
use Rattle.shard_node.specs.declared.plan.Change.TheVariants.{Nothing, Park, Learn, Release, Ceil, Write}
use Rattle.shard_node.specs.declared.plan.StepPlan.{StepPlan}

-- the shard at a later time, and changed
abbrev pub changed : Shard → ℕ → Change → Shard
changed s time Nothing = at_later s time
changed s time (Park message) = record { me = s.me; time = time; tables = s.tables; entries = s.entries; ceiling = s.ceiling; parked = s.parked ++ letter_of message ∷ [] }
changed s time (Learn table) = record {
  me = s.me;
  time = time;
  tables = with_table (arc_value table) s.tables;
  entries = s.entries;
  ceiling = s.ceiling;
  parked = filter (λ p. not (wants_table (arc_value table).namespace p)) s.parked;
}
changed s time (Release namespace) = record {
  me = s.me;
  time = time;
  tables = s.tables;
  entries = s.entries;
  ceiling = s.ceiling;
  parked = filter (λ p. not (wants_table namespace p)) s.parked;
}
changed s time (Ceil at) = under s time at.0
changed s time (Write namespace entries) = record {
  me = s.me;
  time = time;
  tables = s.tables;
  entries = s.entries ++ made_by s.me namespace entries;
  ceiling = s.ceiling;
  parked = s.parked;
}

-- the half of a read that a shard has to make, of its documents at the time of the read
abbrev pub half_wanted : Shard → ReadAsk → Body
half_wanted s ask =
    half_ask (id_view ask.id) ask.turn ask.namespace ask.at.0 (half_of (arc_value ask.half)) (documents_at s.entries ask.namespace ask.at.0 (half_of (arc_value ask.half)))

abbrev pub after : Shard → StepPlan → Shard
after s p = changed s p.time.0 p.change

-- The plan is a transition of the shard on this input: its messages and its records are those of the transition, and no reply is returned.
pub record IsPlanned (s : Shard) (i : Input) (p : StepPlan) : Type 0 where
  pub effect : Effect
  pub row : ShardRow s i effect (after s p)
  pub sent : effect.mail ≡ map letter_of p.mail
  pub untold : effect.replies ≡ []
  pub readable : AreReadable effect.written
  pub spelled : p.records.items ≡ spellings effect.written

-- The plan is a step of the shard: a row, if the input is none of another node.
abbrev pub IsStep : Shard → Input → StepPlan → Type 0
IsStep s i p = StepPlanned (shard_state s) i (map letter_of p.mail) [] p.records.items (shard_state (after s p)) × (s.time ≤ p.time.0)

-- The entries of a plan, if it makes some, may follow those of the shard, and are no later than the plan.
abbrev pub FollowsBy : ShardNode → ℕ → Change → Type 0
FollowsBy n time Nothing = Unit {0}
FollowsBy n time (Park message) = Unit {0}
FollowsBy n time (Learn table) = Unit {0}
FollowsBy n time (Release namespace) = Unit {0}
FollowsBy n time (Ceil at) = Unit {0}
FollowsBy n time (Write namespace entries) = IsPlan (entries_of n.store) (last_of n.store) namespace entries × (time_of entries ≤ time)

abbrev pub Follows : ShardNode → StepPlan → Type 0
Follows n p = FollowsBy n p.time.0 p.change

-- there is room for the change
abbrev pub HasRoomFor : ShardNode → Change → Type 0
HasRoomFor n Nothing = Unit {0}
HasRoomFor n (Park message) = nat_lt (vec_len n.parked) (vec_capacity n.parked) ≡ true
HasRoomFor n (Learn table) = 1 ≤ n.tables.room
HasRoomFor n (Release namespace) = Unit {0}
HasRoomFor n (Ceil at) = Unit {0}
HasRoomFor n (Write namespace entries) = HasRoom n.store namespace entries

-- The shard may become what was planned, which takes no memory then.
pub record IsReady (n : ShardNode) (p : StepPlan) : Type 0 where
  pub later : last_of n.store ≤ p.time.0
  pub follows : Follows n p
  pub room : HasRoomFor n p.change
