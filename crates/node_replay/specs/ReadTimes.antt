-- The times that messages read at: none is later than the message that has it, nor than the node that keeps the message or the request (own).
use Rattle.std.specs.Prelude.{◌≤◌, ℕ}
use Rattle.std.specs.List.{AllByRecursion}
use Rattle.node_model.specs.Letters.{At, no_time, at_time, Body, table_ask, table_told, split_ask, split_done, write_ask, write_done, read_ask, half_ask, read_rows, refused, time_ask, time_told, Letter, Input, client_input, letter_input, moment_input, opened_input}
use Rattle.node_model.specs.States.{Work, writing, reading, sharding, splitting, Wait, for_time, for_catalogue, for_shards, Open, NodeState, catalogue_state, shard_state, router_state}

-- MESSAGES

abbrev pub IsNamedBy : ℕ → At → Type 0
IsNamedBy time no_time = Unit {0}
IsNamedBy time (at_time at) = at ≤ time

-- what a message reads at is not later than this time: that of the documents of a read, and of a table that is asked for
abbrev pub ReadsBy : ℕ → Body → Type 0
ReadsBy time (read_ask id turn namespace at half sent) = at ≤ time
ReadsBy time (table_ask namespace create at) = IsNamedBy time at
ReadsBy time (table_told namespace create at table) = Unit {0}
ReadsBy time (split_ask id namespace middle) = Unit {0}
ReadsBy time (split_done id found) = Unit {0}
ReadsBy time (write_ask id turn ordered namespace statements sent) = Unit {0}
ReadsBy time (write_done id dones) = Unit {0}
ReadsBy time (half_ask id turn namespace at half documents) = Unit {0}
ReadsBy time (read_rows id turn rows) = Unit {0}
ReadsBy time (refused what cause) = Unit {0}
ReadsBy time (time_ask id) = Unit {0}
ReadsBy time (time_told id) = Unit {0}

abbrev pub IsInTime : Letter → Type 0
IsInTime m = ReadsBy m.time m.body

-- of an input that is a message
abbrev pub ComesInTime : Input → Type 0
ComesInTime (letter_input m) = IsInTime m
ComesInTime (client_input link number request) = Unit {0}
ComesInTime (moment_input moment) = Unit {0}
ComesInTime opened_input = Unit {0}

-- NODES

abbrev pub WorksBy : ℕ → Work → Type 0
WorksBy time (writing kind ordered statements answers) = Unit {0}
WorksBy time (reading named at stages telling) = at ≤ time
WorksBy time sharding = Unit {0}
WorksBy time (splitting middle) = Unit {0}

-- an open request that does not wait for its time
abbrev pub WaitsBy : ℕ → Wait → Work → Type 0
WaitsBy time for_time work = Unit {0}
WaitsBy time for_catalogue work = WorksBy time work
WaitsBy time for_shards work = WorksBy time work

abbrev pub OpensBy : ℕ → Open → Type 0
OpensBy time q = WaitsBy time q.wait q.work

abbrev pub KeepsBy : ℕ → Letter → Type 0
KeepsBy time p = ReadsBy time p.body

-- what is parked at a shard, and what is open at a router
abbrev pub ReadsInTime : NodeState → Type 0
ReadsInTime (catalogue_state c) = Unit {0}
ReadsInTime (shard_state s) = AllByRecursion (KeepsBy s.time) s.parked
ReadsInTime (router_state r) = AllByRecursion (OpensBy r.time) r.requests
