-- What is known of the times that shards return to a read that waits for its time.
use Rattle.std.proofs.Common.{◌≡◌, ℕ, ◌<◌, ◌≤◌, List}
use Rattle.std.specs.Prelude.{Some, Ok}
use Rattle.std.specs.List.{AllByRecursion}
use Rattle.base_model.specs.ReplyParts.{operation_time}
use Rattle.command_model.specs.Writes.{WriteCommand}
use Rattle.command_model.specs.Command.{write_command, command_of}
use Rattle.history_model.specs.History.{Entry, IsIn}
use Rattle.reply_model.specs.Exchanges.{Asked, Answered, number_for}
use Rattle.reply_model.specs.Reads.{GivesUpNothing}
use Rattle.node_model.specs.States.{Open, Router, NodeState, catalogue_state, shard_state, router_state}
use Rattle.node_model.specs.RouterRequests.{id_of}
use Rattle.node_laws.proofs.Views.{View, history_in}

-- the entry is one of the statements of a write whose reply has the entry's time, and gives no statement up
abbrev pub IsToldOf : (s : Answered) (write : WriteCommand) (index : ℕ) (e : Entry) → Type 0
IsToldOf s write index e = (command_of s.request ≡ Ok (write_command write)) × (e.number ≡ number_for write.number s.id index)
    × (operation_time (Some s.document) ≡ Some e.time) × GivesUpNothing s write

-- no entry of a shard whose time any router had returned before the request came is above the time
abbrev pub IsPast : View → (shard : ℕ) → List Answered → Asked → ℕ → Type 0
IsPast v shard answered a time = (s : Answered) (write : WriteCommand) (index : ℕ) (e : Entry) → IsIn s answered → s.step < a.came
    → IsIn e (history_in v) → e.shard ≡ shard → IsToldOf s write index e → e.time ≤ time

-- of each shard that returned its time to an open request no such entry is above the router's time
pub record IsHeard (v : View) (asked : List Asked) (answered : List Answered) (r : Router) (q : Open) : Type 0 where
  pub request : Asked
  pub taken : IsIn request asked
  pub own : request.id ≡ id_of r q.count
  pub past : AllByRecursion (λ shard. IsPast v shard answered request r.time) q.told

-- what a router knows of shards: there is one at least, and what they returned
pub record HasHeard (v : View) (asked : List Asked) (answered : List Answered) (r : Router) : Type 0 where
  pub some : 0 < r.shards
  pub requests : AllByRecursion (IsHeard v asked answered r) r.requests

abbrev pub HeardFits : View → List Asked → List Answered → NodeState → Type 0
HeardFits v asked answered (catalogue_state c) = Unit {0}
HeardFits v asked answered (shard_state s) = Unit {0}
HeardFits v asked answered (router_state r) = HasHeard v asked answered r
