-- What it means that every request is answered.
use Rattle.std.specs.Prelude.{◌≡◌, ℕ, List, [], None, Some, Ok, length, drop}
use Rattle.std.specs.List.{AllByRecursion, slice_get}
use Rattle.base_model.specs.Identities.{RequestId}
use Rattle.command_model.specs.Writes.{WriteCommand}
use Rattle.command_model.specs.Command.{write_command, command_of}
use Rattle.history_model.specs.History.{IsIn}
use Rattle.reply_model.specs.Exchanges.{Asked, Answered}
use Rattle.reply_model.specs.Accounts.{Account}
use Rattle.reply_model.specs.Right.{AreTold, IsWhole}
use Rattle.reply_model.specs.Outcomes.{Done}
use Rattle.reply_model.specs.OneHistory.{ids_told}
use Rattle.node_model.specs.Journal.{Kept}
use Rattle.node_model.specs.States.{Router, NodeState, catalogue_state, shard_state, router_state}
use Rattle.node_model.specs.World.{Held, World, account_of}

-- no request is open, and none waits for a table
abbrev pub IsQuiet : NodeState → Type 0
IsQuiet (catalogue_state c) = Unit {0}
IsQuiet (shard_state s) = s.parked ≡ []
IsQuiet (router_state r) = r.requests ≡ []

-- the request is of a router, in the life that goes on
pub record IsOfRouter (nodes : List Held) (id : RequestId) : Type 0 where
  pub router : Router
  pub kept : List Kept
  pub steps : ℕ
  pub here : slice_get nodes id.router ≡ Some (record { state = router_state router; kept = kept; steps = steps })
  pub life : id.life ≡ router.life

-- the requests that were taken since the first world
abbrev pub asked_since : (first w : World) → List Asked
asked_since first w = drop (length first.asked) w.asked

-- the request got a reply
abbrev pub IsAnswered : List Answered → Asked → Type 0
IsAnswered answered a = IsIn a.id (ids_told answered)

-- the outcomes of its statements, or of those up to the error that ends it, are those of entries that are stored, or say that a statement was given up
pub record HasToldAll (account : Account) (a : Asked) (write : WriteCommand) : Type 0 where
  pub answer : Answered
  pub told : IsIn answer account.answered
  pub own : answer.id ≡ a.id
  pub dones : List Done
  pub tells : AreTold account a answer write 0 write.operations dones

-- Of each write the outcomes of the statements are those of entries that are stored, under their numbers or of a greater transaction, or say that a statement was
-- given up. Of a write without a client's number each stored entry is of one of these statements, and no other is stored of it: so the entries of all statements
-- that were not given up are, up to the error that ends an ordered one. Both also where no reply is put.
pub record IsServedAs (account : Account) (a : Asked) (write : WriteCommand) : Type 0 where
  pub tells : HasToldAll account a write
  pub whole : write.number ≡ None → IsWhole account.history a.id write tells.dones

abbrev pub IsServed : Account → Asked → Type 0
IsServed account a = (write : WriteCommand) → command_of a.request ≡ Ok (write_command write) → IsServedAs account a write

-- Every request that was taken since a world is answered, and every write among them is served. Of earlier ones this says nothing.
pub record AreAnsweredSince (since w : World) : Type 0 where
  pub answered : AllByRecursion (IsAnswered w.answered) (asked_since since w)
  pub served : AllByRecursion (IsServed (account_of w)) (asked_since since w)

-- Every request that was taken since the first world is answered, every write among them is served, and nothing is under way.
pub record AreAnswered (first w : World) : Type 0 where
  pub answered : AllByRecursion (IsAnswered w.answered) (asked_since first w)
  pub served : AllByRecursion (IsServed (account_of w)) (asked_since first w)
  pub quiet : AllByRecursion (λ (h : Held). IsQuiet h.state) w.nodes
