-- What is known of requests to split.
use Rattle.std.proofs.Common.{◌≡◌, ℕ, ◌≤◌, List}
use Rattle.std.specs.Prelude.{None, Ok, true}
use Rattle.bson_model.specs.Tree.{Datum}
use Rattle.value_model.specs.Keys.{is_key}
use Rattle.base_model.specs.Identities.{RequestId}
use Rattle.command_model.specs.Split.{SplitCommand}
use Rattle.command_model.specs.Command.{split_command, command_of}
use Rattle.chunk_model.specs.Changes.{known_table}
use Rattle.history_model.specs.History.{IsIn}
use Rattle.reply_model.specs.Exchanges.{Asked}
use Rattle.reply_model.specs.Accounts.{Dated}
use Rattle.reply_model.specs.OneHistory.{changes_before}
use Rattle.reply_model.specs.Right.{WasSplit}
use Rattle.node_laws.proofs.Views.{View, changes_in}

-- the request of this number is to split a chunk of the collection at the key
pub record IsSplitOf (asked : List Asked) (id : RequestId) (namespace : List ℕ) (middle : Datum) (time : ℕ) : Type 0 where
  pub request : Asked
  pub taken : IsIn request asked
  pub own : request.id ≡ id
  pub asks : command_of request.request ≡ Ok (split_command (record { namespace = namespace; middle = middle }))
  pub key : is_key middle ≡ true
  pub past : request.time ≤ time

-- the catalogue had a chunk by a time that begins where a request of this number splits
pub record IsSplitDone (v : View) (asked : List Asked) (id : RequestId) (time : ℕ) : Type 0 where
  pub request : Asked
  pub taken : IsIn request asked
  pub own : request.id ≡ id
  pub split : SplitCommand
  pub asks : command_of request.request ≡ Ok (split_command split)
  pub begins : WasSplit (changes_in v) split.namespace split.middle time

-- as the request of this number came, which is to split, the changes made before it had created no such collection
pub record WasMissing (dated : List Dated) (asked : List Asked) (id : RequestId) : Type 0 where
  pub request : Asked
  pub taken : IsIn request asked
  pub own : request.id ≡ id
  pub split : SplitCommand
  pub asks : command_of request.request ≡ Ok (split_command split)
  pub none : known_table split.namespace (changes_before request.came dated) ≡ None

-- no change at all created the collection that the request of this number is to split
pub record IsMissing (v : View) (asked : List Asked) (id : RequestId) : Type 0 where
  pub request : Asked
  pub taken : IsIn request asked
  pub own : request.id ≡ id
  pub split : SplitCommand
  pub asks : command_of request.request ≡ Ok (split_command split)
  pub none : known_table split.namespace (changes_in v) ≡ None
