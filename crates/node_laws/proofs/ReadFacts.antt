-- What is known of reads: of which time they are, how their results are returned, and what a shard has for them.
use Rattle.std.proofs.Common.{◌≡◌, ℕ, ◌<◌, ◌≤◌, List}
use Rattle.std.specs.Prelude.{Some, None, Result, Ok, Err, Bool, true, false, nat_lt}
use Rattle.std.specs.List.{AllByRecursion}
use Rattle.std.specs.Option.{unwrap_or}
use Rattle.bson_model.specs.Tree.{Fields}
use Rattle.chunk_model.specs.Changes.{Change, create_change, split_change, commit_change}
use Rattle.command_model.specs.Command.{find_command, count_command, command_of}
use Rattle.command_model.specs.Find.{Find}
use Rattle.command_model.specs.Reading.{Reading}
use Rattle.base_model.specs.Identities.{RequestId}
use Rattle.reply_model.specs.Exchanges.{Asked}
use Rattle.history_model.specs.History.{IsIn}
use Rattle.reply_model.specs.Reads.{IfReached, time_wanted}
use Rattle.reply_model.specs.Right.{Reads, asks_for_one, usual_size}
use Rattle.pipeline_model.specs.Stages.{Stage}
use Rattle.pipeline_model.specs.Halves.{Half, Rows, IsHalf}
use Rattle.pipeline_model.specs.Lengths.{excess_of_half}
use Rattle.pipeline_model.specs.Split.{split}
use Rattle.node_model.specs.Letters.{HalfFault, half_overflow, half_excess}
use Rattle.node_model.specs.States.{Telling, in_batches, as_number, Work, writing, reading, sharding, splitting}
use Rattle.node_model.specs.Service.{documents_at}
use Rattle.node_model.specs.ShardRows.{IsTold}
use Rattle.node_laws.proofs.Views.{View, chosen_time, entries_in, changes_in, IsShardAt}

-- where the change creates a collection of this name, it is later than a time
abbrev pub BeginsAfter : (namespace : List ℕ) → ℕ → Change → Type 0
BeginsAfter namespace time (create_change c) = c.namespace ≡ namespace → time < c.at
BeginsAfter namespace time (split_change s) = Unit {0}
BeginsAfter namespace time (commit_change c) = Unit {0}

-- no collection of this name was created at or below a time, nor will one be
abbrev pub NoneBegan : View → (namespace : List ℕ) → ℕ → Type 0
NoneBegan v namespace time = (time ≤ v.bound 0) × AllByRecursion (BeginsAfter namespace time) (changes_in v)

-- THE TIME OF A READ

-- it reads at a time that is not reached
abbrev pub is_ahead : ℕ → Work → Bool
is_ahead time (writing kind ordered statements c) = false
is_ahead time (reading named at stages telling) = nat_lt time at
is_ahead time sharding = false
is_ahead time (splitting middle) = false

-- a read of a request is of this time: of the one that it names, of the router's as it took the request, or of one that is reached later
pub data IsTimeAt (a : Asked) (read : Reading) (at : ℕ) : (named : Bool) → Type 0 where
  is_named : read.at ≡ Some at → IsTimeAt a read at true
  is_own : read.at ≡ None → IfReached read.after a.time → at ≡ a.time → IsTimeAt a read at false
  is_reached : (after : ℕ) → read.at ≡ None → read.after ≡ Some after → a.time < after → after ≤ at → IsTimeAt a read at false

-- it waits for the time that it wants, and none is decided for it
pub record IsAwaited (v : View) (a : Asked) (id : RequestId) (at : ℕ) : Type 0 where
  pub read : Reading
  pub reads : Reads (command_of a.request) read
  pub wanted : time_wanted read ≡ Some at
  pub ahead : a.time < at
  pub undecided : chosen_time id v.chosen ≡ None

abbrev pub WaitsFor : View → Asked → RequestId → Work → Type 0
WaitsFor v a id (writing kind ordered statements c) = ⊥
WaitsFor v a id (reading named at stages telling) = IsAwaited v a id at
WaitsFor v a id sharding = ⊥
WaitsFor v a id (splitting middle) = ⊥

abbrev pub IsDecided : View → RequestId → Work → Type 0
IsDecided v id (writing kind ordered statements c) = Unit {0}
IsDecided v id (reading named at stages telling) = chosen_time id v.chosen ≡ Some at
IsDecided v id sharding = Unit {0}
IsDecided v id (splitting middle) = Unit {0}

-- HOW IT IS RETURNED

pub data IsTelling (a : Asked) : Reading → Telling → Type 0 where
  tells_find : (find : Find) → command_of a.request ≡ Ok (find_command find)
      → IsTelling a find.reading (in_batches (unwrap_or find.batches.size usual_size) (asks_for_one find.batches a.request))
  tells_count : (read : Reading) → command_of a.request ≡ Ok (count_command read) → IsTelling a read as_number

-- the work of a request that reads
pub record IsReading (a : Asked) (namespace : List ℕ) (named : Bool) (at : ℕ) (stages : List Stage) (telling : Telling) : Type 0 where
  pub read : Reading
  pub tells : IsTelling a read telling
  pub name : namespace ≡ read.namespace
  pub words : stages ≡ read.stages
  pub time : IsTimeAt a read at named

-- WHAT A SHARD HAS FOR IT

-- the half of a request's read, of the time that was decided for it
pub record IsReadOf (v : View) (asked : List Asked) (id : RequestId) (namespace : List ℕ) (at : ℕ) (half : Half) : Type 0 where
  pub request : Asked
  pub read : Reading
  pub taken : IsIn request asked
  pub own : request.id ≡ id
  pub reads : Reads (command_of request.request) read
  pub name : namespace ≡ read.namespace
  pub shows : half ≡ (split read.stages).0
  pub decided : chosen_time id v.chosen ≡ Some at

-- the documents of its half that the sender stores, now and later
pub record IsShown (v : View) (asked : List Asked) (sender time : ℕ) (id : RequestId) (namespace : List ℕ) (at : ℕ) (half : Half)
    (documents : List Fields) : Type 0 where
  pub read : IsReadOf v asked id namespace at half
  pub owner : IsShardAt sender
  pub documents_are : documents ≡ documents_at (entries_in v sender) namespace at half
  pub settled : at ≤ v.bound sender
  pub past : at ≤ time

-- rows that the half makes of them
pub record IsMade (v : View) (asked : List Asked) (sender time : ℕ) (id : RequestId) (rows : Rows) : Type 0 where
  pub namespace : List ℕ
  pub at : ℕ
  pub half : Half
  pub documents : List Fields
  pub shown : IsShown v asked sender time id namespace at half documents
  pub makes : IsHalf half documents rows

-- rows that are too much, with the length that is returned for them
pub record IsTooMuch (v : View) (asked : List Asked) (sender time : ℕ) (id : RequestId) (n : ℕ) : Type 0 where
  pub rows : Rows
  pub made : IsMade v asked sender time id rows
  pub length : ℕ
  pub excess : excess_of_half rows ≡ Some length
  pub told : IsTold length n

-- what a shard returns for a half; none overflows
abbrev pub RowsFit : View → List Asked → (sender time : ℕ) → RequestId → Result Rows HalfFault → Type 0
RowsFit v asked sender time id (Ok rows) = IsMade v asked sender time id rows
RowsFit v asked sender time id (Err half_overflow) = ⊥
RowsFit v asked sender time id (Err (half_excess n)) = IsTooMuch v asked sender time id n
