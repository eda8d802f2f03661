-- What a piece has after taking.
use Rattle.std.specs.Prelude.{◌≡◌, ℕ, ◌<◌, Bool, IsTrue, List, [], take, Result, Ok, Err}
use Rattle.outside.specs.Streams.{Took}
use Rattle.pipe_driver.specs.declared.status.Status.{Status}
use Rattle.pipe_driver.specs.declared.status.Status.TheVariants as statuses

-- how many bytes have room in a piece
abbrev pub piece_room : ℕ
piece_room = 65536

-- so many bytes were taken, and are at the front of the piece
pub record TookBytes (count : ℕ) (piece : List ℕ) (tells : Bool) (left left_after : List ℕ) : Type 0 where
  pub took : Took tells left (take count piece) left_after
  pub some : 0 < count

-- why nothing is taken: the source is at its end, or it failed
pub data EndsTaking (tells : Bool) (left : List ℕ) : Status → Type 0 where
  at_source_end : (IsTrue tells → left ≡ []) → EndsTaking tells left statuses.InputEnded
  at_read_fault : EndsTaking tells left statuses.ReadFailed

abbrev pub AfterTaking : Result ℕ Status → List ℕ → Bool → List ℕ → List ℕ → Type 0
AfterTaking (Ok count) piece tells left left_after = TookBytes count piece tells left left_after
AfterTaking (Err status) piece tells left left_after = Took tells left [] left_after × EndsTaking tells left_after status
