-- One node with its log, at its place in a world, and a step of it (own).
use Rattle.std.specs.Prelude.{◌≡◌, ◌⊎◌, ℕ, ◌≤◌, Some, List, ◌++◌, Result, Ok, Err}
use Rattle.std.specs.List.{slice_get}
use Rattle.outside.specs.Causes.{Rose}
use Rattle.node_model.specs.Letters.{Letter, Input}
use Rattle.reply_model.specs.Accounts.{Lack}
use Rattle.node_model.specs.World.{Held, World, Moves, Misses, Event}
use Rattle.node_traits.specs.Calls.{IsWhole, LogCall}
use Rattle.node_traits.specs.Effects.{ByNotTaken, puts_of, spellings}
use Rattle.node_traits.specs.declared.outputs.NotTaken.{NotTaken}
use Rattle.node_traits.specs.declared.outputs.ToLink.{ToLink}
use Rattle.driver_steps.specs.Seats.{SeatView, Keeps, IsHeld}
use Rattle.driver_steps.specs.Moves.{IsEvent}

-- the node with its log is the one at a place of a world, also as for crashes
pub record StandsAt (seat : SeatView) (w : World) (at : ℕ) : Type 0 where
  pub held : Held
  pub here : slice_get w.nodes at ≡ Some held
  pub is : IsHeld seat held
  pub leaves : seat.leaves at w

-- The node at a place took a step on the input, whichever event that is, and gave out these messages and replies.
pub record StepsAt (seat : SeatView) (before : World) (at : ℕ) (i : Input) (mail : List Letter) (replies : List ToLink) : Type 0 where
  pub end : World
  pub moves : Moves before at i end
  pub held : Held
  pub here : slice_get end.nodes at ≡ Some held
  pub is : IsHeld seat held
  pub crashes : (e : Event) → IsEvent before at i e → seat.leaves at end
  pub sent : moves.f.mail ≡ mail
  pub told : replies ≡ puts_of moves.f.replies

-- it has taken as many steps as the node at that place
pub record IsCountedAt (seat : SeatView) (w : World) (at : ℕ) : Type 0 where
  pub held : Held
  pub here : slice_get w.nodes at ≡ Some held
  pub same : held.steps ≡ seat.steps

-- The node at a place took no step on the input, for this lack, whichever event that is, and gave out these messages.
pub record MissesAt (seat : SeatView) (before : World) (at : ℕ) (i : Input) (lack : Lack) (mail : List Letter) : Type 0 where
  pub end : World
  pub misses : Misses before at i end
  pub lacks : misses.lack ≡ lack
  pub held : Held
  pub here : slice_get end.nodes at ≡ Some held
  pub is : IsHeld seat held
  pub counted : held.steps ≡ seat.steps
  pub crashes : (e : Event) → IsEvent before at i e → seat.leaves at end
  pub sent : end.sent ≡ before.sent ++ mail

-- A disk failed in the step: the log stores what it stores after it (`last`), or before it. A crash meanwhile may have left either.
pub record BreaksAt (seat : SeatView) (before : World) (at : ℕ) (i : Input) : Type 0 where
  pub end : World
  pub last : World
  pub which : (end ≡ before) ⊎ (end ≡ last)
  pub moves : Moves before at i last
  pub held : Held
  pub here : slice_get end.nodes at ≡ Some held
  pub keeps : Keeps seat held.kept
  pub crashes : (e : Event) → IsEvent before at i e → seat.leaves at last

-- such a step, and what a crash during it left of the log: its records with those of the step, or without them
pub record StepsOn (call : LogCall) (seat : SeatView) (before : World) (at : ℕ) (i : Input) (mail : List Letter) (replies : List ToLink) : Type 0 where
  pub steps : StepsAt seat before at i mail replies
  pub whole : IsWhole call (spellings steps.moves.f.written)

pub record BreaksOn (call : LogCall) (seat : SeatView) (before : World) (at : ℕ) (i : Input) : Type 0 where
  pub breaks : BreaksAt seat before at i
  pub whole : IsWhole call (spellings breaks.moves.f.written)

-- a disk's count of faults rose, and a fault names it
pub record NamesFault (faults before after : ℕ) : Type 0 where
  pub named : faults ≡ after
  pub rose : Rose before after
  pub no_fall : before ≤ after

-- where a disk failed its count of faults rose; elsewhere it is as before
abbrev pub TellsFault : {X : Type 0} → Result X NotTaken → (before after : ℕ) → Type 0
TellsFault (Ok x) before after = after ≡ before
TellsFault (Err fault) before after = ByNotTaken fault (λ faults. NamesFault faults before after) (after ≡ before)
