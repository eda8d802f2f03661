-- What a call for the next request returns.
use Rattle.std.specs.Prelude.{◌≡◌, ◌⊎◌, ℕ, ◌+◌, length, Option, Some, None, Result, Ok, Err}
use Rattle.opmsg_model.specs.Frames.{IsFirst}
use Rattle.opmsg_model.specs.Outline as wire
use Rattle.opmsg_model.specs.Requests as requests
use Rattle.opmsg_frames.specs.declared.fault.FrameFault.{FrameFault}
use Rattle.opmsg_frames.specs.declared.fault.FrameFault.TheVariants.{Malformed, Memory}
use Rattle.opmsg_frames.specs.declared.request.Request.{Request}
use Rattle.opmsg_frames.specs.Outlines.{fault_view}
use Rattle.opmsg_frames.specs.RequestMeanings.{IsMeant}
use Rattle.opmsg_frames.specs.FramerViews.{FramerView}

-- the first request was returned
pub record Given (old new : FramerView) (request : Request) (meant : requests.Request) : Type 0 where
  pub meant_is : IsMeant request meant
  pub first : IsFirst old.bytes meant new.bytes
  pub offset : new.offset ≡ old.offset + length meant.bytes
  pub fault : new.fault ≡ None

-- a fault is returned, and returned again
pub record Told (old new : FramerView) (fault : wire.FrameFault) (offset : ℕ) : Type 0 where
  pub at : offset ≡ old.offset
  pub cause : (old.fault ≡ Some fault) ⊎ ((old.fault ≡ None) × (wire.outline old.bytes ≡ wire.faulty_outline fault))
  pub bytes : new.bytes ≡ old.bytes
  pub offset_is : new.offset ≡ old.offset
  pub kept : new.fault ≡ Some fault

abbrev pub IsNext : FramerView → FramerView → Result (Option Request) FrameFault → Type 0
IsNext old new (Ok None) = (old.fault ≡ None) × (wire.outline old.bytes ≡ wire.partial_outline) × (new ≡ old)
IsNext old new (Ok (Some request)) = (old.fault ≡ None) × ((meant : requests.Request) × Given old new request meant)
IsNext old new (Err (Malformed fault offset)) = Told old new (fault_view fault) offset
IsNext old new (Err Memory) = (old.fault ≡ None) × (new ≡ old)
